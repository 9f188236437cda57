-- Document 01's bytes: how a vocabulary and a term are written, the refusal list, and what the calls promise.
-- Each file rests only on those before it.
-- What has to be believed: the writings ..
pub mod Reply
pub mod Map
pub mod Row
pub mod Vocabulary
pub mod TermBytes
pub mod FillingFile
pub mod BookBytes
-- .. the refusal list ..
pub mod Refusals
pub mod VocabularyLines
pub mod TermLines
pub mod SituationLines
pub mod PatternLines
pub mod FillingLines
pub mod BookLines
-- .. and the promises.
pub mod Checking
pub mod Matching
pub mod Leftovers
pub mod Filled
pub mod BookLeftovers
pub mod Text
pub mod Printing
-- Ways to compute the replies, which laws fix:
pub mod Effect
pub mod Parser
pub mod GapComputed
pub mod CheckComputed
pub mod SituationComputed
pub mod Scan
pub mod MatchComputed
pub mod Splicing
pub mod ListComputed
pub mod Settling
pub mod FillComputed
pub mod BookComputed
pub mod EntryBytes
pub mod EntryMaps
pub mod EntrySizes
pub mod EntryAgainst
pub mod PrintComputed
-- Where an entry of a listing ends, without the vocabulary:
pub mod EntryCut
-- What is proved of all of it, and the starred cases:
pub mod Laws
pub mod Starred
