-- The engineers' own words: how vocabularies, patterns and leftovers are written and read. Each file rests only on those before it.
-- What has to be believed:
pub mod Lexemes
pub mod Names
pub mod Spelling
pub mod Lexicon
pub mod Phrases
pub mod Questions
pub mod Files
pub mod Faults
pub mod Complaints
pub mod Verdicts
pub mod Leftovers
pub mod Notes
pub mod Together
pub mod Tails
pub mod Answers
-- Ways to compute it. Laws fix what they accept and where a fault is; which reason is given there is what these files say:
pub mod Saying
pub mod LexiconReading
pub mod PhraseReading
pub mod QuestionReading
pub mod Comparing
pub mod Tabled
pub mod Answering
-- What the desk promises:
pub mod Desk
-- What is proved of it:
pub mod Laws
