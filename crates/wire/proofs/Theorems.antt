-- Theorems: what is proved of the bytes, in one place.
--
--   in_order_is_well_formed  the signature of a vocabulary in order is well_formed
--   vocabularies_inverse     a vocabulary is accepted exactly where it is the writing of a good one
--   terms_inverse            a term is read exactly where it is the writing of a good one, with no limits
--   limits_are_a_test        a term is accepted by a call exactly where it is read with no limits and has at most 4,096 bytes and 32 levels
--   complete_is_ground       a good term is complete exactly where it is a ground term of its kind
--   no_gap_is_complete       a term has no gap exactly where it is complete
--   full_map_means_no_open_place   a written map equals its word's place map exactly where no place is open
--   entries_are_good         each entry of a good linear pattern is one, and is never longer than the pattern
--   vocabulary_refusals      a vocabulary is refused exactly by lines 1 to 5 of the refusal list
--   term_refusals            a term is refused exactly by lines 7 to 15 of the refusal list
--   first_gap_is_exact       first_gap gives the first gap of a good term, where there is one
--   situation_refusals       a situation is refused exactly by lines 7 to 17 of the refusal list
--   vocabulary-fixed, term-fixed, match_fixed, part-fixed, list-fixed, fill-fixed, print_fixed
--                            a promise fixes the reply and what stands in the lent slices
--   vocabulary-keeps         what is computed of the vocabulary check's reply keeps what the check promises
--   term-keeps               what is computed of the term check's reply keeps what the check promises
--   match_keeps              what is computed of match's reply and table keeps what match promises
--   part-keeps               what is computed of part's reply keeps what part promises
--   judge_keeps              what is computed of judging the inputs of match is what match refuses by
--   part_is_table            part's span is the one that match's table gives the name
--   linear_refusals          a pattern to be listed is refused exactly by lines 7 to 15 and 18 of the refusal list
--   filling_refusals         a filling file is refused exactly by lines 21 and 22 of the refusal list
--   entries_inverse          whole patterns are read off bytes exactly where the bytes are their writings
--   filled_is_good           the pattern with each name replaced is a good term
--   complete_without_open_place   .. which is complete exactly where the pattern has no open place and is no 255
--   fill_inputs_are_one      the bytes of fill's inputs write one vocabulary, one pattern and one filling only
--   fillings_inverse         a filling file is accepted for a pattern exactly where it is the writing of a good filling
--   pattern_is_one           the bytes of list's inputs write one vocabulary and one pattern only
--   books_inverse            a book is accepted exactly where it is the writing of a good one
--   book_is_one              the bytes of list_book's inputs write one vocabulary and one book only
--   book_refusals            a book is refused exactly by its lines
--   book_keeps, book_fixed   what is computed of a book's listing keeps list_book's promise, which fixes the reply
--   entries_by_spots         the entries of a pattern are those at its words, from left to right
--   spots_by_bits            the words of a term, by the bits of its written map
--   pattern-count, pattern-length   one pass over a good pattern counts its entries and their bytes
--   cut_by_bytes             the leftovers of an entry against a pattern, as both are walked from left to right
--   settled-in_order, settled_is_settled, settled_writes, settled-holds
--                            the settled vocabulary is in order, has the settled signature, writes every term as the vocabulary does, and
--                            holds the terms all of whose words are productive
--   fruitful-leftovers       what is listed for these is document 01's listing over the settled vocabulary
--   list-keeps               what is computed of list's reply and lent slice keeps what list promises
--   filled-matches           what match computes for a complete result of fill: yes, and the parts that the file gave
--   decimal_is_exact         a number in decimal is of digits that stand for it, with no needless zero in front
--   print_keeps              the program's text is the refusal or the listing that list's promise speaks of
--   accepted_is_short        an accepted vocabulary has at most 962 bytes
--   more_alters_nothing      the program's text for the bytes that it takes is the text for all bytes of the input
--   starred_hold             every starred case has the reply that document 01 gives
--
use Rattle.wire.specs.Laws.{InOrderIsWellFormed, VocabulariesInverse, TermsInverse, LimitsAreATest, CompleteIsGround, NoGapIsComplete, FullMapMeansNoOpenPlace, EntriesAreGood, VocabularyRefusals, TermRefusals, FirstGapIsExact, SituationRefusals, VocabularyFixed, TermFixed, MatchFixed, PartFixed, ListFixed, FillFixed, PrintFixed, VocabularyKeeps, TermKeeps, MatchKeeps, PartKeeps, JudgeKeeps, PartIsTable, EntriesInverse, FilledIsGood, CompleteWithoutOpenPlace, FillInputsAreOne, PatternIsOne, LinearRefusals, ListKeeps, FillKeeps, FilledMatches, DecimalIsExact, PrintKeeps, AcceptedIsShort, MoreAltersNothing, FillingsInverse, FillingRefusals, BooksInverse, BookIsOne, BookRefusals, BookKeeps, BookFixed}
use Rattle.wire.specs.EntryBytes.{EntriesBySpots}
use Rattle.wire.specs.EntryMaps.{SpotsByBits}
use Rattle.wire.specs.EntrySizes.{PatternCount, PatternLength}
use Rattle.wire.specs.EntryAgainst.{CutByBytes}
use Rattle.wire.specs.Settling.{SettledInOrder, SettledIsSettled, SettledWrites, SettledHolds, FruitfulLeftovers}
use Rattle.wire.specs.Starred.{StarredHold}

pub in_order_is_well_formed : InOrderIsWellFormed
in_order_is_well_formed = Rattle.wire.proofs.Words.in_order_well_formed

pub vocabularies_inverse : VocabulariesInverse
vocabularies_inverse = Rattle.wire.proofs.VocabulariesInverse.vocabularies_inverse

pub terms_inverse : TermsInverse
terms_inverse = Rattle.wire.proofs.TermsInverse.terms_inverse

pub limits_are_a_test : LimitsAreATest
limits_are_a_test = Rattle.wire.proofs.Limits.limits_are_a_test

pub complete_is_ground : CompleteIsGround
complete_is_ground = Rattle.wire.proofs.Complete.complete_is_ground

pub no_gap_is_complete : NoGapIsComplete
no_gap_is_complete = Rattle.wire.proofs.Complete.no_gap_is_complete

pub full_map_means_no_open_place : FullMapMeansNoOpenPlace
full_map_means_no_open_place = Rattle.wire.proofs.FullMap.full_map_means_no_open_place

pub entries_are_good : EntriesAreGood
entries_are_good = Rattle.wire.proofs.Entries.entries_are_good

pub vocabulary_refusals : VocabularyRefusals
vocabulary_refusals = Rattle.wire.proofs.VocabularyRefusals.vocabulary_refusals

pub term_refusals : TermRefusals
term_refusals = Rattle.wire.proofs.TermRefusals.term_refusals

pub first_gap_is_exact : FirstGapIsExact
first_gap_is_exact = Rattle.wire.proofs.Gaps.first_gap_is_exact

pub situation_refusals : SituationRefusals
situation_refusals = Rattle.wire.proofs.SituationRefusals.situation_refusals

pub vocabulary-fixed : VocabularyFixed
vocabulary-fixed = Rattle.wire.proofs.Fixed.vocabulary-fixed

pub term-fixed : TermFixed
term-fixed = Rattle.wire.proofs.Fixed.term-fixed

pub match_fixed : MatchFixed
match_fixed = Rattle.wire.proofs.Fixed.match_fixed

pub part-fixed : PartFixed
part-fixed = Rattle.wire.proofs.Fixed.part-fixed

pub list-fixed : ListFixed
list-fixed = Rattle.wire.proofs.Fixed.list-fixed

pub fill-fixed : FillFixed
fill-fixed = Rattle.wire.proofs.Fixed.fill-fixed

pub print_fixed : PrintFixed
print_fixed = Rattle.wire.proofs.Fixed.print_fixed

pub vocabulary-keeps : VocabularyKeeps
vocabulary-keeps = Rattle.wire.proofs.Checking.vocabulary-keeps

pub term-keeps : TermKeeps
term-keeps = Rattle.wire.proofs.Checking.term-keeps

pub match_keeps : MatchKeeps
match_keeps = Rattle.wire.proofs.Matching.match_keeps

pub part-keeps : PartKeeps
part-keeps = Rattle.wire.proofs.Matching.part-keeps

pub judge_keeps : JudgeKeeps
judge_keeps = Rattle.wire.proofs.Judging.judge_keeps

pub part_is_table : PartIsTable
part_is_table = Rattle.wire.proofs.PartTable.part_is_table

pub linear_refusals : LinearRefusals
linear_refusals = Rattle.wire.proofs.LinearRefusals.linear_refusals

pub filling_refusals : FillingRefusals
filling_refusals = Rattle.wire.proofs.FillingRefusals.filling_refusals

pub entries_inverse : EntriesInverse
entries_inverse = Rattle.wire.proofs.EntriesRead.entries_inverse

pub filled_is_good : FilledIsGood
filled_is_good = Rattle.wire.proofs.FilledTerms.filled_is_good

pub complete_without_open_place : CompleteWithoutOpenPlace
complete_without_open_place = Rattle.wire.proofs.FilledTerms.complete_without_open_place

pub fill_inputs_are_one : FillInputsAreOne
fill_inputs_are_one = Rattle.wire.proofs.FillKeeps.fill_inputs_are_one

pub fillings_inverse : FillingsInverse
fillings_inverse = Rattle.wire.proofs.FillingsInverse.fillings_inverse

pub pattern_is_one : PatternIsOne
pattern_is_one = Rattle.wire.proofs.Leftovers.pattern_is_one

pub books_inverse : BooksInverse
books_inverse = Rattle.wire.proofs.BooksInverse.books_inverse

pub book_is_one : BookIsOne
book_is_one = Rattle.wire.proofs.BooksInverse.book_is_one

pub book_refusals : BookRefusals
book_refusals = Rattle.wire.proofs.BookRefusals.book_refusals

pub book_keeps : BookKeeps
book_keeps = Rattle.wire.proofs.BookLeftovers.book_keeps

pub book_fixed : BookFixed
book_fixed = Rattle.wire.proofs.Fixed.book_fixed

pub entries_by_spots : EntriesBySpots
entries_by_spots = Rattle.wire.proofs.EntryBytes.entries-bytes

pub spots_by_bits : SpotsByBits
spots_by_bits = Rattle.wire.proofs.EntryMaps.spots_by_bits

pub pattern-count : PatternCount
pattern-count = Rattle.wire.proofs.EntrySizes.pattern-count

pub pattern-length : PatternLength
pattern-length = Rattle.wire.proofs.EntrySizes.pattern-length

pub cut_by_bytes : CutByBytes
cut_by_bytes = Rattle.wire.proofs.AgainstBytes.cut_by_bytes

pub settled-in_order : SettledInOrder
settled-in_order = Rattle.wire.proofs.Settling.settled-in_order

pub settled_is_settled : SettledIsSettled
settled_is_settled = Rattle.wire.proofs.Settling.settled_is_settled

pub settled_writes : SettledWrites
settled_writes = Rattle.wire.proofs.Settling.settled_writes

pub settled-holds : SettledHolds
settled-holds = Rattle.wire.proofs.Settling.settled-holds

pub fruitful-leftovers : FruitfulLeftovers
fruitful-leftovers = Rattle.wire.proofs.Settling.fruitful-leftovers

pub list-keeps : ListKeeps
list-keeps = Rattle.wire.proofs.Leftovers.list-keeps

pub fill-keeps : FillKeeps
fill-keeps = Rattle.wire.proofs.FillKeeps.fill-keeps

pub filled-matches : FilledMatches
filled-matches = Rattle.wire.proofs.FilledMatches.filled-matches

pub decimal_is_exact : DecimalIsExact
decimal_is_exact = Rattle.wire.proofs.Text.decimal_is_exact

pub print_keeps : PrintKeeps
print_keeps = Rattle.wire.proofs.Printing.print_keeps

pub accepted_is_short : AcceptedIsShort
accepted_is_short = Rattle.wire.proofs.VocabularyMore.accepted_is_short

pub more_alters_nothing : MoreAltersNothing
more_alters_nothing = Rattle.wire.proofs.Printing.more_alters_nothing

pub starred_hold : StarredHold
starred_hold = Rattle.wire.proofs.Starred.starred_hold
