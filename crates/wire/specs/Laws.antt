-- Laws: what is proved of the bytes, the refusal list and the replies. Nothing here has to be believed: proofs/ has a proof
-- of each.
--
--   InOrderIsWellFormed       the signature of a vocabulary in order is well_formed
--   VocabulariesInverse       a vocabulary is accepted exactly where it is the writing of one in order
--   TermsInverse              a term is read exactly where it is the writing of a good one, with no limits
--   LimitsAreATest            the limits on a term handed to a call are a test of their own
--   CompleteIsGround          a good term is complete exactly where it is a ground term of its kind
--   NoGapIsComplete           a term has no gap exactly where it is complete
--   FullMapMeansNoOpenPlace   a written map equals its word's place map exactly where no place is open
--   EntriesAreGood            each entry of a good linear pattern is one, and is never longer than the pattern
--   EntriesInverse            so many whole patterns are read off bytes exactly where the bytes are their writings
--   FillingsInverse           a filling file is accepted for a pattern exactly where it is the writing of a good filling
--   FilledIsGood              the pattern with each name replaced is a good term
--   CompleteWithoutOpenPlace  .. which is complete exactly where the pattern has no open place and is no 255
--   FillInputsAreOne          the bytes of fill's inputs write one vocabulary, one pattern and one filling only
--   PatternIsOne              the bytes of list's inputs write one vocabulary and one pattern only
--   BooksInverse              a book is accepted exactly where it is the writing of a good one
--   BookIsOne                 the bytes of list_book's inputs write one vocabulary and one book only
--   BookRefusals              a book that is read is refused by its lines
--   RefusesBy Line r          the reading r refuses with a number exactly where its line decides, and some line fits
--                             exactly where it accepts nothing
--   VocabularyRefusals, TermRefusals, SituationRefusals, LinearRefusals, FillingRefusals    what is read is refused by
--                             these lines
--   FirstGapIsExact           first_gap gives the first gap, where there is one
--   VocabularyFixed, TermFixed, MatchFixed, PartFixed, ListFixed, FillFixed, PrintFixed    a promise fixes the reply and
--                             what is lent
--   VocabularyKeeps, TermKeeps, MatchKeeps, PartKeeps, ListKeeps, FillKeeps, PrintKeeps    what is computed keeps the
--                             promises
--   BookFixed                 list_book's promise fixes the reply, and the lent slice where the reply is a refusal
--   BookKeeps                 what is computed of a book's listing keeps the promise
--   FilledMatches             what match computes for a complete result of fill: yes, and the parts that the file gave
--   InputsPromise v p s r     what judging the inputs of match is to give
--   JudgeKeeps                what is computed of judging them does
--   PartIsTable               part's span is the one that match's table gives the name
--   value_from, value          the number that decimal digits stand for
--   DecimalIsExact            a number in decimal is of digits that stand for it, with no needless zero in front
--   most_vocabulary            document 01's bound on the bytes of an accepted vocabulary (962)
--   AcceptedIsShort           an accepted vocabulary has at most so many bytes
--   MoreAltersNothing         the text for the bytes that are taken is the text for all bytes of the input
--
use Rattle.std.specs.Prelude.{◌≡◌, true, false, List, [], ◌∷◌, ◌↔◌, ◌⊎◌, ℕ, ◌+◌, ◌*◌, ◌-◌, ◌<◌, ◌≤◌, length, get_or, replicate}
use Rattle.std.proofs.Math.Option.{some, none}
use Prim.Native.Char.{code}
use Rattle.terms.specs.Lists.{All, occurs}
use Rattle.terms.specs.Signature.{WellFormed}
use Rattle.terms.specs.Term.{Term, Terms, Ground, SortedAll, SortedG, Linear, as_term, names, openings}
use Rattle.terms.specs.Filling.{Binding}
use Rattle.terms.specs.Replacing.{replace}
use Rattle.terms.specs.Listing.{IsListing}
use Rattle.wire.specs.Reply.{Reply, accepted, refused, Kinded, kinded, IsBytes}
use Rattle.wire.specs.Vocabulary.{Vocabulary, signature, word, map_of, InOrder, HoldsVocabulary}
use Rattle.wire.specs.TermBytes.{name_count, written_map, encode_term, GoodTerm, deepest, most_bytes, most_levels, Limits, complete}
use Rattle.wire.specs.Refusals.{Decides}
use Rattle.wire.specs.VocabularyLines.{VocabularyLine}
use Rattle.wire.specs.TermLines.{TermLine}
use Rattle.wire.specs.SituationLines.{FirstGap, SituationLine}
use Rattle.wire.specs.PatternLines.{PatternLine}
use Rattle.wire.specs.Checking.{VocabularyPromise, TermPromise}
use Rattle.wire.specs.Matching.{Inputs, HoldsInputs, table_length, Span, no_span, span_in, cut_out, yes, MatchRefusal, MatchPromise, PartPromise}
use Rattle.wire.specs.Leftovers.{HoldsPattern, entries_bytes, ListPromise}
use Rattle.wire.specs.FillingFile.{GoodFilling, HoldsFilling}
use Rattle.wire.specs.FillingLines.{FillingLine}
use Rattle.wire.specs.Filled.{FillInputs, HoldsFillInputs, filled_term, filled_bytes, value_span, FillPromise}
use Rattle.wire.specs.BookBytes.{HoldsBook}
use Rattle.wire.specs.BookLines.{BookLine}
use Rattle.wire.specs.BookLeftovers.{BookPromise}
use Rattle.wire.specs.Text.{decimal}
use Rattle.wire.specs.Printing.{vocabulary_part, pattern_part, PrintPromise}
use Rattle.wire.specs.Parser.{Reading, accept, refuse, got, read_vocabulary, read_any}
use Rattle.wire.specs.CheckComputed.{checked_term, vocabulary_reply, term_reply}
use Rattle.wire.specs.GapComputed.{some_open, first_gap}
use Rattle.wire.specs.SituationComputed.{checked_situation}
use Rattle.wire.specs.MatchComputed.{judged, clear_reply, matched, part_span, part_of}
use Rattle.wire.specs.ListComputed.{checked_linear, listed, read_entries}
use Rattle.wire.specs.FillComputed.{read_filling, filled}
use Rattle.wire.specs.BookComputed.{read_book, book_listed}
use Rattle.wire.specs.PrintComputed.{printed_from, printed}

-- ---- writing and reading

abbrev pub InOrderIsWellFormed : Type 0
InOrderIsWellFormed = (W : Vocabulary) → InOrder W → WellFormed (signature W)

abbrev pub VocabulariesInverse : Type 0
VocabulariesInverse =
    (b : List ℕ) (W : Vocabulary) → IsBytes b →
    (read_vocabulary b ≡ accept W) ↔ HoldsVocabulary b W

abbrev pub TermsInverse : Type 0
TermsInverse =
    (W : Vocabulary) (b : List ℕ) (s : ℕ) (t : Term) → InOrder W → IsBytes b →
    (read_any W b ≡ accept (kinded s t)) ↔ (GoodTerm W s t × (b ≡ encode_term W s t))

abbrev pub LimitsAreATest : Type 0
LimitsAreATest =
    (W : Vocabulary) (b : List ℕ) (k : Kinded) →
    (checked_term W b ≡ accept k) ↔ ((read_any W b ≡ accept k) × (length b ≤ most_bytes) × (deepest k.term ≤ most_levels))

-- ---- complete terms are the ground terms of the theory, of any size

abbrev pub CompleteIsGround : Type 0
CompleteIsGround =
    (W : Vocabulary) (s : ℕ) (t : Term) → s < W.kinds →
    (GoodTerm W s t × (complete t ≡ true)) ↔ ((g : Ground) × SortedG (signature W) g s × (t ≡ as_term g))

abbrev pub NoGapIsComplete : Type 0
NoGapIsComplete = (W : Vocabulary) (t : Term) → (first_gap W t ≡ none) ↔ (complete t ≡ true)

-- "every written map equals its word's place map": what `complete` says by open places.
abbrev pub FullMapMeansNoOpenPlace : Type 0
FullMapMeansNoOpenPlace =
    (W : Vocabulary) (f : ℕ) (ts : Terms) → InOrder W → f < length W.words → SortedAll (signature W) ts (word W f).kinds →
    (written_map W f ts ≡ map_of W f) ↔ (some_open ts ≡ false)

-- ---- entries

abbrev pub EntriesAreGood : Type 0
EntriesAreGood =
    (W : Vocabulary) (s : ℕ) (p : Term) → GoodTerm W s p → Linear p →
    (l : List Term) → IsListing (signature W) s p l →
    All (λ e. GoodTerm W s e × Linear e × (length (encode_term W s e) ≤ length (encode_term W s p))) l

abbrev pub EntriesInverse : Type 0
EntriesInverse =
    (W : Vocabulary) (n : ℕ) (b : List ℕ) (l : List Kinded) → InOrder W → IsBytes b →
    (read_entries W n b ≡ got l []) ↔
    ((length l ≡ n) × All (λ k. GoodTerm W k.kind k.term) l × (b ≡ entries_bytes W l))

-- ---- filling files

abbrev pub FillingsInverse : Type 0
FillingsInverse =
    (W : Vocabulary) (s : ℕ) (t : Term) (b : List ℕ) (bs : List Binding) → InOrder W → GoodTerm W s t → IsBytes b →
    (read_filling W s t b ≡ accept bs) ↔ HoldsFilling W s t b bs

abbrev pub FilledIsGood : Type 0
FilledIsGood =
    (W : Vocabulary) (s : ℕ) (t : Term) (bs : List Binding) → GoodTerm W s t → GoodFilling W s t bs → GoodTerm W s (replace bs t)

abbrev pub CompleteWithoutOpenPlace : Type 0
CompleteWithoutOpenPlace = (t : Term) (bs : List Binding) → (complete (replace bs t) ≡ true) ↔ (openings t ≡ 0)

abbrev pub FillInputsAreOne : Type 0
FillInputsAreOne =
    (v p b : List ℕ) (x y : FillInputs) → IsBytes v → IsBytes p → IsBytes b → HoldsFillInputs v p b x → HoldsFillInputs v p b y → x ≡ y

abbrev pub PatternIsOne : Type 0
PatternIsOne =
    (v p : List ℕ) (W W' : Vocabulary) (s s' : ℕ) (t t' : Term) → IsBytes v → IsBytes p →
    HoldsPattern v p W s t → HoldsPattern v p W' s' t' → (W ≡ W') × (s ≡ s') × (t ≡ t')

-- ---- books

abbrev pub BooksInverse : Type 0
BooksInverse =
    (W : Vocabulary) (b : List ℕ) (s : ℕ) (ts : List Term) → InOrder W → IsBytes b →
    (read_book W b ≡ accept (record { kind = s; patterns = ts })) ↔ HoldsBook W b s ts

abbrev pub BookIsOne : Type 0
BookIsOne =
    (v b : List ℕ) (W W' : Vocabulary) (s s' : ℕ) (ts ts' : List Term) → IsBytes v → IsBytes b →
    HoldsVocabulary v W → HoldsBook W b s ts → HoldsVocabulary v W' → HoldsBook W' b s' ts' → (W ≡ W') × (s ≡ s') × (ts ≡ ts')

abbrev pub BookRefusals : Type 0
BookRefusals = (W : Vocabulary) (b : List ℕ) → InOrder W → IsBytes b → (n q : ℕ) → (read_book W b ≡ refuse n q) ↔ BookLine W b n q

-- ---- refusals

pub record RefusesBy {A : Type 0} (Line : ℕ → ℕ → Type 0) (reading : Reading A) : Type 0 where
  pub given : (n q : ℕ) → (reading ≡ refuse n q) ↔ Decides Line n q
  pub some : ((n : ℕ) × (q : ℕ) × Line n q) ↔ ((a : A) → reading ≡ accept a → ⊥)

abbrev pub VocabularyRefusals : Type 0
VocabularyRefusals = (b : List ℕ) → IsBytes b → RefusesBy (VocabularyLine b) (read_vocabulary b)

abbrev pub TermRefusals : Type 0
TermRefusals =
    (W : Vocabulary) (b : List ℕ) → InOrder W → RefusesBy (TermLine W b) (checked_term W b)

abbrev pub FirstGapIsExact : Type 0
FirstGapIsExact =
    (W : Vocabulary) (s : ℕ) (t : Term) → InOrder W → GoodTerm W s t → (q : ℕ) → (first_gap W t ≡ some q) ↔ FirstGap W t q

abbrev pub SituationRefusals : Type 0
SituationRefusals =
    (W : Vocabulary) (k : ℕ) (b : List ℕ) → InOrder W → IsBytes b → RefusesBy (SituationLine W k b) (checked_situation W k b)

abbrev pub LinearRefusals : Type 0
LinearRefusals =
    (W : Vocabulary) (b : List ℕ) → InOrder W → IsBytes b → RefusesBy (PatternLine W b) (checked_linear W b)

abbrev pub FillingRefusals : Type 0
FillingRefusals =
    (W : Vocabulary) (s : ℕ) (t : Term) (b : List ℕ) → InOrder W → RefusesBy (FillingLine W s t b) (read_filling W s t b)

-- ---- promises

abbrev pub VocabularyFixed : Type 0
VocabularyFixed = (v : List ℕ) (r r' : Reply) → VocabularyPromise v r → VocabularyPromise v r' → r ≡ r'

abbrev pub TermFixed : Type 0
TermFixed = (v b : List ℕ) (r r' : Reply) → TermPromise v b r → TermPromise v b r' → r ≡ r'

abbrev pub MatchFixed : Type 0
MatchFixed =
    (v p s before after after' : List ℕ) (r r' : Reply) → MatchPromise v p s before after r → MatchPromise v p s before after' r' →
    (r ≡ r') × (after ≡ after')

abbrev pub PartFixed : Type 0
PartFixed =
    (v p s : List ℕ) (n : ℕ) (at at' : Span) (r r' : List ℕ) → PartPromise v p s n at r → PartPromise v p s n at' r' →
    (at ≡ at') × (r ≡ r')

abbrev pub ListFixed : Type 0
ListFixed =
    (v p before after after' : List ℕ) (r r' : Reply) → ListPromise v p before after r → ListPromise v p before after' r' →
    (r ≡ r') × (after ≡ after')

abbrev pub FillFixed : Type 0
FillFixed =
    (v p b before after after' : List ℕ) (r r' : Reply) → FillPromise v p b before after r → FillPromise v p b before after' r' →
    (r ≡ r') × (after ≡ after')

abbrev pub BookFixed : Type 0
BookFixed =
    (v b before after after' : List ℕ) (r r' : Reply) → BookPromise v b before after r → BookPromise v b before after' r' →
    (r ≡ r') × ((n i q : ℕ) → r ≡ refused n i q → after ≡ after')

abbrev pub PrintFixed : Type 0
PrintFixed = (v p text text' : List ℕ) → PrintPromise v p text → PrintPromise v p text' → text ≡ text'

abbrev pub VocabularyKeeps : Type 0
VocabularyKeeps = (v : List ℕ) → IsBytes v → VocabularyPromise v (vocabulary_reply v)

abbrev pub TermKeeps : Type 0
TermKeeps = (v b : List ℕ) → IsBytes v → IsBytes b → TermPromise v b (term_reply v b)

abbrev pub MatchKeeps : Type 0
MatchKeeps =
    (v p s table : List ℕ) → IsBytes v → IsBytes p → IsBytes s →
    MatchPromise v p s table (matched v p s table).after (matched v p s table).reply

abbrev pub PartKeeps : Type 0
PartKeeps =
    (v p s : List ℕ) (n : ℕ) → IsBytes v → IsBytes p → IsBytes s → PartPromise v p s n (part_span v p s n) (part_of v p s n)

-- A table of the right length is lent, so that line 19 does not fit.
pub record InputsPromise (v p s : List ℕ) (r : Reply) : Type 0 where
  pub refuses : (n i q : ℕ) → (r ≡ refused n i q) ↔ MatchRefusal v p s (replicate table_length 0) n i q
  pub accepts : (values : List ℕ) → (r ≡ accepted values) ↔ ((x : Inputs) × HoldsInputs v p s x × (values ≡ []))

abbrev pub JudgeKeeps : Type 0
JudgeKeeps = (v p s : List ℕ) → IsBytes v → IsBytes p → IsBytes s → InputsPromise v p s (clear_reply (judged v p s))

-- "the same pattern and situation and a name": what part answers stands in match's table.
abbrev pub PartIsTable : Type 0
PartIsTable =
    (v p s table : List ℕ) (n : ℕ) → length table ≡ table_length →
    ((matched v p s table).reply ≡ yes → n < name_count → part_span v p s n ≡ span_in (matched v p s table).after n) ×
    (((matched v p s table).reply ≡ yes → ⊥) ⊎ (name_count ≤ n) → part_span v p s n ≡ no_span)

abbrev pub ListKeeps : Type 0
ListKeeps =
    (v p out : List ℕ) → IsBytes v → IsBytes p → ListPromise v p out (listed v p out).after (listed v p out).reply

abbrev pub FillKeeps : Type 0
FillKeeps =
    (v p b out : List ℕ) → IsBytes v → IsBytes p → IsBytes b →
    FillPromise v p b out (filled v p b out).after (filled v p b out).reply

abbrev pub BookKeeps : Type 0
BookKeeps =
    (v b out : List ℕ) → IsBytes v → IsBytes b → BookPromise v b out (book_listed v b out).after (book_listed v b out).reply

abbrev pub FilledMatches : Type 0
FilledMatches =
    (v p b : List ℕ) (x : FillInputs) → IsBytes v → IsBytes p → IsBytes b → HoldsFillInputs v p b x →
    Limits (filled_bytes x) (filled_term x) → complete (filled_term x) ≡ true →
    (table : List ℕ) → length table ≡ table_length →
    ((matched v p (filled_bytes x) table).reply ≡ yes) ×
    ((n : ℕ) → occurs n (names x.pattern) ≡ true →
    cut_out (filled_bytes x) (span_in (matched v p (filled_bytes x) table).after n) ≡ cut_out b (value_span x n))

-- ---- the program's text

abbrev pub PrintKeeps : Type 0
PrintKeeps = (v p : List ℕ) → IsBytes v → IsBytes p → PrintPromise v p (printed_from v p)

-- The digits read from left to right, behind digits that stand for n.
abbrev pub value_from : ℕ → List ℕ → ℕ
value_from n [] = n
value_from n (c ∷ l) = value_from (10 * n + (c - code "0")) l

abbrev pub value : List ℕ → ℕ
value l = value_from 0 l

-- "in decimal": at least one digit, and a 0 in front only where it is the whole number.
abbrev pub DecimalIsExact : Type 0
DecimalIsExact =
    (n : ℕ) → (value (decimal n) ≡ n) × All (λ c. (code "0" ≤ c) × (c ≤ code "9")) (decimal n) ×
    ((length (decimal n) ≡ 1) ⊎ (code "1" ≤ get_or (decimal n) 0 0))

-- "an accepted vocabulary has at most 962"
abbrev pub most_vocabulary : ℕ
most_vocabulary = 962

abbrev pub AcceptedIsShort : Type 0
AcceptedIsShort = (v : List ℕ) (W : Vocabulary) → IsBytes v → HoldsVocabulary v W → length v ≤ most_vocabulary

-- "so more can't alter the result"
abbrev pub MoreAltersNothing : Type 0
MoreAltersNothing = (b : List ℕ) → printed b ≡ printed_from (vocabulary_part b) (pattern_part b)
