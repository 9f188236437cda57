-- Loading: what the functions that load a vocabulary promise each other; no public contract cites it.
--
--   record_stop v why      what is wrong in a record, as a Got
--   StopInside v why       the place that it names is v's length, or lies within v
--   kinds_got v at r        what read_kinds answers of the kind bytes at an offset, as a Got
--   KindsInside            the place that read_kinds names lies within v
--   KindsRead              it is what read_kinds gives, and lies within v
--   word_at v at n          the word whose record stands at an offset, with n places
--   word_got v at r         what read_word answers of the record there, as a Got
--   RecordInside           the place that read_word names lies within v
--   RecordRead             it is what read_word gives, lies within v and is sound
--   records_in v n          the words of the first n records of v, up to the first that is not in order
--   vocabulary_of v n       v's kind count and these words
--   checks_in v n           lines 3 to 5 of v, which has n records
--   checks_reply v n        the reply of these lines
--   Entry v o r m w        the word w stands in v at the offset o, with result kind r and place map m
--   Filled v n o r m       the n records of v are in order, end v and stand in the tables o, r and m
--   Sized o r m c          the tables o, r, m and c have 96 entries each
--   WordsLoaded v n        what read_words does: it answers the reply of lines 3 to 5, or fills the tables; they hold the
--                          words up to the first record that is not in order
--   WordsCounted v n c c'  read_words leaves the numbers of these words' places in c'
--   Marks m l              the kinds that are marked in m are those of l
--   Markable v at n        the n kind bytes from an offset on have a mark
--   Covers                 what covered answers, for any such l
--   FilledCounted v n o r c    the n records of v stand in the tables o and r, with some table of maps, and c has the numbers of
--                          their places
--   PlacesInside v o k     the k places of the record at an offset lie within v and have a mark
--   PlacesCovered          what places_covered answers of them
--   symbols_in v n          the symbols of the first n records
--   Grows, Round           what mark_round does, for any such l, and what it answers
--   FirstMissing           what first_missing answers, for any such l
--   signature_in v n        the signature that v writes
--   Searched               what empty_kind answers, and where it finds a kind it marks those that are reached
--   MovesWords             what move_words does
--   Prepared v n o r c     v is accepted, its records stand in the tables o and r, with some table of maps, and c has the numbers
--                          of their places
--
use Rattle.std.specs.Prelude.{⊤, Option, Some, Result, Ok, Err, ◌≡◌, Bool, false, not, cond, List, [], map, ℕ, ◌+◌, ◌<◌, ◌≤◌, length, get_or, take, drop}
use Rattle.terms.specs.Lists.{occurs, range, keep}
use Rattle.terms.specs.Signature.{Symbol, Signature}
use Rattle.terms.specs.Emptiness.{covered, grow, reached, first, first_empty}
use Rattle.wire.specs.Map.{map_bytes}
use Rattle.wire.specs.Reply.{Reply}
use Rattle.wire.specs.Parser.{Reading, Got, got, stop, read_kinds, read_word, read_words, line5}
use Rattle.wire.specs.CheckComputed.{reply_of}
use Rattle.wire.specs.Vocabulary.{Word, Vocabulary, signature, no_word, symbol_of, most_words, WordInOrder}
use Rattle.wire.specs.VocabularyLines.{byte_at}
use Rattle.maps.specs.Reading.{map_at}
use Rattle.signature.specs.Answers.{vocabulary_refused}
use Rattle.signature.specs.Tables.{vocabulary_in, words_up_to, counts_of, laid, Laid, Tables, PlacesCounted}
use Rattle.signature.specs.Settled.{found_kind}
use Rattle.signature.specs.declared.VocabularyRefusal.{VocabularyRefusal}
use Rattle.signature.specs.declared.VocabularyRefusal.TheVariants.{Head, WordCount, Ends, NoSuchKind, Continues}

-- read_kinds, read_word

-- Lines 3 and 4 alone are found in a record.
abbrev pub record_stop : {A : Type 0} → List ℕ → VocabularyRefusal → Got A
record_stop v Head = stop 1 []
record_stop v WordCount = stop 2 []
record_stop v (Ends q) = stop 3 []
record_stop v (NoSuchKind q) = stop 4 (drop q v)
record_stop v (Continues q) = stop 5 []

abbrev pub StopInside : List ℕ → VocabularyRefusal → Type 0
StopInside v Head = ⊥
StopInside v WordCount = ⊥
StopInside v (Ends q) = q ≡ length v
StopInside v (NoSuchKind q) = q < length v
StopInside v (Continues q) = ⊥

abbrev pub kinds_got : List ℕ → ℕ → Result ℕ VocabularyRefusal → Got (List ℕ)
kinds_got v at (Ok n) = got (take n (drop at v)) (drop (at + n) v)
kinds_got v at (Err why) = record_stop v why

-- The n kinds from the offset `at` on, or the byte that is no kind, lie within v.
abbrev pub KindsInside : List ℕ → ℕ → ℕ → Result ℕ VocabularyRefusal → Type 0
KindsInside v at n (Ok m) = (m ≡ n) × (at + n ≤ length v)
KindsInside v at n (Err why) = StopInside v why

pub record KindsRead (v : List ℕ) (at n kinds : ℕ) (r : Result ℕ VocabularyRefusal) : Type 0 where
  pub reads : kinds_got v at r ≡ read_kinds kinds n (drop at v)
  pub inside : KindsInside v at n r

-- The word whose record stands at an offset and has n places.
abbrev pub word_at : List ℕ → ℕ → ℕ → Word
word_at v at n = record { result = byte_at v at; place_map = map_at v (at + 1); kinds = take n (drop (at + (1 + map_bytes)) v) }

abbrev pub word_got : List ℕ → ℕ → Result ℕ VocabularyRefusal → Got Word
word_got v at (Ok n) = got (word_at v at n) (drop (at + (1 + map_bytes) + n) v)
word_got v at (Err why) = record_stop v why

abbrev pub RecordInside : List ℕ → ℕ → ℕ → Result ℕ VocabularyRefusal → Type 0
RecordInside v at kinds (Ok n) = (at + (1 + map_bytes) + n ≤ length v) × WordInOrder kinds (word_at v at n)
RecordInside v at kinds (Err why) = StopInside v why

pub record RecordRead (v : List ℕ) (at kinds : ℕ) (r : Result ℕ VocabularyRefusal) : Type 0 where
  pub reads : word_got v at r ≡ read_word kinds (drop at v)
  pub inside : RecordInside v at kinds r

-- read_words

abbrev pub records_in : List ℕ → ℕ → List Word
records_in v n = words_up_to (byte_at v 0) n (drop 2 v)

abbrev pub vocabulary_of : List ℕ → ℕ → Vocabulary
vocabulary_of v n = record { kinds = byte_at v 0; words = records_in v n }

abbrev pub checks_in : List ℕ → ℕ → Reading Vocabulary
checks_in v n = line5 v (byte_at v 0) (read_words (byte_at v 0) n (drop 2 v))

abbrev pub checks_reply : List ℕ → ℕ → Reply
checks_reply v n = reply_of 0 (λ W. []) (checks_in v n)

pub record Entry (v : List ℕ) (o r m : ℕ) (w : Word) : Type 0 where
  pub result : r ≡ w.result
  pub place_map : m ≡ w.place_map
  pub inside : o + (1 + map_bytes) + length w.kinds ≤ length v
  pub kinds : take (length w.kinds) (drop (o + (1 + map_bytes)) v) ≡ w.kinds
  pub sound : WordInOrder (byte_at v 0) w

pub record Filled (v : List ℕ) (n : ℕ) (o r m : List ℕ) : Type 0 where
  pub read : read_words (byte_at v 0) n (drop 2 v) ≡ got (records_in v n) []
  pub count : length (records_in v n) ≡ n
  pub entries : (f : ℕ) → f < n → Entry v (get_or o f 0) (get_or r f 0) (get_or m f 0) (get_or (records_in v n) f no_word)

pub record Sized (o r m c : List ℕ) : Type 0 where
  pub offsets : length o ≡ most_words
  pub results : length r ≡ most_words
  pub maps : length m ≡ most_words
  pub counts : length c ≡ most_words

-- The tables before and after.
pub record WordsLoaded (v : List ℕ) (n : ℕ) (o r m o' r' m' : List ℕ) (a : Result ⊤ VocabularyRefusal) : Type 0 where
  pub refused : (why : VocabularyRefusal) → a ≡ Err why → vocabulary_refused why ≡ checks_reply v n
  pub filled : a ≡ Ok tt → Filled v n o' r' m'
  pub holds : Laid v (records_in v n) o r m o' r' m'

-- The table before and after.
abbrev pub WordsCounted : List ℕ → ℕ → List ℕ → List ℕ → Type 0
WordsCounted v n c c' = c' ≡ laid (counts_of (records_in v n)) c

-- covered, places_covered, mark_round, first_missing

pub record Marks (marked : List Bool) (l : List ℕ) : Type 0 where
  pub size : length marked ≡ 16
  pub each : (k : ℕ) → k < 16 → get_or marked k false ≡ occurs k l

-- Each of the n bytes from an offset on may be marked.
abbrev pub Markable : List ℕ → ℕ → ℕ → Type 0
Markable v at n = (j : ℕ) → j < n → byte_at v (at + j) < 16

abbrev pub Covers : List ℕ → ℕ → ℕ → List Bool → Bool → Type 0
Covers v at n marked r = (l : List ℕ) → Marks marked l → r ≡ covered (take n (drop at v)) l

pub record FilledCounted (v : List ℕ) (n : ℕ) (o r c : List ℕ) : Type 0 where
  pub maps : List ℕ
  pub filled : Filled v n o r maps
  pub counted : PlacesCounted (vocabulary_of v n) n c

-- A record is its result kind, its map and its places' kinds.
pub record PlacesInside (v : List ℕ) (o k : ℕ) : Type 0 where
  pub inside : o + (1 + map_bytes) + k ≤ length v
  pub markable : Markable v (o + (1 + map_bytes)) k

abbrev pub PlacesCovered : List ℕ → ℕ → ℕ → List Bool → Bool → Type 0
PlacesCovered v o k marked r = Covers v (o + (1 + map_bytes)) k marked r

abbrev pub symbols_in : List ℕ → ℕ → List Symbol
symbols_in v n = map symbol_of (records_in v n)

-- One round of marking follows one round of grow.
abbrev pub Grows : List ℕ → ℕ → List Bool → List Bool → Type 0
Grows v n before after = (l : List ℕ) → Marks before l → Marks after (grow (symbols_in v n) l)

pub record Round (v : List ℕ) (n : ℕ) (before after : List Bool) (changed : Bool) : Type 0 where
  pub grows : Grows v n before after
  pub unchanged : changed ≡ false → after ≡ before

abbrev pub FirstMissing : ℕ → List Bool → Option ℕ → Type 0
FirstMissing kinds marked r = (l : List ℕ) → Marks marked l → found_kind r ≡ first (keep (λ k. not (occurs k l)) (range 0 kinds))

-- empty_kind, move_words

abbrev pub signature_in : List ℕ → ℕ → Signature
signature_in v n = signature (vocabulary_of v n)

pub record Searched (v : List ℕ) (n : ℕ) (marked : List Bool) (r : Option ℕ) : Type 0 where
  pub found : found_kind r ≡ first_empty (signature_in v n)
  pub marks : (k : ℕ) → r ≡ Some k → Marks marked (reached (signature_in v n) (byte_at v 0))

-- The table before and after.
abbrev pub MovesWords : List ℕ → ℕ → ℕ → List Bool → List ℕ → List ℕ → Type 0
MovesWords v n e marked before after =
    (length after ≡ length before) ×
    ((f : ℕ) → n ≤ f → get_or after f 0 ≡ get_or before f 0) ×
    ((l : List ℕ) → Marks marked l → (f : ℕ) → f < n →
    get_or after f 0 ≡ cond (covered (get_or (records_in v n) f no_word).kinds l) (get_or before f 0) e)

-- settle

pub record Prepared (v : List ℕ) (n : ℕ) (o r c : List ℕ) : Type 0 where
  pub maps : List ℕ
  pub tables : Tables v n o r maps
  pub counted : PlacesCounted (vocabulary_in v) n c
