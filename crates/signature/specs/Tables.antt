-- Tables: what loading a vocabulary gives; the contracts of `load` and `load_counted` cite it.
--
--   accepted_in r        the vocabulary of a reading; one without words where it refuses
--   vocabulary_in v      the vocabulary that the bytes v write; one without words where they are refused
--   word_then g more     the word read as g and, behind it, more words; none where g is a refusal
--   words_up_to k n l     the words of n records, up to the first that is not in order
--   words_before v       the words of v's records, up to the first that is not in order; none where line 1 or 2 fits
--   AcceptedWords       where v is accepted these are all its words
--   offsets_of v n       the offsets of the first n records of v, in order
--   results_of ws        the words' result kinds, in order
--   maps_of ws           the words' place maps, in order
--   place_count w        the number of a word's places
--   counts_of ws         the numbers of the words' places, in order
--   laid l table        the table with l in front; behind l it is as before
--   Laid v ws           the tables hold the offsets, result kinds and place maps of v's first words ws in front, and
--                       are as before behind them
--   Tabled W n r        W has n words, and the first n entries of the table r are their result kinds
--   Tables v n o r m    v is accepted, and the first n entries of the tables o, r and m are the records'
--                       offsets, result kinds and place maps
--   PlacesCounted W n c    W has n words, and the first n entries of the table c are the numbers of their places
--   LoadedFrom v        what loading v gives: answer and tables, each for every v; where v is accepted the tables
--                       serve to read its records
--   CountedFrom v       what loading v leaves in a table of counts, for every v; where v is accepted these are its words'
--
use Rattle.std.specs.Prelude.{⊤, Result, Ok, ◌≡◌, cond, List, [], ◌∷◌, ◌++◌, map, ℕ, zero, suc, ◌+◌, ◌<◌, ◌≤◌, length, get_or, take, drop}
use Rattle.terms.specs.Lists.{range}
use Rattle.wire.specs.Map.{map_bytes, flags, ones}
use Rattle.wire.specs.Parser.{Reading, accept, refuse, Got, got, stop, read_word, read_vocabulary}
use Rattle.wire.specs.Reply.{outside}
use Rattle.wire.specs.Vocabulary.{Word, Vocabulary, word, most_kinds, most_words}
use Rattle.wire.specs.VocabularyLines.{byte_at, record_at}
use Rattle.wire.specs.CheckComputed.{vocabulary_reply}
use Rattle.signature.specs.Answers.{vocabulary_numbers}
use Rattle.signature.specs.declared.VocabularyRefusal.{VocabularyRefusal}

abbrev pub accepted_in : Reading Vocabulary → Vocabulary
accepted_in (accept W) = W
accepted_in (refuse n q) = record { kinds = 0; words = [] }

abbrev pub vocabulary_in : List ℕ → Vocabulary
vocabulary_in v = accepted_in (read_vocabulary v)

abbrev pub word_then : Got Word → (List ℕ → List Word) → List Word
word_then (got w r) more = w ∷ more r
word_then (stop n r) more = []

abbrev pub words_up_to : ℕ → ℕ → List ℕ → List Word
words_up_to k zero l = []
words_up_to k (suc n) l = word_then (read_word k l) (words_up_to k n)

abbrev pub words_before : List ℕ → List Word
words_before [] = []
words_before (k ∷ []) = []
words_before (k ∷ n ∷ l) = cond (outside 1 most_kinds k) [] (cond (outside 1 most_words n) [] (words_up_to k n l))

abbrev pub AcceptedWords : Type 0
AcceptedWords = (v : List ℕ) (W : Vocabulary) → read_vocabulary v ≡ accept W → words_before v ≡ W.words

abbrev pub offsets_of : List ℕ → ℕ → List ℕ
offsets_of v n = map (record_at v) (range 0 n)

abbrev pub results_of : List Word → List ℕ
results_of ws = map (λ (w : Word). w.result) ws

abbrev pub maps_of : List Word → List ℕ
maps_of ws = map (λ (w : Word). w.place_map) ws

-- Document 01: "A word has as many places as its map has ones." For words in order this is the number of their kinds
-- (`WordInOrder`, field `count`).
abbrev pub place_count : Word → ℕ
place_count w = ones (flags w.place_map)

abbrev pub counts_of : List Word → List ℕ
counts_of ws = map place_count ws

abbrev pub laid : List ℕ → List ℕ → List ℕ
laid l table = l ++ drop (length l) table

-- The tables before and after.
pub record Laid (v : List ℕ) (ws : List Word) (o r m o' r' m' : List ℕ) : Type 0 where
  pub offsets : o' ≡ laid (offsets_of v (length ws)) o
  pub results : r' ≡ laid (results_of ws) r
  pub maps : m' ≡ laid (maps_of ws) m

pub record Tabled (W : Vocabulary) (n : ℕ) (results : List ℕ) : Type 0 where
  pub words : n ≡ length W.words
  pub result : (f : ℕ) → f < n → get_or results f 0 ≡ (word W f).result

pub record Tables (v : List ℕ) (n : ℕ) (offsets results maps : List ℕ) : Type 0 where
  pub accepted : read_vocabulary v ≡ accept (vocabulary_in v)
  pub tabled : Tabled (vocabulary_in v) n results
  pub place_map : (f : ℕ) → f < n → get_or maps f 0 ≡ (word (vocabulary_in v) f).place_map
  pub inside : (f : ℕ) → f < n → get_or offsets f 0 + (1 + map_bytes) + length (word (vocabulary_in v) f).kinds ≤ length v
  pub kinds : (f : ℕ) → f < n →
      take (length (word (vocabulary_in v) f).kinds) (drop (get_or offsets f 0 + (1 + map_bytes)) v) ≡ (word (vocabulary_in v) f).kinds

-- Document 02 (v): "a table proved to hold for every word the number of ones in its place map".
pub record PlacesCounted (W : Vocabulary) (n : ℕ) (counts : List ℕ) : Type 0 where
  pub words : n ≡ length W.words
  pub count : (f : ℕ) → f < n → get_or counts f 0 ≡ place_count (word W f)

pub record LoadedFrom (v o r m o' r' m' : List ℕ) (a : Result ⊤ VocabularyRefusal) : Type 0 where
  pub answer : vocabulary_numbers a ≡ vocabulary_reply v
  pub holds : Laid v (words_before v) o r m o' r' m'
  pub tables : a ≡ Ok tt → Tables v (byte_at v 1) o' r' m'

-- The table before and after.
pub record CountedFrom (v c c' : List ℕ) (a : Result ⊤ VocabularyRefusal) : Type 0 where
  pub holds : c' ≡ laid (counts_of (words_before v)) c
  pub counted : a ≡ Ok tt → PlacesCounted (vocabulary_in v) (byte_at v 1) c'
