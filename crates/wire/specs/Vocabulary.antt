-- Vocabulary: document 01's "Vocabulary bytes".
--
--   Word                  a record: result kind, place map, and the kinds of the places
--   Vocabulary            the number of kinds, and the words
--   symbol_of w            the word w as a symbol
--   signature W           the signature that W writes
--   no_word                what stands for a word where the number is none of the vocabulary's
--   word W f, map_of W f   the word of number f, and its place map
--   WordInOrder k w       the record w is in order where there are k kinds
--   most_kinds, most_words  document 01's limits on the two counts (16 and 96)
--   InOrder W             the counts are within the limits and every record is in order
--   encode_word w          the bytes of a record
--   encode_words ws        the bytes of the records ws
--   encode_vocabulary W    the bytes of W
--   HoldsVocabulary v W   the bytes v are accepted: they write the vocabulary W, which is in order
--
use Rattle.std.specs.Prelude.{◌≡◌, List, [], ◌∷◌, ◌++◌, map, ℕ, ◌<◌, ◌≤◌, ◌^◌, length, get_or}
use Rattle.terms.specs.Lists.{All}
use Rattle.terms.specs.Signature.{Symbol, Signature}
use Rattle.wire.specs.Map.{map_bits, write_map, flags, ones}
use Rattle.wire.specs.Row.{write_row}

pub record Word : Type 0 where
  pub result : ℕ
  pub place_map : ℕ
  pub kinds : List ℕ

pub record Vocabulary : Type 0 where
  pub kinds : ℕ
  pub words : List Word

abbrev pub symbol_of : Word → Symbol
symbol_of w = record { result = w.result; arguments = w.kinds }

abbrev pub signature : Vocabulary → Signature
signature W = record { sorts = W.kinds; symbols = map symbol_of W.words }

abbrev pub no_word : Word
no_word = record { result = 0; place_map = 0; kinds = [] }

abbrev pub word : Vocabulary → ℕ → Word
word W f = get_or W.words f no_word

abbrev pub map_of : Vocabulary → ℕ → ℕ
map_of W f = (word W f).place_map

-- "A word has as many places as its map has ones." Every kind that a record names is one.
pub record WordInOrder (k : ℕ) (w : Word) : Type 0 where
  pub result : w.result < k
  pub place_map : w.place_map < 2 ^ map_bits
  pub count : length w.kinds ≡ ones (flags w.place_map)
  pub kinds : All (λ s. s < k) w.kinds

-- "Byte 0 is the number of kinds, 1 to 16. Byte 1 is the number of words, 1 to 96."
abbrev pub most_kinds : ℕ
most_kinds = 16

abbrev pub most_words : ℕ
most_words = 96

pub record InOrder (W : Vocabulary) : Type 0 where
  pub some_kind : 1 ≤ W.kinds
  pub few_kinds : W.kinds ≤ most_kinds
  pub some_word : 1 ≤ length W.words
  pub few_words : length W.words ≤ most_words
  pub words : All (WordInOrder W.kinds) W.words

-- "one byte result kind, one byte place map, then one kind byte for each standing bit of the map, lowest bit first."
abbrev pub encode_word : Word → List ℕ
encode_word w = w.result ∷ (write_map w.place_map ++ w.kinds)

abbrev pub encode_words : List Word → List ℕ
encode_words ws = write_row encode_word ws

-- "Nothing follows the last record."
abbrev pub encode_vocabulary : Vocabulary → List ℕ
encode_vocabulary W = W.kinds ∷ length W.words ∷ encode_words W.words

-- A kind may be "without situations" (document 02 (iv), which struck document 01's rule that every kind has one).
pub record HoldsVocabulary (v : List ℕ) (W : Vocabulary) : Type 0 where
  pub in_order : InOrder W
  pub written : v ≡ encode_vocabulary W
