-- TermBytes: document 01's "Term bytes": how a term is written, its limits, and what is counted in it.
--
--   name_count, first_name_byte        how many names there are (64), and the byte of name 0 (128)
--   name_byte n                      the byte of the name n
--   whole_byte                       the byte of an open place at the root (255)
--   written_map W f ts               the written map of the word f with the terms ts at its places
--   encode_at W t, encode_all W ts    the bytes of the term t below the root, of the terms ts at a word's places
--   encode_root W t                  the bytes of the term t at the root
--   encode_term W s t                the bytes of the term t of kind s, kind byte first
--   GoodTerm W s t                  document 01's terms of kind s, of any size and depth
--   word_count t, word_count_all ts    the number of words (names not counted)
--   levels t, levels_all ts          how many levels the term t, or the terms ts, take
--   deepest t                       the deepest level of the term t at the root
--   least_bytes, most_bytes           a term handed to a call has so many bytes (2 to 4,096)
--   most_levels                      .. and at most so many levels (32)
--   Limits b t                      the term t and its bytes b are within these limits
--   HoldsTerm W b s t               the bytes b are accepted: they write the good term t of kind s, within the limits
--   complete t, complete_all ts      there is no name and no open place (nor a 255)
--
use Rattle.std.specs.Prelude.{◌≡◌, Bool, true, false, ◌&&◌, List, [], ◌∷◌, ◌++◌, ℕ, suc, ◌+◌, ◌<◌, ◌≤◌, max, length}
use Rattle.terms.specs.Lists.{All}
use Rattle.terms.specs.Term.{Term, any, var, app, Terms, nil, cons, WellSorted, names}
use Rattle.wire.specs.Map.{write_map, flags, number, written_flags}
use Rattle.wire.specs.Vocabulary.{Vocabulary, signature, map_of}

-- "one byte 128 to 191, for names 0 to 63".
abbrev pub name_count : ℕ
name_count = 64

abbrev pub first_name_byte : ℕ
first_name_byte = 128

abbrev pub name_byte : ℕ → ℕ
name_byte n = first_name_byte + n

-- "255, at the root only: any situation of the kind."
abbrev pub whole_byte : ℕ
whole_byte = 255

abbrev pub written_map : Vocabulary → ℕ → Terms → ℕ
written_map W f ts = number (written_flags (flags (map_of W f)) ts)

-- "A word: its number, a written map, then the terms of the written places, lowest bit first."
abbrev mutual
  pub encode_at : Vocabulary → Term → List ℕ
  encode_at W any = []
  encode_at W (var n) = name_byte n ∷ []
  encode_at W (app f ts) = f ∷ (write_map (written_map W f ts) ++ encode_all W ts)

  pub encode_all : Vocabulary → Terms → List ℕ
  encode_all W nil = []
  encode_all W (cons t ts) = encode_at W t ++ encode_all W ts

abbrev pub encode_root : Vocabulary → Term → List ℕ
encode_root W any = whole_byte ∷ []
encode_root W (var n) = encode_at W (var n)
encode_root W (app f ts) = encode_at W (app f ts)

-- "its kind, then one term in prefix order".
abbrev pub encode_term : Vocabulary → ℕ → Term → List ℕ
encode_term W s t = s ∷ encode_root W t

pub record GoodTerm (W : Vocabulary) (s : ℕ) (t : Term) : Type 0 where
  pub kind : s < W.kinds
  pub sorted : WellSorted (signature W) t s
  pub named : All (λ n. n < name_count) (names t)

abbrev mutual
  pub word_count : Term → ℕ
  word_count any = 0
  word_count (var n) = 0
  word_count (app f ts) = suc (word_count_all ts)

  pub word_count_all : Terms → ℕ
  word_count_all nil = 0
  word_count_all (cons t ts) = word_count t + word_count_all ts

-- "A name or 255 counts as a level; open places do not."
abbrev mutual
  pub levels : Term → ℕ
  levels any = 0
  levels (var n) = 1
  levels (app f ts) = suc (levels_all ts)

  pub levels_all : Terms → ℕ
  levels_all nil = 0
  levels_all (cons t ts) = max (levels t) (levels_all ts)

-- "The root is level 1, a written place one level below its word."
abbrev pub deepest : Term → ℕ
deepest t = max 1 (levels t)

-- "A pattern or situation is 2 to 4,096 bytes".
abbrev pub least_bytes : ℕ
least_bytes = 2

abbrev pub most_bytes : ℕ
most_bytes = 4096

-- "The deepest level is 32."
abbrev pub most_levels : ℕ
most_levels = 32

pub record Limits (b : List ℕ) (t : Term) : Type 0 where
  pub least : least_bytes ≤ length b
  pub most : length b ≤ most_bytes
  pub levels : deepest t ≤ most_levels

pub record HoldsTerm (W : Vocabulary) (b : List ℕ) (s : ℕ) (t : Term) : Type 0 where
  pub good : GoodTerm W s t
  pub written : b ≡ encode_term W s t
  pub limits : Limits b t

-- "A term is complete if it has no name, no 255, and every written map equals its word's place map."
abbrev mutual
  pub complete : Term → Bool
  complete any = false
  complete (var n) = false
  complete (app f ts) = complete_all ts

  pub complete_all : Terms → Bool
  complete_all nil = true
  complete_all (cons t ts) = complete t && complete_all ts
