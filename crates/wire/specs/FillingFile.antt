-- FillingFile: document 02's filling file (request i): how it is written, and which files are accepted for a pattern.
--
--   name_map_bytes            the bit map of names has this many bytes (8)
--   names_byte ns i          byte i of the bit map of the names ns
--   write_names ns           the bit map of the names ns
--   ascending t             the names of the term t, each once, by ascending number
--   write_value W b          the bytes of the ground term that the binding b gives
--   encode_filling W bs      the bytes of the bindings bs: their names' bit map, then their values
--   GoodFilling W s t bs    bs gives each name of the pattern t of kind s, and no other, one value of its kind
--   HoldsFilling W s t b bs the bytes b are accepted for the pattern t: they write the good filling bs
--
use Rattle.std.specs.Prelude.{◌≡◌, List, map, ◌++◌, ℕ, ◌*◌, ◌≤◌}
use Rattle.terms.specs.Lists.{All, occurs, range, keep}
use Rattle.terms.specs.Term.{Term, as_term, SortedG, occurrences, names}
use Rattle.terms.specs.Filling.{Binding, value_of}
use Rattle.wire.specs.Map.{number}
use Rattle.wire.specs.Row.{write_row}
use Rattle.wire.specs.Vocabulary.{Vocabulary, signature}
use Rattle.wire.specs.TermBytes.{name_count, encode_at, levels, most_levels}

-- "eight bytes of bit map first".
abbrev pub name_map_bytes : ℕ
name_map_bytes = 8

-- "byte 0 holding names 0 to 7 lowest bit first".
abbrev pub names_byte : List ℕ → ℕ → ℕ
names_byte ns i = number (map (λ n. occurs n ns) (range (8 * i) 8))

abbrev pub write_names : List ℕ → List ℕ
write_names ns = map (names_byte ns) (range 0 name_map_bytes)

abbrev pub ascending : Term → List ℕ
ascending t = keep (λ n. occurs n (names t)) (range 0 name_count)

-- "one complete term without kind byte".
abbrev pub write_value : Vocabulary → Binding → List ℕ
write_value W b = encode_at W (as_term b.value)

-- "then, for each standing bit in ascending order, one complete term".
abbrev pub encode_filling : Vocabulary → List Binding → List ℕ
encode_filling W bs = write_names (map (λ b. b.name) bs) ++ write_row (write_value W) bs

pub record GoodFilling (W : Vocabulary) (s : ℕ) (t : Term) (bs : List Binding) : Type 0 where
  -- The bit map is "the set of names in the pattern".
  pub keys : map (λ b. b.name) bs ≡ ascending t
  -- A filling is "a complete term of its name's kind ..
  pub sorted : All (λ o. SortedG (signature W) (value_of bs o.name) o.sort) (occurrences (signature W) t s)
  -- .. with at most 32 levels of its own".
  pub shallow : All (λ b. levels (as_term b.value) ≤ most_levels) bs

pub record HoldsFilling (W : Vocabulary) (s : ℕ) (t : Term) (b : List ℕ) (bs : List Binding) : Type 0 where
  pub good : GoodFilling W s t bs
  pub written : b ≡ encode_filling W bs
