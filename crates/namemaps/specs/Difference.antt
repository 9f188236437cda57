-- Difference: where the bit map of names at the front of some bytes and a table of names differ.
--
--   entry_stands e          the entry e is that of a name that stands in the pattern: a kind, which is a byte
--   stands_in table n       the table has such an entry for the name n
--   bit_in m n              bit n of the byte m stands
--   LowestApart a b n      n is the lowest bit at which the bytes a and b differ
--   DifferenceAt b table n n is the lowest name at which the map at the front of b and the table differ; 64 where none is
--
use Rattle.std.specs.Prelude.{◌≡◌, Bool, false, List, ℕ, ◌<◌, ◌≤◌, ltb, get_or}
use Rattle.wire.specs.Map.{flags_in}
use Rattle.wire.specs.TermBytes.{name_count}
use Rattle.wire.specs.FillingLines.{name_stands}

abbrev pub entry_stands : ℕ → Bool
entry_stands e = ltb e 256

abbrev pub stands_in : List ℕ → ℕ → Bool
stands_in table n = entry_stands (get_or table n 0)

abbrev pub bit_in : ℕ → ℕ → Bool
bit_in m n = get_or (flags_in 8 m) n false

pub record LowestApart (a b n : ℕ) : Type 0 where
  pub below : n < 8
  pub differ : bit_in a n ≡ bit_in b n → ⊥
  pub lower : (j : ℕ) → j < n → bit_in a j ≡ bit_in b j

pub record DifferenceAt (b table : List ℕ) (n : ℕ) : Type 0 where
  pub up_to : n ≤ name_count
  pub alike : (m : ℕ) → m < n → name_stands b m ≡ stands_in table m
  pub differs : n < name_count → name_stands b n ≡ stands_in table n → ⊥
