-- Frames: the maps of words as they are gone through; no public contract cites it.
--
--   most_offset       an offset at which a map is looked for is below it
--   rest t i         the bytes t from an offset on, as they are lent
--   map_at t at       the map of the word at an offset of the bytes t, 0 where it is missing
--   written_in x      the written map of the frame x, past the places that are done
--   places_in x       its place map, past the same places
--   TwoMaps x w p    x is the frame of these two
--
use Rattle.std.specs.Prelude.{◌≡◌, List, ℕ, ◌+◌, ◌-◌, ◌/◌, ◌%◌, length, get_or, take, drop}

abbrev pub most_offset : ℕ
most_offset = 1048576

abbrev pub rest : List ℕ → ℕ → List ℕ
rest t i = take (length t - i) (drop i t)

abbrev pub map_at : List ℕ → ℕ → ℕ
map_at t at = get_or t (at + 1) 0

-- A map is below 256.
abbrev pub written_in : ℕ → ℕ
written_in x = x % 256

abbrev pub places_in : ℕ → ℕ
places_in x = x / 256 % 256

pub record TwoMaps (x w p : ℕ) : Type 0 where
  pub written : written_in x ≡ w
  pub places : places_in x ≡ p
