-- Reading: a map read at an offset.
--
--   map_in x         the map that was read, 0 where a byte is missing
--   map_at l at      the map at the offset `at` of the bytes l, 0 where a byte is missing
--
use Rattle.std.specs.Prelude.{List, ℕ, drop}
use Rattle.wire.specs.Map.{MapRead, map_got, map_missing, read_map}

abbrev map_in : MapRead → ℕ
map_in (map_got m r) = m
map_in (map_missing r) = 0

abbrev pub map_at : List ℕ → ℕ → ℕ
map_at l at = map_in (read_map (drop at l))
