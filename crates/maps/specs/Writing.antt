-- Writing: a map written at an offset.
--
--   map_put m l at   the bytes l with the map m at the offset `at`; as before where it has no room
--
use Rattle.std.specs.Prelude.{cond, List, ◌++◌, ℕ, ◌+◌, leb, length, take, drop}
use Rattle.wire.specs.Map.{map_bytes, write_map}

abbrev pub map_put : ℕ → List ℕ → ℕ → List ℕ
map_put m l at = cond (leb (at + map_bytes) (length l)) (take at l ++ (write_map m ++ drop (at + map_bytes) l)) l
