-- Lines: a line of a text, by its number.
--
--   line_of n l     the line of number n of the bytes l, from 0; no byte where there are fewer lines
--
use Rattle.std.specs.Prelude.{List, ℕ, zero, suc, take, drop}
use Rattle.texts.specs.Complaints.{line_size}

abbrev pub line_of : ℕ → List ℕ → List ℕ
line_of zero l = take (line_size l) l
line_of (suc n) l = line_of n (drop (suc (line_size l)) l)
