-- Drawing: the bytes of a line.
--
--   row_turn                  the next byte of a row
--
use Rattle.std.proofs.Common.{◌≡◌, ℕ, ◌+◌, ◌<◌, List, ◌++◌, length, get_or, drop, ap}
use Rattle.std.proofs.lemmas.List.{drop_more}
use Rattle.wire.specs.Row.{write_row}

pub row_turn : (write : ℕ → List ℕ) (l : List ℕ) (i : ℕ) → i < length l → write_row write (drop i l) ≡ write (get_or l i 0) ++ write_row write (drop (i + 1) l)
row_turn write l i h = ap (write_row write) (drop_more l i 0 h)
