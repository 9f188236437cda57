-- Row: how things are written in a row: a vocabulary's records, the entries of a listing.
--
--   write_row write l     the things of l, each written directly behind the one before it
--
use Rattle.std.specs.Prelude.{List, [], ◌∷◌, ◌++◌, ℕ}

abbrev pub write_row : {A : Type 0} → (A → List ℕ) → List A → List ℕ
write_row write [] = []
write_row write (a ∷ l) = write a ++ write_row write l
