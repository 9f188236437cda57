-- Equal: what comparing two slices answers.
--
--   Equal a b r       r tells whether a and b are the same
--
use Rattle.std.specs.Prelude.{◌≡◌, Bool, true, false, List, ℕ}

pub record Equal (a b : List ℕ) (r : Bool) : Type 0 where
  pub yes : r ≡ true → a ≡ b
  pub no : r ≡ false → a ≡ b → ⊥
