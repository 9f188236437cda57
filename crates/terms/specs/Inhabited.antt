-- Inhabited: which sorts have a ground term, of any size and depth (document 02 (iv): a kind may be "without situations").
--
--   HasGround S k      the sort k has a ground term
--   Empty S k          no ground term has the sort k
--   Inhabited S        every sort of S has a ground term, as document 01 asked of every vocabulary before document 02 (iv)
--
use Rattle.std.specs.Prelude.{ℕ, ◌<◌}
use Rattle.terms.specs.Signature.{Signature}
use Rattle.terms.specs.Term.{Ground, SortedG}

abbrev pub HasGround : Signature → ℕ → Type 0
HasGround S k = (g : Ground) × SortedG S g k

abbrev pub Empty : Signature → ℕ → Type 0
Empty S k = (g : Ground) → SortedG S g k → ⊥

abbrev pub Inhabited : Signature → Type 0
Inhabited S = (k : ℕ) → k < S.sorts → HasGround S k
