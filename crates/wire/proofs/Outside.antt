-- Outside: the test for a number outside a range, and what it tells.
use mathlib.Core.Path.{◌≡◌, refl}
use mathlib.Core.Bool.{Bool, true, false}
use mathlib.Core.Logic.{inl, inr}
use Prim.Native.Nat.{ℕ, ◌≤◌}
use native.Mathlib.Omega.{arith}
use lib.Dec.{ltb}
use borrow.Author.Tests.{ltb-true, ltb-false, le-ltb}
use Rattle.terms.proofs.Bools.{or_parts, or_neither}
use Rattle.wire.specs.Reply.{outside, Outside}

pub outside_true : (low high n : ℕ) → outside low high n ≡ true → Outside low high n
outside_true low high n e = go (ltb n low) refl
  where
    go : (t : Bool) → ltb n low ≡ t → Outside low high n
    go true t = inl (ltb-true n low t)
    go false t = inr (ltb-true high n (rw t at e))

pub outside_false : (low high n : ℕ) → outside low high n ≡ false → (low ≤ n) × (n ≤ high)
outside_false low high n e =
    let h = or_parts (ltb n low) (ltb high n) e in
    (ltb-false n low h.0, ltb-false high n h.1)

pub inside-outside : (low high n : ℕ) → low ≤ n → n ≤ high → outside low high n ≡ false
inside-outside low high n h k = or_neither (ltb n low) (ltb high n) (le-ltb n low h) (le-ltb high n k)

pub no-outside : (low high n : ℕ) → low ≤ n → n ≤ high → Outside low high n → ⊥
no-outside low high n h l (inl o) = omega arith
no-outside low high n h l (inr o) = omega arith

pub outside_tested : (low high n : ℕ) → Outside low high n → outside low high n ≡ true
outside_tested low high n o = go (outside low high n) refl
  where
    go : (t : Bool) → outside low high n ≡ t → outside low high n ≡ true
    go true e = e
    go false e = let h = outside_false low high n e in absurd (no-outside low high n h.0 h.1 o)
