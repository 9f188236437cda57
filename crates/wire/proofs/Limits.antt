-- Limits: the limits on a term handed to a call are a test of their own.
use mathlib.Core.Path.{◌≡◌, refl}
use mathlib.Core.Bool.{Bool, true, false, cond}
use Prim.Native.Nat.{ℕ}
use native.Mathlib.Omega.{arith}
use lib.ListN.{length}
use Rattle.wire.specs.Parser.{Reading, accept, refuse, read_whole}
use Rattle.wire.specs.Reply.{outside, Kinded}
use Rattle.wire.specs.TermBytes.{most_bytes, most_levels, least_bytes}
use Rattle.wire.specs.Laws.{LimitsAreATest}
use Rattle.wire.proofs.Outside.{outside_false, inside-outside}
use Rattle.wire.proofs.Relevel.{whole_relevels}

-- A choice that came out as something accepted was not the refusal.
not_refused : (t : Bool) (n q : ℕ) (x : Reading Kinded) (k : Kinded) → cond t (refuse n q) x ≡ accept k → (t ≡ false) × (x ≡ accept k)
not_refused true n q x k e = let z : ◌≡◌ {A = ℕ} 0 1 = cc in absurd (omega arith)
not_refused false n q x k e = (refl, e)

pub limits_are_a_test : LimitsAreATest
limits_are_a_test W b k = (
  λ e.
      let h = not_refused (outside least_bytes most_bytes (length b)) 7 0 (read_whole W most_levels b) k e in
      let w = whole_relevels W most_levels b k h.1 in
      (w.again (length b) (omega (arith, w.bytes)), (outside_false least_bytes most_bytes (length b) h.0).1, w.fits),
  λ h.
      let w = whole_relevels W (length b) b k h.0 in
      rw (inside-outside least_bytes most_bytes (length b) (omega (arith, w.bytes)) h.1) (w.again most_levels h.2),
)
