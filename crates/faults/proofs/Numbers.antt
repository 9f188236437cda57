-- Numbers: what a reason's number says.
--
--   number-some       a reason's number is not 0, which stands for none
--   reason-absent     where there is no reason, the number is 0
--   none-number, some-number     the same by the test of the code
--
use mathlib.Core.Path.{◌≡◌, refl}
use mathlib.Core.Bool.{true, false}
use Prim.Native.Nat.{ℕ, ◌<◌}
use native.Mathlib.Omega.{arith}
use Rattle.std.specs.Prelude.{Option, Some, None, is_some}
use Rattle.faults.specs.declared.Reason.{Reason}
use Rattle.faults.specs.Reasons.{number_of, reason_of}

pub number-some : (r : Reason) → 0 < number_of r
number-some r = grind arith

pub reason-absent : (n : ℕ) (r : Option Reason) → reason_of r ≡ n → ((why : Reason) → r ≡ Some why → ⊥) → 0 ≡ n
reason-absent n None e h = e
reason-absent n (Some why) e h = absurd (h why refl)

pub none-number : (r : Option Reason) → is_some r ≡ false → reason_of r ≡ 0
none-number None e = refl
none-number (Some why) e = cc

pub some-number : (r : Option Reason) → is_some r ≡ true → reason_of r ≡ 0 → ⊥
some-number None e z = cc
some-number (Some why) e z = omega (arith, number-some why)
