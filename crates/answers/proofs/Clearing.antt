-- Clearing: the bytes of a page behind an answer are set to 0.
--
--   answered                   the answer at the front of such a page
--
use mathlib.Core.Path.{◌≡◌, sym, ap, subst, ◌∙◌}
use mathlib.Core.List.{List, ◌++◌}
use Prim.Native.Nat.{ℕ, ◌-◌, ◌≤◌}
use native.Mathlib.Omega.{arith}
use lib.ListN.{length, take, drop, replicate, length-append, length-replicate}
use lib.Seq.{length-take-le, take_at, drop_at}
use Rattle.texts.specs.Desk.{DeskPromise}
use Rattle.answers.specs.Answered.{Answered}

zeros : (i j : ℕ) → i ≡ j → replicate {A = ℕ} i 0 ≡ replicate j 0
zeros i j e = ap (λ (n : ℕ). replicate {A = ℕ} n 0) e

pub answered : {b : List ℕ} (page : List ℕ) (to : ℕ) → DeskPromise b (take to page) → to ≤ length page → {after : List ℕ} →
    after ≡ take to page ++ replicate (length page - to) 0 → Answered b after to
answered {b} page to says inside {after} is = record {
  inside = omega (arith, long);
  says = subst (DeskPromise b) (sym (ap (take to) is ∙ take_at (take to page) zeroes to short)) says;
  blank = ap (drop to) is ∙ drop_at (take to page) zeroes to short ∙ zeros (length page - to) (length after - to) (omega (arith, long));
}
  where
    zeroes : List ℕ
    zeroes = replicate (length page - to) 0

    short : length (take to page) ≡ to
    short = length-take-le to page inside

    long : length after ≡ length page
    long = ap length is ∙ length-append (take to page) zeroes ∙ omega (arith, short, length-replicate {A = ℕ} (length page - to) 0)
