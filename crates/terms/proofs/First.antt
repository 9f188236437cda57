-- First: which number of a range is the first to pass a test.
--
--   first_of test from n      the first of the n numbers from `from` that passes the test, where there is one
--   Least test from n k      k is the lowest of them that passes the test
--   Nowhere test from n      none of them passes the test
--
use mathlib.Core.Path.{◌≡◌, refl, sym, ◌∙◌}
use mathlib.Core.Bool.{Bool, true, false}
use mathlib.Core.Option.{Option, some, none, some-injective, none-ne-some}
use Prim.Native.Nat.{ℕ, zero, suc, ◌+◌, ◌≤◌, ◌<◌}
use native.Mathlib.Omega.{arith}
use lib.Dec.{eqb}
use borrow.Author.Tests.{eqb-true, eqb-false}
use Rattle.terms.specs.Lists.{range, keep}
use Rattle.terms.specs.Emptiness.{first}

pub record Least (test : ℕ → Bool) (from n k : ℕ) : Type 0 where
  pub low : from ≤ k
  pub high : k < from + n
  pub passes : test k ≡ true
  pub lower : (j : ℕ) → from ≤ j → j < k → test j ≡ false

abbrev pub Nowhere : (ℕ → Bool) → ℕ → ℕ → Type 0
Nowhere test from n = (j : ℕ) → from ≤ j → j < from + n → test j ≡ false

abbrev pub first_of : (ℕ → Bool) → ℕ → ℕ → Option ℕ
first_of test from n = first (keep test (range from n))

-- The first element kept, where the first element of the range passes and where it fails.
first_pass : (test : ℕ → Bool) (from n : ℕ) → test from ≡ true → first_of test from (suc n) ≡ some from
first_pass test from n e = rw e

first_fail : (test : ℕ → Bool) (from n : ℕ) → test from ≡ false → first_of test from (suc n) ≡ first_of test (suc from) n
first_fail test from n e = rw e

pub first-least : (test : ℕ → Bool) (from n k : ℕ) → first_of test from n ≡ some k → Least test from n k
first-least test from zero k e = absurd (none-ne-some k e)
first-least test from (suc n) k e = go (test from) refl (first-least test (suc from) n k)
  where
    go : (b : Bool) → test from ≡ b → (first_of test (suc from) n ≡ some k → Least test (suc from) n k) → Least test from (suc n) k
    go true t rest =
        let q : from ≡ k = some-injective from k (sym (first_pass test from n t) ∙ e) in
        record { low = omega arith; high = omega arith; passes = rw q at t; lower = λ j lo hi. absurd (omega arith) }
    go false t rest =
        let r = rest (sym (first_fail test from n t) ∙ e) in
        record { low = omega arith; high = omega arith; passes = r.passes; lower = λ j lo hi. below r j lo (eqb j from) refl hi }
      where
        below : Least test (suc from) n k → (j : ℕ) → from ≤ j → (b : Bool) → eqb j from ≡ b → j < k → test j ≡ false
        below r j lo true s hi = rw (eqb-true j from s) t
        below r j lo false s hi =
            let ne : (j ≡ from → ⊥) = eqb-false j from s in
            r.lower j (omega arith) hi

pub least_first : (test : ℕ → Bool) (from n k : ℕ) → Least test from n k → first_of test from n ≡ some k
least_first test from zero k r = absurd (omega arith)
least_first test from (suc n) k r = go (eqb k from) refl (least_first test (suc from) n k)
  where
    go : (b : Bool) → eqb k from ≡ b → (Least test (suc from) n k → first_of test (suc from) n ≡ some k) → first_of test from (suc n) ≡ some k
    go true s rest =
        let q : k ≡ from = eqb-true k from s in
        rw q (first_pass test from n (rw q at r.passes))
    go false s rest =
        let ne : (k ≡ from → ⊥) = eqb-false k from s in
        first_fail test from n (r.lower from (omega arith) (omega arith))
        ∙ rest (record { low = omega arith; high = omega arith; passes = r.passes; lower = λ j lo hi. r.lower j (omega arith) hi })

pub first_nowhere : (test : ℕ → Bool) (from n : ℕ) → first_of test from n ≡ none → Nowhere test from n
first_nowhere test from zero e = λ j lo hi. absurd (omega arith)
first_nowhere test from (suc n) e = go (test from) refl (first_nowhere test (suc from) n)
  where
    go : (b : Bool) → test from ≡ b → (first_of test (suc from) n ≡ none → Nowhere test (suc from) n) → Nowhere test from (suc n)
    go true t rest = absurd (none-ne-some from (sym e ∙ first_pass test from n t))
    go false t rest = λ j lo hi. at j lo (eqb j from) refl hi
      where
        at : (j : ℕ) → from ≤ j → (b : Bool) → eqb j from ≡ b → j < from + suc n → test j ≡ false
        at j lo true s hi = rw (eqb-true j from s) t
        at j lo false s hi =
            let ne : (j ≡ from → ⊥) = eqb-false j from s in
            rest (sym (first_fail test from n t) ∙ e) j (omega arith) (omega arith)

pub nowhere_first : (test : ℕ → Bool) (from n : ℕ) → Nowhere test from n → first_of test from n ≡ none
nowhere_first test from zero h = refl
nowhere_first test from (suc n) h =
    first_fail test from n (h from (omega arith) (omega arith))
    ∙ nowhere_first test (suc from) n (λ j lo hi. h j (omega arith) (omega arith))
