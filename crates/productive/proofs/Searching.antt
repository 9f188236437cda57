-- Searching: the words are searched for one of a kind.
--
--   some_below-at, below_some   some number below a bound passes a test exactly where there is one
--   some_any                    so a word has a kind where an entry of the table's front is the kind
--   by_lowest, sought_none      the test of the kind itself: the lowest empty kind is decided at once
--   sought                      the table's front decides of any other
--
use mathlib.Core.Path.{◌≡◌, refl, sym, ap, ◌∙◌}
use mathlib.Core.Bool.{Bool, true, false, not, ◌&&◌, ◌||◌, false≢true}
use mathlib.Core.List.{List, [], ◌∷◌}
use Prim.Native.Nat.{ℕ, zero, suc, ◌-◌, ◌<◌, ◌≤◌, min}
use native.Mathlib.Decide.{ℕ_discrete}
use native.Mathlib.Omega.{arith}
use lib.Dec.{eqb}
use lib.ListN.{length, get_or, take}
use lib.Seq.{take-suc}
use Rattle.std.specs.List.{list_any}
use Rattle.std.proofs.lemmas.List.Folds.{list_any-append}
use borrow.Author.Tests.{eq-eqb, ne_eqb}
use Rattle.terms.proofs.Bools.{or_left, or_right}
use Rattle.wire.specs.Vocabulary.{most_words}
use Rattle.productive.specs.Tests.{settled_to, some_below, inhabited_in}

-- ---- some number below a bound

pub some_below-at : (n : ℕ) (test : ℕ → Bool) (f : ℕ) → f < n → test f ≡ true → some_below n test ≡ true
some_below-at zero test f low e = absurd (omega arith)
some_below-at (suc n) test f low e = elim (ℕ_discrete f n) [
  | yes z ↦ or_left (test n) (some_below n test) (ap test (sym z) ∙ e)
  | no z ↦ or_right (test n) (some_below n test) (some_below-at n test f (omega arith) e)
]

pub below_some : (n : ℕ) (test : ℕ → Bool) → some_below n test ≡ true → (f : ℕ) × (f < n) × (test f ≡ true)
below_some zero test e = absurd (false≢true e)
below_some (suc n) test e = go (test n) refl e (below_some n test)
  where
    go : (b : Bool) → test n ≡ b → (b || some_below n test) ≡ true → (some_below n test ≡ true → (f : ℕ) × (f < n) × (test f ≡ true)) →
        (f : ℕ) × (f < suc n) × (test f ≡ true)
    go true z e below = (n, omega arith, z)
    go false z e below = let w = below e in let low = w.1 in (w.0, omega arith, w.2)

-- ---- the table's front

or_swap : (a b : Bool) → (a || b) ≡ (b || (a || false))
or_swap true true = refl
or_swap true false = refl
or_swap false true = refl
or_swap false false = refl

-- Some of the first n words has the kind where some of the table's first n entries is the kind.
some_any : (table : List ℕ) (k n : ℕ) → n ≤ length table → some_below n (settled_to table k) ≡ list_any (λ x. eqb x k) (take n table)
some_any table k zero h = refl
some_any table k (suc n) h =
    let inside : n < length table = omega arith in
    let below = some_any table k n (omega arith) in
    or_swap (settled_to table k n) (some_below n (settled_to table k))
    ∙ ap (λ b. b || (settled_to table k n || false)) below
    ∙ sym (ap (list_any (λ x. eqb x k)) (take-suc table n 0 inside) ∙ list_any-append (λ x. eqb x k) (take n table) (get_or table n 0 ∷ []))

module _ (words : ℕ) (table : List ℕ) (e k : ℕ) where
  by_lowest : (b : Bool) → eqb k e ≡ b → inhabited_in words table e k ≡ (not b && some_below (min words most_words) (settled_to table k))
  by_lowest b z = ap (λ c. not c && some_below (min words most_words) (settled_to table k)) z

  pub sought_none : k ≡ e → false ≡ inhabited_in words table e k
  sought_none z = sym (by_lowest true (eq-eqb k e z))

  pub sought : length table ≡ most_words → (k ≡ e → ⊥) → {n : ℕ} → n ≡ min words most_words → {r : Bool} →
      r ≡ list_any (λ x. eqb x k) (take n table) → r ≡ inhabited_in words table e k
  sought long other {n} z h =
      h ∙ ap (λ i. list_any (λ x. eqb x k) (take i table)) z ∙ sym (some_any table k (min words most_words) (omega (arith, long)))
      ∙ sym (by_lowest false (ne_eqb k e other))
