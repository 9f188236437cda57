-- Occurs: which numbers are elements of a list, and what a list with no number twice says of its front.
--
--   missing l n      n is not an element of l
--
use mathlib.Core.Path.{◌≡◌, refl, sym, ◌∙◌, ap, subst}
use mathlib.Core.Bool.{Bool, true, false, not, ◌||◌, or_assoc, false≢true}
use mathlib.Core.List.{List, [], ◌∷◌, ◌++◌, map}
use Prim.Native.Nat.{ℕ, zero, suc, ◌+◌, ◌≤◌, ◌<◌}
use native.Mathlib.Omega.{arith}
use lib.Dec.{eqb}
use borrow.Author.Tests.{ne_eqb, eqb-true, eqb-false}
use Rattle.terms.specs.Lists.{All, occurs, NoneTwice, range}
use Rattle.terms.proofs.Bools.{eqb_refl, eqb_sym, or_parts, or_neither, or_left, or_right}
use Rattle.terms.proofs.All.{all_implies}

abbrev pub missing : List ℕ → ℕ → Bool
missing l n = not (occurs n l)

pub occurs-head : (n : ℕ) (l : List ℕ) → occurs n (n ∷ l) ≡ true
occurs-head n l = or_left (eqb n n) (occurs n l) (eqb_refl n)

pub occurs-tail : (n m : ℕ) (l : List ℕ) → occurs n l ≡ true → occurs n (m ∷ l) ≡ true
occurs-tail n m l h = or_right (eqb n m) (occurs n l) h

-- An element of m ∷ l is m, or is an element of l.
pub occurs_cases : {C : Type 0} (n m : ℕ) (l : List ℕ) → occurs n (m ∷ l) ≡ true → (n ≡ m → C) → (occurs n l ≡ true → C) → C
occurs_cases {C} n m l h f g = go (eqb n m) refl h
  where
    go : (b : Bool) → eqb n m ≡ b → (b || occurs n l) ≡ true → C
    go true e o = f (eqb-true n m e)
    go false e o = g o

pub occurs-all : (P : ℕ → Type 0) (n : ℕ) (l : List ℕ) → occurs n l ≡ true → All P l → P n
occurs-all P n [] o h = absurd (false≢true o)
occurs-all P n (m ∷ l) o h = occurs_cases n m l o (λ e. subst P (sym e) h.0) (λ k. occurs-all P n l k h.1)

pub occurs-append : (n : ℕ) (l m : List ℕ) → occurs n (l ++ m) ≡ (occurs n l || occurs n m)
occurs-append n [] m = refl
occurs-append n (x ∷ l) m = ap (λ b. eqb n x || b) (occurs-append n l m) ∙ sym (or_assoc (eqb n x) (occurs n l) (occurs n m))

pub occurs-range : (from n k : ℕ) → from ≤ k → k < from + n → occurs k (range from n) ≡ true
occurs-range from zero k lo hi = absurd (omega arith)
occurs-range from (suc n) k lo hi = go (occurs-range (suc from) n k) (eqb k from) refl
  where
    go : (suc from ≤ k → k < suc from + n → occurs k (range (suc from) n) ≡ true) →
        (b : Bool) → eqb k from ≡ b → (eqb k from || occurs k (range (suc from) n)) ≡ true
    go rest true t = or_left (eqb k from) _ t
    go rest false t =
        let ne : (k ≡ from → ⊥) = eqb-false k from t in
        or_right (eqb k from) _ (rest (omega arith) (omega arith))

outside-range : (from n k : ℕ) → k < from → occurs k (range from n) ≡ false
outside-range from zero k h = refl
outside-range from (suc n) k h = or_neither (eqb k from) (occurs k (range (suc from) n)) (ne_eqb k from (λ e. omega arith)) (outside-range (suc from) n k (omega arith))

pub none_twice_range : (from n : ℕ) → NoneTwice (range from n)
none_twice_range from zero = tt
none_twice_range from (suc n) = (outside-range (suc from) n from (omega arith), none_twice_range (suc from) n)

module _ {A : Type 0} (f : A → ℕ) where
  -- Each f x is among them.
  pub all-occurs : (l : List A) → All (λ x. occurs (f x) (map f l) ≡ true) l
  all-occurs [] = tt
  all-occurs (x ∷ l) = (
    occurs-head (f x) (map f l),
    all_implies _ _ (λ y. occurs-tail (f y) (f x) (map f l)) l (all-occurs l),
  )

  -- A number that does not occur among the f x is none of them.
  pub all-other : (n : ℕ) (l : List A) → occurs n (map f l) ≡ false → All (λ x. n ≡ f x → ⊥) l
  all-other n [] h = tt
  all-other n (x ∷ l) h =
      let r = or_parts (eqb n (f x)) (occurs n (map f l)) h in
      (eqb-false n (f x) r.0, all-other n l r.1)

-- What is in no part of an appended list.
outside-append : (n : ℕ) (l m : List ℕ) → occurs n (l ++ m) ≡ false → (occurs n l ≡ false) × (occurs n m ≡ false)
outside-append n l m h = or_parts (occurs n l) (occurs n m) (sym (occurs-append n l m) ∙ h)

pub none_twice_front : (l m : List ℕ) → NoneTwice (l ++ m) → NoneTwice l
none_twice_front [] m u = tt
none_twice_front (n ∷ l) m u = ((outside-append n l m u.0).0, none_twice_front l m u.1)

-- A number that stands behind a list stands nowhere in it.
pub none_twice_last : (l : List ℕ) (n : ℕ) → NoneTwice (l ++ (n ∷ [])) → occurs n l ≡ false
none_twice_last [] n u = refl
none_twice_last (k ∷ l) n u =
    let h = or_parts (eqb k n) false (outside-append k l (n ∷ []) u.0).1 in
    or_neither (eqb n k) (occurs n l) (eqb_sym n k ∙ h.0) (none_twice_last l n u.1)
