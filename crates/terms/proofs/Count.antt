-- Count: how many elements of a list pass a test.
--
--   bit b            1 for true, 0 for false
--   unless b n       0 where b holds, else n
--   count t l        how many elements of l pass the test t
--   any_passes t l    some element of l passes the test t
--   OnlyOne P n      P holds of exactly one index below n
--   Implies p q      whatever passes p passes q
--
use mathlib.Core.Path.{◌≡◌, refl, sym, ◌∙◌, ap, ap₂}
use mathlib.Core.Bool.{Bool, true, false, cond, ◌&&◌, ◌||◌, true≢false, false≢true}
use mathlib.Core.List.{List, [], ◌∷◌, ◌++◌, map}
use Prim.Native.Nat.{ℕ, zero, suc, ◌+◌, ◌<◌, ◌≤◌}
use native.Mathlib.Omega.{arith}
use lib.Dec.{eqb}
use lib.ListN.{length, get_or}
use borrow.Author.Tests.{ne_eqb, eqb-true, eqb-false}
use Rattle.terms.specs.Lists.{occurs, keep, range}
use Rattle.terms.proofs.Bools.{or_left, or_right}
use Rattle.terms.proofs.Occurs.{occurs_cases}

abbrev pub bit : Bool → ℕ
bit true = 1
bit false = 0

abbrev pub unless : Bool → ℕ → ℕ
unless true n = 0
unless false n = n

pub unless_zero : (b : Bool) → unless b 0 ≡ 0
unless_zero true = refl
unless_zero false = refl

pub unless_add : (b : Bool) (m n : ℕ) → unless b m + unless b n ≡ unless b (m + n)
unless_add true m n = refl
unless_add false m n = refl

pub unless_or : (a b : Bool) (n : ℕ) → unless b (unless a n) ≡ unless (a || b) n
unless_or true b n = unless_zero b
unless_or false b n = refl

-- What completes a && b to a is a, where b does not hold.
pub bit_unless : (a b : Bool) (n : ℕ) → bit (a && b) + n ≡ bit a → n ≡ unless b (bit a)
bit_unless true true n e = omega arith
bit_unless true false n e = omega arith
bit_unless false true n e = omega arith
bit_unless false false n e = omega arith

abbrev pub OnlyOne : (ℕ → Type 0) → ℕ → Type 0
OnlyOne P n = (i : ℕ) × (i < n) × P i × ((j : ℕ) → j < n → P j → j ≡ i)

bit_mono : (a b : Bool) → (a ≡ true → b ≡ true) → bit a ≤ bit b
bit_mono true b h = rw (h refl) (omega arith)
bit_mono false b h = omega arith

module _ {A : Type 0} where
  abbrev pub count : (A → Bool) → List A → ℕ
  count t [] = 0
  count t (x ∷ l) = bit (t x) + count t l

  -- A first element that passes is counted, and one that does not is not.
  count_pass : (t : A → Bool) (x : A) (l : List A) → t x ≡ true → count t (x ∷ l) ≡ suc (count t l)
  count_pass t x l e = rw e (omega arith)

  count_fail : (t : A → Bool) (x : A) (l : List A) → t x ≡ false → count t (x ∷ l) ≡ count t l
  count_fail t x l e = rw e (omega arith)

  pub count-append : (t : A → Bool) (l m : List A) → count t (l ++ m) ≡ count t l + count t m
  count-append t [] m = omega arith
  count-append t (x ∷ l) m = omega (arith, count-append t l m)

  pub count_same : (t u : A → Bool) (l : List A) → ((x : A) → t x ≡ u x) → count t l ≡ count u l
  count_same t u [] e = refl
  count_same t u (x ∷ l) e = ap₂ (λ b n. bit b + n) (e x) (count_same t u l e)

  pub count_never : (t : A → Bool) (l : List A) → ((x : A) → t x ≡ false) → count t l ≡ 0
  count_never t [] e = refl
  count_never t (x ∷ l) e = rw (e x) (omega (arith, count_never t l e))

  pub count-keep : (t u : A → Bool) (l : List A) → count t (keep u l) ≡ count (λ x. u x && t x) l
  count-keep t u [] = refl
  count-keep t u (x ∷ l) = go (u x) (count-keep t u l)
    where
      go : (b : Bool) → count t (keep u l) ≡ count (λ y. u y && t y) l →
          count t (cond b (x ∷ keep u l) (keep u l)) ≡ bit (b && t x) + count (λ y. u y && t y) l
      go true e = ap (λ n. bit (t x) + n) e
      go false e = omega arith

  pub length-keep : (t : A → Bool) (l : List A) → length (keep t l) ≡ count t l
  length-keep t [] = refl
  length-keep t (x ∷ l) = go (t x) (length-keep t l)
    where
      go : (b : Bool) → length (keep t l) ≡ count t l → length {A = A} (cond b (x ∷ keep t l) (keep t l)) ≡ bit b + count t l
      go true e = omega arith
      go false e = omega arith

  -- A count that completes c to d completes b && c to b && d where b stands beside the test.
  pub count_beside : (b c d : Bool) (t u : A → Bool) (l : List A) → ((x : A) → u x ≡ (b && t x)) →
      (b ≡ true → bit c + count t l ≡ bit d) → bit (b && c) + count u l ≡ bit (b && d)
  count_beside true c d t u l same e = omega (arith, e refl, count_same u t l same)
  count_beside false c d t u l same e = omega (arith, count_never u l same)

  -- What is counted 0 times passes nowhere.
  pub count_zero : (t : A → Bool) (d : A) (l : List A) → count t l ≡ 0 → (i : ℕ) → i < length l → t (get_or l i d) ≡ true → ⊥
  count_zero t d [] z i h e = omega arith
  count_zero t d (x ∷ l) z zero h e = omega (arith, count_pass t x l e)
  count_zero t d (x ∷ l) z (suc i) h e = count_zero t d l (omega arith) i (omega arith) e

  -- What is counted once passes at one index.
  pub count-one : (t : A → Bool) (d : A) (l : List A) → count t l ≡ 1 → OnlyOne (λ i. t (get_or l i d) ≡ true) (length l)
  count-one t d [] c = absurd (omega arith)
  count-one t d (x ∷ l) c = go (t x) refl (count-one t d l)
    where
      first : t x ≡ true → (j : ℕ) → j < suc (length l) → t (get_or (x ∷ l) j d) ≡ true → j ≡ 0
      first e zero h p = refl
      first e (suc j) h p = absurd (count_zero t d l (omega (arith, count_pass t x l e)) j (omega arith) p)

      later : t x ≡ false → (i : ℕ) → ((j : ℕ) → j < length l → t (get_or l j d) ≡ true → j ≡ i) →
          (j : ℕ) → j < suc (length l) → t (get_or (x ∷ l) j d) ≡ true → j ≡ suc i
      later e i only zero h p = absurd (true≢false (sym p ∙ e))
      later e i only (suc j) h p = ap suc (only j (omega arith) p)

      go : (b : Bool) → t x ≡ b → (count t l ≡ 1 → OnlyOne (λ i. t (get_or l i d) ≡ true) (length l)) →
          OnlyOne (λ i. t (get_or (x ∷ l) i d) ≡ true) (suc (length l))
      go true e rest = (0, omega arith, e, first e)
      go false e rest =
          let r = rest (omega (arith, count_fail t x l e)) in
          (suc r.0, omega (arith, r.1), r.2, later e r.0 r.3)

  abbrev pub any_passes : (A → Bool) → List A → Bool
  any_passes t [] = false
  any_passes t (x ∷ l) = t x || any_passes t l

  pub any_passes_at : (t : A → Bool) (d : A) (l : List A) → any_passes t l ≡ true → (i : ℕ) × (i < length l) × (t (get_or l i d) ≡ true)
  any_passes_at t d [] e = absurd (false≢true e)
  any_passes_at t d (x ∷ l) e = go (t x) refl e (any_passes_at t d l)
    where
      go : (b : Bool) → t x ≡ b → (b || any_passes t l) ≡ true → (any_passes t l ≡ true → (i : ℕ) × (i < length l) × (t (get_or l i d) ≡ true)) →
          (i : ℕ) × (i < length (x ∷ l)) × (t (get_or (x ∷ l) i d) ≡ true)
      go true h o rest = (0, omega arith, h)
      go false h o rest = let r = rest o in (suc r.0, omega (arith, r.1), r.2)

  pub passes_at_any : (t : A → Bool) (d : A) (l : List A) (i : ℕ) → i < length l → t (get_or l i d) ≡ true → any_passes t l ≡ true
  passes_at_any t d [] i b e = absurd (omega arith)
  passes_at_any t d (x ∷ l) zero b e = or_left (t x) (any_passes t l) e
  passes_at_any t d (x ∷ l) (suc i) b e = or_right (t x) (any_passes t l) (passes_at_any t d l i (omega arith) e)

  pub count_le : (t : A → Bool) (l : List A) → count t l ≤ length l
  count_le t [] = omega arith
  count_le t (x ∷ l) = go (count_le t l) (t x) refl
    where
      go : count t l ≤ length l → (b : Bool) → t x ≡ b → count t (x ∷ l) ≤ suc (length l)
      go h true e = omega (arith, count_pass t x l e)
      go h false e = omega (arith, count_fail t x l e)

  abbrev pub Implies : (A → Bool) → (A → Bool) → Type 0
  Implies p q = (x : A) → p x ≡ true → q x ≡ true

  count_mono : (p q : A → Bool) (l : List A) → Implies p q → count p l ≤ count q l
  count_mono p q [] h = omega arith
  count_mono p q (x ∷ l) h = omega (arith, bit_mono (p x) (q x) (h x), count_mono p q l h)

pub count_map : {A B : Type 0} (t : B → Bool) (f : A → B) (l : List A) → count t (map f l) ≡ count (λ x. t (f x)) l
count_map t f [] = refl
count_map t f (x ∷ l) = ap (λ n. bit (t (f x)) + n) (count_map t f l)

pub count-maps : {A B C : Type 0} (t : C → Bool) (f : A → C) (h : B → C) (l : List A) (m : List B) →
    count t (map f l ++ map h m) ≡ count (λ x. t (f x)) l + count (λ y. t (h y)) m
count-maps t f h l m = count-append t (map f l) (map h m) ∙ ap₂ ◌+◌ (count_map t f l) (count_map t h m)

-- A wider test that passes one element more counts one more at least.
pub count_raise : (p q : ℕ → Bool) (l : List ℕ) (k : ℕ) → Implies p q → occurs k l ≡ true → p k ≡ false → q k ≡ true → count p l < count q l
count_raise p q [] k h o s t = absurd (false≢true o)
count_raise p q (x ∷ l) k h o s t = occurs_cases k x l o here (λ r. there (count_raise p q l k h r s t))
  where
    here : k ≡ x → count p (x ∷ l) < count q (x ∷ l)
    here e = omega (arith, count_mono p q l h, count_fail p x l (rw e at s), count_pass q x l (rw e at t))

    there : count p l < count q l → count p (x ∷ l) < count q (x ∷ l)
    there r = omega (arith, bit_mono (p x) (q x) (h x))

-- Where all are counted, each passes.
pub count-full : (p : ℕ → Bool) (l : List ℕ) (k : ℕ) → length l ≤ count p l → occurs k l ≡ true → p k ≡ true
count-full p [] k h o = absurd (false≢true o)
count-full p (x ∷ l) k h o = go (p x) refl (count-full p l k)
  where
    go : (b : Bool) → p x ≡ b → (length l ≤ count p l → occurs k l ≡ true → p k ≡ true) → p k ≡ true
    go true e rest = occurs_cases k x l o (λ q. rw q e) (λ r. rest (omega (arith, count_pass p x l e)) r)
    go false e rest = absurd (omega (arith, count_fail p x l e, count_le p l))

pub length-range : (from n : ℕ) → length (range from n) ≡ n
length-range from zero = refl
length-range from (suc n) = ap suc (length-range (suc from) n)

-- A number stands once in a range around it, and never in a range above it.
count_range_above : (k from n : ℕ) → k < from → count (λ h. eqb h k) (range from n) ≡ 0
count_range_above k from zero a = refl
count_range_above k from (suc n) a =
    count_fail (λ h. eqb h k) from (range (suc from) n) (ne_eqb from k (λ e. omega arith)) ∙ count_range_above k (suc from) n (omega arith)

pub count-range : (k from n : ℕ) → from ≤ k → k < from + n → count (λ h. eqb h k) (range from n) ≡ 1
count-range k from zero a b = absurd (omega arith)
count-range k from (suc n) a b = go (eqb from k) refl (count-range k (suc from) n)
  where
    go : (c : Bool) → eqb from k ≡ c →
        (suc from ≤ k → k < suc from + n → count (λ h. eqb h k) (range (suc from) n) ≡ 1) →
        count (λ h. eqb h k) (range from (suc n)) ≡ 1
    go true e rest =
        count_pass (λ h. eqb h k) from (range (suc from) n) e ∙ ap suc (count_range_above k (suc from) n (omega (arith, eqb-true from k e)))
    go false e rest =
        let apart : from ≡ k → ⊥ = eqb-false from k e in
        count_fail (λ h. eqb h k) from (range (suc from) n) e ∙ rest (omega arith) (omega arith)
