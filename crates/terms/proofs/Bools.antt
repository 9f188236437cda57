-- Bools: laws of tests: what a conjunction and a disjunction say of their parts, and equality of numbers.
use mathlib.Core.Path.{◌≡◌, refl, sym, ◌∙◌, ap}
use mathlib.Core.Bool.{Bool, true, false, not, ◌&&◌, ◌||◌, and-false, true≢false, false≢true}
use Prim.Native.Nat.{ℕ}
use lib.Dec.{eqb}
use borrow.Author.Tests.{eq-eqb, ne_eqb, eqb-true, eqb-false}

pub eqb_refl : (n : ℕ) → eqb n n ≡ true
eqb_refl n = eq-eqb n n refl

pub eqb_sym : (n m : ℕ) → eqb n m ≡ eqb m n
eqb_sym n m = go (eqb m n) refl
  where
    go : (b : Bool) → eqb m n ≡ b → eqb n m ≡ b
    go true e = eq-eqb n m (sym (eqb-true m n e))
    go false e = ne_eqb n m (λ p. eqb-false m n e (sym p))

pub and_parts : (a b : Bool) → (a && b) ≡ true → (a ≡ true) × (b ≡ true)
and_parts true b e = (refl, e)
and_parts false b e = absurd (false≢true e)

pub and_both : (a b : Bool) → a ≡ true → b ≡ true → (a && b) ≡ true
and_both true b e h = h
and_both false b e h = e

-- A part that holds may be left out.
pub and_always : (a b : Bool) → b ≡ true → (a && b) ≡ a
and_always true b e = e
and_always false b e = refl

-- Two conjunctions with a part that fails are the same.
pub and_fails : (a b c d : Bool) → c ≡ false → d ≡ false → (a && c) ≡ (b && d)
and_fails a b c d e h = ap (λ x. a && x) e ∙ and-false a ∙ sym (ap (λ x. b && x) h ∙ and-false b)

-- Two tests that agree where c holds are the same beside c.
pub and_where : (a b c : Bool) → (c ≡ true → a ≡ b) → (a && c) ≡ (b && c)
and_where a b true h = ap (λ d. d && true) (h refl)
and_where true true false h = refl
and_where true false false h = refl
and_where false true false h = refl
and_where false false false h = refl

-- The second of one pair and the first of the other change places.
pub and_swap : (a b c d : Bool) → ((a && b) && (c && d)) ≡ ((a && c) && (b && d))
and_swap true true c d = refl
and_swap true false c d = sym (and-false c)
and_swap false b c d = refl

pub not_or : (a b : Bool) → not (a || b) ≡ (not a && not b)
not_or true b = refl
not_or false b = refl

pub or_parts : (a b : Bool) → (a || b) ≡ false → (a ≡ false) × (b ≡ false)
or_parts true b e = absurd (true≢false e)
or_parts false b e = (refl, e)

pub or_neither : (a b : Bool) → a ≡ false → b ≡ false → (a || b) ≡ false
or_neither true b e h = e
or_neither false b e h = h

pub or_left : (a b : Bool) → a ≡ true → (a || b) ≡ true
or_left true b e = refl
or_left false b e = absurd (false≢true e)

pub or_right : (a b : Bool) → b ≡ true → (a || b) ≡ true
or_right true b e = refl
or_right false b e = e

-- A test whose truth is absurd is false.
pub false_of_not : (b : Bool) → (b ≡ true → ⊥) → b ≡ false
false_of_not true h = absurd (h refl)
false_of_not false h = refl
