-- Finding: a name stands in a list of names at the number under which it is found there.
--
--   same_refl, same-exact        tokens have the same bytes exactly where they are equal
--   index_at                     the name of number i is found under i, where no name stands twice
--   at-index                     a name that is found stands where it is found
--   index-most                   no number is larger than the count of names
--   index-append, index-behind   a name that stands, or does not, in the first of two lists
--   new-name                     the next name is none of those before it
--   distinct-last                a name that was not found may follow
--
use mathlib.Core.Path.{◌≡◌, refl, sym, ap, subst, ◌∙◌}
use mathlib.Core.Bool.{Bool, true, false, cond, true≢false}
use mathlib.Core.List.{List, [], ◌∷◌, ◌++◌}
use Prim.Native.Nat.{ℕ, zero, suc, ◌+◌, ◌<◌, ◌≤◌}
use native.Mathlib.Omega.{arith}
use lib.Dec.{ltb}
use lib.ListN.{length, take, drop, length-append, take-append-drop}
use lib.Seq.{length-take-le}
use borrow.Author.Tests.{ltb-true}
use Rattle.terms.proofs.Bools.{false_of_not}
use Rattle.wire.proofs.Cond.{cond_true, cond_false}
use Rattle.texts.specs.Lexemes.{Token}
use Rattle.texts.specs.Names.{same, index_in, name_at, Distinct}
pub use Rattle.texts.proofs.Scanning.{same_refl, same-exact}

pub index_at : (l : List Token) (i : ℕ) → Distinct l → i < length l → index_in (name_at l i) l ≡ i
index_at [] i d h = absurd (omega arith)
index_at (u ∷ l) zero d h = cond_true (same u u) zero (suc (index_in u l)) (same_refl u)
index_at (u ∷ l) (suc i) d h = go (index_at l i d.1 (omega arith))
  where
    other : index_in (name_at l i) l ≡ i → same (name_at l i) u ≡ true → ⊥
    other e p =
        let q : index_in u l ≡ i = subst (λ (z : Token). index_in z l ≡ i) (same-exact (name_at l i) u p) e in
        let k = d.0 in omega arith

    go : index_in (name_at l i) l ≡ i → index_in (name_at l i) (u ∷ l) ≡ suc i
    go e =
        cond_false (same (name_at l i) u) zero (suc (index_in (name_at l i) l)) (false_of_not (same (name_at l i) u) (other e)) ∙ ap suc e

pub at-index : (t : Token) (l : List Token) → index_in t l < length l → name_at l (index_in t l) ≡ t
at-index t [] h = absurd (omega arith)
at-index t (u ∷ l) h = go (same t u) refl h (at-index t l)
  where
    go : (b : Bool) → same t u ≡ b → cond b zero (suc (index_in t l)) < suc (length l) → (index_in t l < length l → name_at l (index_in t l) ≡ t) →
        name_at (u ∷ l) (cond b zero (suc (index_in t l))) ≡ t
    go true e h ih = sym (same-exact t u e)
    go false e h ih = ih (omega arith)

pub index-most : (t : Token) (l : List Token) → index_in t l ≤ length l
index-most t [] = omega arith
index-most t (u ∷ l) = go (same t u) (index-most t l)
  where
    go : (b : Bool) → index_in t l ≤ length l → cond b zero (suc (index_in t l)) ≤ suc (length l)
    go true h = omega arith
    go false h = omega arith

pub index-append : (t : Token) (l m : List Token) → index_in t l < length l → index_in t (l ++ m) ≡ index_in t l
index-append t [] m h = absurd (omega arith)
index-append t (u ∷ l) m h = go (same t u) h (index-append t l m)
  where
    go : (b : Bool) → cond b zero (suc (index_in t l)) < suc (length l) → (index_in t l < length l → index_in t (l ++ m) ≡ index_in t l) →
        cond b zero (suc (index_in t (l ++ m))) ≡ cond b zero (suc (index_in t l))
    go true h ih = refl
    go false h ih = ap suc (ih (omega arith))

pub index-behind : (t : Token) (l m : List Token) → index_in t l ≡ length l → index_in t (l ++ m) ≡ length l + index_in t m
index-behind t [] m h = omega arith
index-behind t (u ∷ l) m h = go (same t u) h (index-behind t l m)
  where
    go : (b : Bool) → cond b zero (suc (index_in t l)) ≡ suc (length l) →
        (index_in t l ≡ length l → index_in t (l ++ m) ≡ length l + index_in t m) →
        cond b zero (suc (index_in t (l ++ m))) ≡ suc (length l) + index_in t m
    go true h ih = absurd (omega arith)
    go false h ih = let e = ih (omega arith) in omega arith

pub new-name : (l : List Token) (i : ℕ) → Distinct l → i < length l → ltb (index_in (name_at l i) (take i l)) (length (take i l)) ≡ false
new-name l i d h = false_of_not (ltb (index_in t (take i l)) (length (take i l))) no_other
  where
    t : Token
    t = name_at l i

    no_other : ltb (index_in t (take i l)) (length (take i l)) ≡ true → ⊥
    no_other e =
        let b = ltb-true (index_in t (take i l)) (length (take i l)) e in
        let n = length-take-le i l (omega arith) in
        let found : index_in t l ≡ index_in t (take i l) =
        subst (λ (z : List Token). index_in t z ≡ index_in t (take i l)) (take-append-drop i l) (index-append t (take i l) (drop i l) b) in
        let at : index_in t l ≡ i = index_at l i d h in omega arith

pub distinct-last : (l : List Token) (u : Token) → Distinct l → length l ≤ index_in u l → Distinct (l ++ (u ∷ []))
distinct-last [] u d h = (refl, tt)
distinct-last (t ∷ l) u d h = (place, distinct-last l u d.1 (below (same u t) h))
  where
    below : (b : Bool) → suc (length l) ≤ cond b zero (suc (index_in u l)) → length l ≤ index_in u l
    below true k = absurd (omega arith)
    below false k = omega arith

    fresh : (b : Bool) → same u t ≡ b → suc (length l) ≤ cond b zero (suc (index_in u l)) → same t u ≡ true → ⊥
    fresh true e k p = omega arith
    fresh false e k p =
        true≢false (sym (same_refl t) ∙ subst (λ (z : Token). same z t ≡ false) (sym (same-exact t u p)) e)

    place : index_in t (l ++ (u ∷ [])) ≡ length (l ++ (u ∷ []))
    place =
        let one = index-behind t l (u ∷ []) d.0 in
        let last : index_in t (u ∷ []) ≡ 1 = cond_false (same t u) zero 1 (false_of_not (same t u) (fresh (same u t) refl h)) in
        let n = length-append l (u ∷ []) in omega arith
