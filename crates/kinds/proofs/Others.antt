-- Others: the other words of a result kind, by the table and by the vocabulary; all words of the kind but one.
use mathlib.Core.Path.{◌≡◌, refl, sym, ap, ap₂, ◌∙◌}
use mathlib.Core.Bool.{Bool, true, false, not, ◌&&◌, cond}
use mathlib.Core.List.{List, [], ◌∷◌}
use Prim.Native.Nat.{ℕ, ◌+◌, ◌%◌, ◌<◌, ◌≤◌}
use native.Mathlib.Nat.{mod-eq_of_lt}
use native.Mathlib.Omega.{arith}
use lib.Dec.{eqb}
use lib.ListN.{length, get_or}
use borrow.Author.Tests.{eq-eqb, eqb-true}
use Rattle.terms.specs.Lists.{All, range, keep}
use Rattle.terms.specs.Signature.{result}
use Rattle.terms.proofs.All.{all-range, all_implies}
use Rattle.terms.proofs.Count.{bit, count, count_le, count-range, length-keep, length-range}
use Rattle.wire.specs.Vocabulary.{signature, word, most_kinds}
use Rattle.wire.proofs.Words.{length_symbols, result-word, word-in_order}
use Rattle.kinds.specs.Kinds.{kind_in, has_kind, is_other, others_in, OthersTabled, Tallied}

-- ---- the vocabulary's others

keep_where : (t u : ℕ → Bool) (l : List ℕ) → All (λ x. t x ≡ u x) l → keep t l ≡ keep u l
keep_where t u [] h = refl
keep_where t u (x ∷ l) h = ap₂ (λ b z. cond b (x ∷ z) z) h.0 (keep_where t u l h.1)

pub others-tabled : OthersTabled
others-tabled W in_order n results counted table f h =
    ap (λ k. keep (λ g. not (eqb g f) && eqb (result (signature W) g) (result (signature W) f)) (range 0 k)) (length_symbols W ∙ sym counted)
    ∙ keep_where (λ g. not (eqb g f) && eqb (result (signature W) g) (result (signature W) f)) (is_other results f) (range 0 n)
    (all_implies (λ g. g < 0 + n) _
    (λ g k. ap₂ (λ x y. not (eqb g f) && eqb x y) (kind g (omega arith)) (kind f h)) (range 0 n) (all-range 0 n))
  where
    low : (g : ℕ) → g < n → (word W g).result < most_kinds
    low g k = omega (arith, (word-in_order W g in_order (omega (arith, counted))).result, in_order.few_kinds)

    kind : (g : ℕ) → g < n → result (signature W) g ≡ kind_in results g
    kind g k = result-word W g ∙ sym (mod-eq_of_lt (low g k)) ∙ ap (λ x. x % most_kinds) (sym (table g k))

-- ---- how many there are

count-both : (t u v : ℕ → Bool) (l : List ℕ) → ((x : ℕ) → bit (t x) ≡ bit (u x) + bit (v x)) → count t l ≡ count u l + count v l
count-both t u v [] e = refl
count-both t u v (x ∷ l) e = omega (arith, e x, count-both t u v l e)

module _ (results : List ℕ) (f : ℕ) where
  -- A word of the kind of f is f or another.
  itself_or_other : (h : ℕ) → bit (has_kind results (kind_in results f) h) ≡ bit (eqb h f) + bit (is_other results f h)
  itself_or_other h = go (eqb h f) refl
    where
      go : (b : Bool) → eqb h f ≡ b → bit (has_kind results (kind_in results f) h) ≡ bit b + bit (not b && has_kind results (kind_in results f) h)
      go true e = ap bit (eq-eqb (kind_in results h) (kind_in results f) (ap (kind_in results) (eqb-true h f e)))
      go false e = omega arith

  siblings-counted : (n : ℕ) → f < n → length (keep (has_kind results (kind_in results f)) (range 0 n)) ≡ 1 + length (others_in n results f)
  siblings-counted n h =
      length-keep (has_kind results (kind_in results f)) (range 0 n)
      ∙ count-both (has_kind results (kind_in results f)) (λ g. eqb g f) (is_other results f) (range 0 n) itself_or_other
      ∙ ap₂ ◌+◌ (count-range f 0 n (omega arith) (omega arith)) (sym (length-keep (is_other results f) (range 0 n)))

-- The tally of the kind of f.
pub siblings-here : {words : ℕ} {results counts : List ℕ} (f k : ℕ) → Tallied words results counts → f < words → k ≡ kind_in results f →
    get_or counts k 0 ≡ 1 + length (others_in words results f)
siblings-here {words} {results} {counts} f k t h e =
    t.each k (omega arith) ∙ ap (λ k. length (keep (has_kind results k) (range 0 words))) e ∙ siblings-counted results f words h

pub others-few : (n : ℕ) (results : List ℕ) (f : ℕ) → length (others_in n results f) ≤ n
others-few n results f =
    omega (arith, length-keep (is_other results f) (range 0 n), count_le (is_other results f) (range 0 n), length-range 0 n)
