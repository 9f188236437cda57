-- Chaining: each word gets the next one of its result kind, from the last word to the first.
use mathlib.Core.Path.{◌≡◌, refl, sym, ap, ap₂, ◌∙◌}
use mathlib.Core.Bool.{Bool, true, false}
use mathlib.Core.List.{List}
use Prim.Native.Nat.{ℕ, ◌+◌, ◌-◌, ◌<◌, ◌≤◌}
use native.Mathlib.Decide.{ℕ_discrete}
use native.Mathlib.Omega.{arith}
use lib.ListN.{length, get_or, set, replicate, length-set, get_or-replicate}
use lib.Seq.{get_or-set_same, get_or-set_other}
use borrow.Author.Tests.{eqb-true, eqb-false}
use Rattle.terms.specs.Lists.{range, keep}
use Rattle.wire.specs.Vocabulary.{most_kinds, most_words}
use Rattle.wire.proofs.Cond.{cond_true, cond_false}
use Rattle.kinds.specs.Kinds.{kind_in, has_kind, lowest, Chained}
use Rattle.kinds.proofs.Ranges.{range-first}

module _ (n : ℕ) (results : List ℕ) (k g : ℕ) (inside : g < n) where
  lowest-here : has_kind results k g ≡ true → lowest n results k g ≡ g
  lowest-here e =
      ap (λ l. get_or (keep (has_kind results k) l) 0 255) (range-first n g inside) ∙ ap (λ l. get_or l 0 255) (cond_true (has_kind results k g) _ _ e)

  lowest-behind : has_kind results k g ≡ false → lowest n results k g ≡ lowest n results k (g + 1)
  lowest-behind e =
      ap (λ l. get_or (keep (has_kind results k) l) 0 255) (range-first n g inside) ∙ ap (λ l. get_or l 0 255) (cond_false (has_kind results k g) _ _ e)

-- The words from h on are chained.
pub record ChainedFrom (n : ℕ) (results chains : List ℕ) (h : ℕ) : Type 0 where
  pub below : h ≤ n
  pub size : length chains ≡ most_words + most_kinds
  pub next : (g : ℕ) → h ≤ g → g < most_words → get_or chains g 0 ≡ lowest n results (kind_in results g) (g + 1)
  pub first : (k : ℕ) → k < most_kinds → get_or chains (most_words + k) 0 ≡ lowest n results k h

pub chained_none : {n : ℕ} {results : List ℕ} {h : ℕ} → h ≡ n → ChainedFrom n results (replicate (most_words + most_kinds) 255) h
chained_none {n} {results} {h} e = record {
  below = omega arith;
  size = refl;
  next = λ g a b. get_or-replicate (most_words + most_kinds) g 255 0 (omega arith) ∙ sym (nothing_left (kind_in results g) (g + 1) (omega arith));
  first = λ k low. get_or-replicate (most_words + most_kinds) (most_words + k) 255 0 (omega arith) ∙ sym (nothing_left k h (omega arith));
}
  where
    nothing_left : (k from : ℕ) → n ≤ from → lowest n results k from ≡ 255
    nothing_left k from h = ap (λ c. get_or (keep (has_kind results k) (range from c)) 0 255) (let z : n - from ≡ 0 = omega arith in z)

module _ {n : ℕ} {results chains : List ℕ} {h : ℕ} (c : ChainedFrom n results chains h) where
  pub chained-all : h ≤ 0 → Chained n results chains
  chained-all z = record {
    size = c.size;
    next = λ g b. c.next g (omega arith) b;
    first = λ k low. c.first k low ∙ ap (lowest n results k) (let e : h ≡ 0 = omega arith in e);
  }

  module _ (small : n ≤ most_words) (some : 0 < h) (k : ℕ) (same : k ≡ kind_in results (h - 1)) (low : k < most_kinds) where
    abbrev g : ℕ
    g = h - 1

    inside : g < n
    inside = let b = c.below in omega arith

    -- The word's entry is set, then that of its kind.
    abbrev half : List ℕ
    half = set chains g (get_or chains (most_words + k) 0)

    half_size : length half ≡ most_words + most_kinds
    half_size = length-set chains g (get_or chains (most_words + k) 0) ∙ c.size

    first_more : (j : ℕ) → j < most_kinds → (b : Bool) → has_kind results j g ≡ b → get_or (set half (most_words + k) g) (most_words + j) 0 ≡ lowest n results j g
    first_more j l true e =
        let here : j ≡ k = sym (eqb-true (kind_in results g) j e) ∙ sym same in
        ap (λ i. get_or (set half (most_words + k) g) (most_words + i) 0) here
        ∙ get_or-set_same half (most_words + k) g 0 (let s = half_size in omega arith)
        ∙ sym (lowest-here n results j g inside e)
    first_more j l false e =
        get_or-set_other half (most_words + k) (most_words + j) g 0 (λ z. eqb-false (kind_in results g) j e (sym same ∙ (let y : k ≡ j = omega arith in y)))
        ∙ get_or-set_other chains g (most_words + j) (get_or chains (most_words + k) 0) 0 (λ z. let d = inside in omega arith)
        ∙ c.first j l
        ∙ ap (lowest n results j) (let z : h ≡ g + 1 = omega arith in z)
        ∙ sym (lowest-behind n results j g inside e)

    abbrev Next : ℕ → Type 0
    Next i = get_or half i 0 ≡ lowest n results (kind_in results i) (i + 1)

    next_here : (i : ℕ) → i ≡ g → Next i
    next_here i e =
        ap (λ i. get_or half i 0) e
        ∙ get_or-set_same chains g (get_or chains (most_words + k) 0) 0 (let d = inside in let s = c.size in omega arith)
        ∙ c.first k low
        ∙ ap₂ (lowest n results) (same ∙ ap (kind_in results) (sym e)) (let z : h ≡ i + 1 = omega arith in z)

    next-there : (i : ℕ) → g ≤ i → i < most_words → (i ≡ g → ⊥) → Next i
    next-there i a b e = get_or-set_other chains g i (get_or chains (most_words + k) 0) 0 e ∙ c.next i (omega arith) b

    pub chained_turn : ChainedFrom n results (set half (most_words + k) g) g
    chained_turn = record {
      below = let b = c.below in omega arith;
      size = length-set half (most_words + k) g ∙ half_size;
      next = λ i a b. get_or-set_other half (most_words + k) i g 0 (λ z. omega arith) ∙ elim (ℕ_discrete i g) [ yes e ↦ next_here i e | no e ↦ next-there i a b e ];
      first = λ j l. first_more j l (has_kind results j g) refl;
    }
