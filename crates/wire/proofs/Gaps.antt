-- Gaps: first_gap gives the first gap of a good term, where there is one.
use mathlib.Core.Path.{◌≡◌, refl, sym, ◌∙◌, subst}
use mathlib.Core.Bool.{Bool, true, false, cond, true≢false}
use mathlib.Core.List.{List, [], ◌∷◌}
use mathlib.Core.Logic.{◌↔◌, ◌⊎◌, inl, inr}
use mathlib.Core.Option.{Option, some, none}
use Prim.Native.Nat.{ℕ, ◌+◌, ◌≤◌, ◌<◌}
use native.Mathlib.Omega.{arith}
use lib.ListN.{length, length-append}
use Rattle.terms.specs.Signature.{arguments}
use Rattle.terms.specs.Term.{Term, any, var, app, Terms, nil, cons, Sorted, SortedAll}
use Rattle.wire.specs.Map.{map_bytes}
use Rattle.wire.specs.Vocabulary.{Vocabulary, signature, word, InOrder}
use Rattle.wire.specs.TermBytes.{encode_at, encode_all}
use Rattle.wire.specs.GapComputed.{some_open, gap_from, gap_all, first_gap}
use Rattle.terms.specs.Lists.{or_else}
use Rattle.wire.specs.SituationLines.{GapAt, GapsAt, Gap, FirstGap}
use Rattle.wire.specs.Laws.{FirstGapIsExact}
use Rattle.wire.proofs.FullMap.{full_map_means_no_open_place}
use Rattle.wire.proofs.Words.{length_symbols, arguments-word}

-- A gap stands among the bytes of its term.
mutual
  pub gap_within : (W : Vocabulary) (t : Term) (at q : ℕ) → GapAt W t at q → (at ≤ q) × (q < at + length (encode_at W t))
  gap_within W any at q h = absurd h
  gap_within W (var n) at q h = (omega arith, omega arith)
  gap_within W (app f ts) at q (inl h) = let e = h.1 in (omega arith, omega arith)
  gap_within W (app f ts) at q (inr h) = let k = gaps-within W ts (at + 1 + map_bytes) q h in (omega arith, omega arith)

  pub gaps-within : (W : Vocabulary) (ts : Terms) (at q : ℕ) → GapsAt W ts at q → (at ≤ q) × (q < at + length (encode_all W ts))
  gaps-within W nil at q h = absurd h
  gaps-within W (cons t ts) at q (inl h) =
      let k = gap_within W t at q h in (omega arith, omega (arith, length-append (encode_at W t) (encode_all W ts)))
  gaps-within W (cons t ts) at q (inr h) =
      let k = gaps-within W ts (at + length (encode_at W t)) q h in
      (omega arith, omega (arith, length-append (encode_at W t) (encode_all W ts)))

-- A place that may be missing is the first of those with a property.
abbrev FirstOf : (ℕ → Type 0) → Option ℕ → Type 0
FirstOf P none = (r : ℕ) → P r → ⊥
FirstOf P (some q) = P q × ((r : ℕ) → P r → q ≤ r)

first_else : (P Q : ℕ → Type 0) (a b : Option ℕ) → FirstOf P a → FirstOf Q b → ((q r : ℕ) → P q → Q r → q ≤ r) →
    FirstOf (λ r. P r ⊎ Q r) (or_else a b)
first_else P Q none none h k o = λ r x. either r x
  where
    either : (r : ℕ) → P r ⊎ Q r → ⊥
    either r (inl x) = h r x
    either r (inr x) = k r x
first_else P Q none (some q) h k o = (inr k.0, either)
  where
    either : (r : ℕ) → P r ⊎ Q r → q ≤ r
    either r (inl x) = absurd (h r x)
    either r (inr x) = k.1 r x
first_else P Q (some q) b h k o = (inl h.0, either)
  where
    either : (r : ℕ) → P r ⊎ Q r → q ≤ r
    either r (inl x) = h.1 r x
    either r (inr x) = o q r h.0 x

first-same : (P Q : ℕ → Type 0) (a : Option ℕ) → ((r : ℕ) → P r → Q r) → ((r : ℕ) → Q r → P r) → FirstOf P a → FirstOf Q a
first-same P Q none f g h = λ r x. h r (g r x)
first-same P Q (some q) f g h = (f q h.0, λ r x. h.1 r (g r x))

-- A word's own gap stands before those of its places.
word_first : (W : Vocabulary) → InOrder W → (f : ℕ) (ts : Terms) (s at : ℕ) → Sorted (signature W) (app f ts) s →
    FirstOf (GapsAt W ts (at + 1 + map_bytes)) (gap_all W ts (at + 1 + map_bytes)) →
    FirstOf (GapAt W (app f ts) at) (gap_from W (app f ts) at)
word_first W in_order f ts s at h k = go (some_open ts) refl
  where
    known : f < length W.words
    known = rw (length_symbols W) at h.0

    sorted : SortedAll (signature W) ts (word W f).kinds
    sorted = subst (SortedAll (signature W) ts) (arguments-word W f) h.2

    below : (r : ℕ) → GapAt W (app f ts) at r → at + 1 ≤ r
    below r (inl x) = let e = x.1 in omega arith
    below r (inr x) = let l = gaps-within W ts (at + 1 + map_bytes) r x in omega arith

    go : (b : Bool) → some_open ts ≡ b →
        FirstOf (GapAt W (app f ts) at) (cond b (some (at + 1)) (gap_all W ts (at + 1 + map_bytes)))
    go true e = (
      inl ((λ m. true≢false (sym e ∙ (full_map_means_no_open_place W f ts in_order known sorted).0 m)), refl),
      below,
    )
    go false e = first-same (GapsAt W ts (at + 1 + map_bytes)) (GapAt W (app f ts) at) (gap_all W ts (at + 1 + map_bytes)) (λ r x. inr x) inside k
      where
        inside : (r : ℕ) → GapAt W (app f ts) at r → GapsAt W ts (at + 1 + map_bytes) r
        inside r (inl x) = absurd (x.0 ((full_map_means_no_open_place W f ts in_order known sorted).1 e))
        inside r (inr x) = x

mutual
  gap-first : (W : Vocabulary) → InOrder W → (t : Term) (s at : ℕ) → Sorted (signature W) t s → FirstOf (GapAt W t at) (gap_from W t at)
  gap-first W in_order any s at h = λ r x. x
  gap-first W in_order (var n) s at h = (refl, λ r x. omega arith)
  gap-first W in_order (app f ts) s at h =
      word_first W in_order f ts s at h (gaps-first W in_order ts (arguments (signature W) f) (at + 1 + map_bytes) h.2)

  gaps-first : (W : Vocabulary) → InOrder W → (ts : Terms) (ks : List ℕ) (at : ℕ) → SortedAll (signature W) ts ks →
      FirstOf (GapsAt W ts at) (gap_all W ts at)
  gaps-first W in_order nil ks at h = λ r x. x
  gaps-first W in_order (cons t ts) [] at h = absurd h
  gaps-first W in_order (cons t ts) (k ∷ ks) at h =
      first_else (GapAt W t at) (GapsAt W ts (at + length (encode_at W t))) (gap_from W t at) (gap_all W ts (at + length (encode_at W t)))
      (gap-first W in_order t k at h.0) (gaps-first W in_order ts ks (at + length (encode_at W t)) h.1)
      (λ q r x y. let a = gap_within W t at q x in let b = gaps-within W ts (at + length (encode_at W t)) r y in omega arith)

root-first : (W : Vocabulary) → InOrder W → (t : Term) (s : ℕ) → Sorted (signature W) t s → FirstOf (Gap W t) (first_gap W t)
root-first W in_order any s h = (refl, λ r x. omega arith)
root-first W in_order (var n) s h = gap-first W in_order (var n) s 1 h
root-first W in_order (app f ts) s h = gap-first W in_order (app f ts) s 1 h

first-exact : (W : Vocabulary) (t : Term) (a : Option ℕ) → FirstOf (Gap W t) a → (q : ℕ) → (a ≡ some q) ↔ FirstGap W t q
first-exact W t none h q = (
  (λ e. let z : ◌≡◌ {A = ℕ} 0 1 = cc in absurd (omega arith)),
  (λ g. absurd (h q g.gap)),
)
first-exact W t (some p) h q = (
  (λ e. let same : p ≡ q = cc in subst (FirstGap W t) same (record { gap = h.0; first = h.1 })),
  (λ g.
      let low = h.1 q g.gap in
      let high = g.first p h.0 in
      let same : p ≡ q = omega arith in cc),
)

pub first_gap_is_exact : FirstGapIsExact
first_gap_is_exact W s t in_order good q = first-exact W t (first_gap W t) (root-first W in_order t s good.sorted.sorted) q
