-- Patterns: of a good pattern the sums are the number of its entries and of their bytes.
use mathlib.Core.Path.{◌≡◌, refl, sym, ap, ap₂, ◌∙◌, subst}
use mathlib.Core.Bool.{Bool, true, false, cond}
use mathlib.Core.List.{List, [], ◌∷◌}
use Prim.Native.Nat.{ℕ, zero, suc, ◌+◌, ◌*◌, ◌<◌, ◌≤◌}
use native.Mathlib.Nat.{min-eq_left}
use native.Mathlib.Omega.{arith}
use lib.Dec.{ltb}
use lib.ListN.{length, take}
use lib.Seq.{take_all}
use borrow.Author.Tests.{ltb-true}
use Rattle.terms.specs.Listing.{others}
use Rattle.wire.specs.Map.{map_bytes}
use Rattle.wire.specs.Vocabulary.{Vocabulary, signature, most_words}
use Rattle.wire.specs.TermBytes.{encode_term, most_bytes}
use Rattle.wire.specs.EntrySizes.{count_at, size_at, summed_in}
use Rattle.wire.proofs.EntrySizes.{pattern-count, pattern-length}
use Rattle.kinds.specs.Kinds.{others_in}
use Rattle.kinds.proofs.Others.{others-tabled}
use Rattle.sizes.specs.Sizes.{summed_by, entries_at, bytes_at, Summed, PatternSizes}

-- Two sums whose summands are the same for each word.
module _ (W : Vocabulary) (g h : ℕ → ℕ → ℕ) (same : (f q : ℕ) → f < length W.words → g f q ≡ h f q) where
  summed_same : (skip : ℕ) (l : List ℕ) (at : ℕ) → summed_by (length W.words) g skip l at ≡ summed_in W h skip l at
  summed_same skip [] at = refl
  summed_same (suc skip) (b ∷ l) at = summed_same skip l (at + 1)
  summed_same zero (b ∷ l) at = go (ltb b (length W.words)) refl (summed_same map_bytes l (at + 1)) (summed_same zero l (at + 1))
    where
      go : (c : Bool) → ltb b (length W.words) ≡ c →
          summed_by (length W.words) g map_bytes l (at + 1) ≡ summed_in W h map_bytes l (at + 1) →
          summed_by (length W.words) g zero l (at + 1) ≡ summed_in W h zero l (at + 1) →
          cond c (g b at + summed_by (length W.words) g map_bytes l (at + 1)) (summed_by (length W.words) g zero l (at + 1))
          ≡ cond c (h b at + summed_in W h map_bytes l (at + 1)) (summed_in W h zero l (at + 1))
      go true e x y = ap₂ ◌+◌ (same b at (ltb-true b (length W.words) e)) x
      go false e x y = y

pub pattern-sizes : PatternSizes
pattern-sizes W in_order s t good most n results counted table entries bytes m = (
  plain.counts
      ∙ summed_same W (entries_at (length W.words) results) (count_at W) (λ f q l. ap length (sym (same-others f l))) 1 (encode_term W s t) 0
      ∙ sym (pattern-count W in_order s t good),
  plain.sizes
      ∙ summed_same W (bytes_at (length W.words) results) (size_at W) (λ f q l. ap (λ o. length o * (q + 1 + map_bytes)) (sym (same-others f l))) 1
      (encode_term W s t) 0
      ∙ sym (pattern-length W in_order s t good),
)
  where
    same-others : (f : ℕ) → f < length W.words → others (signature W) f ≡ others_in (length W.words) results f
    same-others f l = others-tabled W in_order (length W.words) results refl (λ g l. table g (omega arith)) f l

    few : n ≤ most_words
    few = omega (arith, counted, in_order.few_words)

    plain : Summed (length W.words) results (encode_term W s t) entries bytes
    plain =
        subst (λ l. Summed (length W.words) results l entries bytes) (take_all most_bytes (encode_term W s t) most)
        (subst (λ i. Summed i results (take most_bytes (encode_term W s t)) entries bytes) (min-eq_left few ∙ counted) m)
