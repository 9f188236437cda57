-- Measuring: one pass over the bytes sums up the number of entries and of bytes.
use mathlib.Core.Path.{◌≡◌, refl, sym, ap, ap₂, ◌∙◌}
use mathlib.Core.Bool.{Bool, true, false}
use mathlib.Core.List.{List, [], ◌∷◌}
use Prim.Native.Nat.{ℕ, suc, ◌+◌, ◌*◌, ◌<◌, ◌≤◌, min}
use native.Mathlib.Nat.{mul-le-mul}
use native.Mathlib.Numerals.{add-one}
use native.Mathlib.Omega.{arith}
use lib.Dec.{ltb}
use lib.ListN.{length, get_or, take, drop, drop_of_length-le}
use lib.Seq.{drop-cons, drop-drop, take_all}
use borrow.Author.Tests.{lt-ltb, le-ltb, ltb-true, ltb-false}
use Rattle.wire.specs.Map.{map_bytes}
use Rattle.wire.specs.TermBytes.{most_bytes}
use Rattle.wire.proofs.Cond.{cond_true, cond_false}
use Rattle.kinds.specs.Kinds.{others_in}
use Rattle.kinds.proofs.Others.{others-few}
use Rattle.sizes.specs.Sizes.{summed_by, entries_at, bytes_at, Summed}

-- ---- the steps of the pass

module _ (words : ℕ) (g : ℕ → ℕ → ℕ) where
  skip_one : (l : List ℕ) (at : ℕ) → summed_by words g 1 l at ≡ summed_by words g 0 (drop 1 l) (at + 1)
  skip_one [] at = refl
  skip_one (b ∷ l) at = refl

  module _ (p : List ℕ) (at : ℕ) (inside : at < length p) (f : ℕ) (here : f ≡ get_or p at 0) where
    begun : summed_by words g 0 (drop at p) at ≡ summed_by words g 0 (f ∷ drop (suc at) p) at
    begun = ap (λ l. summed_by words g 0 l at) (drop-cons p at 0 inside ∙ ap (λ b. b ∷ drop (suc at) p) (sym here))

    pass_word : f < words → summed_by words g 0 (drop at p) at ≡ g f at + summed_by words g 0 (drop (at + 2) p) (at + 2)
    pass_word k =
        begun
        ∙ cond_true _ _ _ (lt-ltb f words k)
        ∙ ap (λ n. g f at + n)
        (skip_one (drop (suc at) p) (at + 1)
        ∙ ap₂ (λ l q. summed_by words g 0 l q)
        (drop-drop 1 (suc at) p ∙ ap (λ i. drop i p) (let e : suc at + 1 ≡ at + 2 = omega arith in e))
        (let e : at + 1 + 1 ≡ at + 2 = omega arith in e))

    pass_other : words ≤ f → summed_by words g 0 (drop at p) at ≡ summed_by words g 0 (drop (at + 1) p) (at + 1)
    pass_other k =
        begun
        ∙ cond_false _ _ _ (le-ltb f words k)
        ∙ ap (λ i. summed_by words g 0 (drop i p) (at + 1)) (sym (add-one at))

-- ---- the loop

-- What is summed so far, and what is left from the offset `at` on.
pub record SummedTo (words : ℕ) (results p : List ℕ) (entries bytes at : ℕ) : Type 0 where
  pub low : at ≤ 4097
  pub few : entries ≤ 96 * at
  pub small : bytes ≤ 393408 * at
  pub counts : summed_by words (entries_at words results) 1 p 0 ≡ entries + summed_by words (entries_at words results) 0 (drop at p) at
  pub sizes : summed_by words (bytes_at words results) 1 p 0 ≡ bytes + summed_by words (bytes_at words results) 0 (drop at p) at

product_small : (n at : ℕ) → n ≤ 96 → at ≤ 4096 → n * (at + 2) ≤ 393408
product_small n at h k = mul-le-mul h (let e : at + 2 ≤ 4098 = omega arith in e)

module _ {words : ℕ} {results p : List ℕ} (few : words ≤ 96) (long : length p ≤ 4096) where
  pub summed_none : SummedTo words results p 0 0 1
  summed_none = record {
    low = omega arith;
    few = omega arith;
    small = omega arith;
    counts = skip_one words (entries_at words results) p 0 ∙ omega arith;
    sizes = skip_one words (bytes_at words results) p 0 ∙ omega arith;
  }

  module _ {entries bytes at : ℕ} (s : SummedTo words results p entries bytes at) (inside : at < length p) where
    -- A word f with n siblings.
    module _ {f n : ℕ} (here : f ≡ get_or p at 0) (counted : n ≡ length (others_in words results f)) where
      -- The next counts fit.
      pub summed-room : (n * (at + 2) ≤ 393408) × (entries + n ≤ 96 * (at + 2)) × (bytes + n * (at + 2) ≤ 393408 * (at + 2))
      summed-room =
          let product : n * (at + 2) ≤ 393408 = product_small n at (omega (arith, others-few words results f)) (omega arith) in
          let a = s.few in
          let b = s.small in
          (product, omega (arith, others-few words results f), omega arith)

      pub summed-word : f < words → SummedTo words results p (entries + n) (bytes + n * (at + 2)) (at + 2)
      summed-word k =
          let r = summed-room in
          let wide : bytes_at words results f at ≡ n * (at + 2) = ap₂ ◌*◌ (sym counted) (let z : at + 1 + map_bytes ≡ at + 2 = omega arith in z) in
          let step = pass_word words (entries_at words results) p at inside f here k in
          let step-2 = pass_word words (bytes_at words results) p at inside f here k in
          record {
            low = omega arith;
            few = r.1;
            small = r.2;
            counts = omega (arith, s.counts, counted);
            sizes = omega (arith, s.sizes);
          }

    pub summed-other : {f : ℕ} → f ≡ get_or p at 0 → words ≤ f → SummedTo words results p entries bytes (at + 1)
    summed-other {f} here k =
        let a = s.few in
        let b = s.small in
        record {
          low = omega arith;
          few = omega arith;
          small = omega arith;
          counts = s.counts ∙ ap (λ n. entries + n) (pass_other words (entries_at words results) p at inside f here k);
          sizes = s.sizes ∙ ap (λ n. bytes + n) (pass_other words (bytes_at words results) p at inside f here k);
        }

  pub summed-all : {entries bytes at : ℕ} → SummedTo words results p entries bytes at → length p ≤ at → Summed words results p entries bytes
  summed-all {entries} {bytes} {at} s k =
      let last : drop at p ≡ [] = drop_of_length-le p {i = at} k in
      let a : summed_by words (entries_at words results) 0 (drop at p) at ≡ 0 = ap (λ l. summed_by words (entries_at words results) 0 l at) last in
      let b : summed_by words (bytes_at words results) 0 (drop at p) at ≡ 0 = ap (λ l. summed_by words (bytes_at words results) 0 l at) last in
      record { counts = omega (arith, s.counts); sizes = omega (arith, s.sizes) }

-- The first bytes, at most 4,096.
pub front_is : (p : List ℕ) → take (min (length p) most_bytes) p ≡ take most_bytes p
front_is p = go (ltb (length p) most_bytes) refl
  where
    go : (b : Bool) → ltb (length p) most_bytes ≡ b → take (min (length p) most_bytes) p ≡ take most_bytes p
    go true e =
        let l = ltb-true (length p) most_bytes e in
        take_all (min (length p) most_bytes) p (omega arith) ∙ sym (take_all most_bytes p (omega arith))
    go false e =
        let l = ltb-false (length p) most_bytes e in
        ap (λ i. take i p) (let z : min (length p) most_bytes ≡ most_bytes = omega arith in z)
