-- Copying: what a slice holds while the front of another is copied into it.
use mathlib.Core.Path.{◌≡◌, refl, sym, ap, ◌∙◌}
use mathlib.Core.List.{List, [], ◌∷◌, ◌++◌, append_assoc}
use Prim.Native.Nat.{ℕ, suc, ◌+◌, ◌<◌, ◌≤◌}
use native.Mathlib.Nat.{min-eq_left}
use native.Mathlib.Numerals.{add-one}
use native.Mathlib.Omega.{arith}
use lib.ListN.{length, get_or, take, drop, set, length-set}
use lib.Seq.{length-take-le, take-suc, take-length, drop-cons, take_at, set_at}
use Rattle.slices.specs.Copied.{begun, copied}

-- A slice no longer than the other is copied whole.
pub copied-whole : (from to : List ℕ) → length from ≤ length to → copied from to ≡ from ++ drop (length from) to
copied-whole from to h =
    ap (begun from to) (min-eq_left h) ∙ ap (λ l. l ++ drop (length from) to) (take-length from)

-- A byte behind the first i is stored.
pub stored : (to : List ℕ) (i b : ℕ) → i < length to → (l : List ℕ) → length l ≡ i → set (l ++ drop i to) i b ≡ (l ++ (b ∷ [])) ++ drop (suc i) to
stored to i b k l e =
    ap (λ r. set (l ++ r) i b) (drop-cons to i 0 k)
    ∙ set_at l (get_or to i 0) (drop (suc i) to) b i e
    ∙ sym (append_assoc l (b ∷ []) (drop (suc i) to))

module _ (from to : List ℕ) where
  begun_more : (i : ℕ) → i < length from → i < length to → set (begun from to i) i (get_or from i 0) ≡ begun from to (i + 1)
  begun_more i h k =
      stored to i (get_or from i 0) k (take i from) (length-take-le i from (omega arith))
      ∙ ap (λ l. l ++ drop (suc i) to) (sym (take-suc from i 0 h))
      ∙ ap (begun from to) (sym (add-one i))

-- The loop: so far the first i of n bytes are copied.
pub record Copying (from to : List ℕ) (n i : ℕ) (now : List ℕ) : Type 0 where
  pub below : i ≤ n
  pub size : length now ≡ length to
  pub same : now ≡ begun from to i

module _ {from to : List ℕ} {n : ℕ} (long : n ≤ length from) (room : n ≤ length to) where
  pub copied_none : Copying from to n 0 to
  copied_none = record { below = omega arith; size = refl; same = refl }

  pub copied_turn : {i : ℕ} {now : List ℕ} → Copying from to n i now → i < n → Copying from to n (i + 1) (set now i (get_or from i 0))
  copied_turn {i} {now} h k =
      let s = h.size in
      record {
        below = omega arith;
        size = length-set now i (get_or from i 0) ∙ h.size;
        same = ap (λ l. set l i (get_or from i 0)) h.same ∙ begun_more from to i (omega arith) (omega arith);
      }

  pub copied-done : {i : ℕ} {now : List ℕ} → Copying from to n i now → n ≤ i → now ≡ begun from to n
  copied-done {i} {now} h k =
      let b = h.below in
      let e : i ≡ n = omega arith in
      h.same ∙ ap (begun from to) e

  pub copied_all : {i : ℕ} {now : List ℕ} → Copying from to n i now → n ≤ i → take n now ≡ take n from
  copied_all h k = ap (take n) (copied-done h k) ∙ take_at (take n from) (drop n to) n (length-take-le n from long)
