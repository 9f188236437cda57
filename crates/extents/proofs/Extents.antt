-- Extents: a term that is written ends where its bytes do.
--
--   front_is       the first bytes, at most n
--   term-inside    the size is at most the number of bytes
--   term_extent    of a term that is written at the front, the size is the number of its bytes
--   sized-empty, sized-entry, sized-within    an entry is its kind and the term behind it
--
use mathlib.Core.Path.{◌≡◌, refl, sym, ap, ◌∙◌}
use mathlib.Core.Bool.{Bool, true, false, not}
use mathlib.Core.List.{List, [], ◌∷◌, ◌++◌}
use Prim.Native.Nat.{ℕ, zero, ◌+◌, ◌-◌, ◌<◌, ◌≤◌, min}
use native.Mathlib.Omega.{arith}
use lib.Dec.{ltb}
use lib.ListN.{length, take, drop, length-take, length-drop}
use lib.Seq.{take_all, take-append-add}
use borrow.Author.Tests.{ltb-true, ltb-false}
use Rattle.wire.specs.Map.{bit}
use Rattle.wire.specs.TermBytes.{encode_at}
use Rattle.wire.specs.EntryCut.{due_size, entry_size}
use Rattle.wire.proofs.EntryCut.{due_none, due-within, due-at}
use Rattle.extents.specs.Extents.{most_extent, term_size, TermExtent}

pub front_is : (n : ℕ) (l : List ℕ) → take (min (length l) n) l ≡ take n l
front_is n l = go (ltb (length l) n) refl
  where
    go : (b : Bool) → ltb (length l) n ≡ b → take (min (length l) n) l ≡ take n l
    go true e =
        let h = ltb-true (length l) n e in
        take_all (min (length l) n) l (omega arith) ∙ sym (take_all n l (omega arith))
    go false e =
        let h = ltb-false (length l) n e in
        ap (λ k. take k l) (let z : min (length l) n ≡ n = omega arith in z)

pub term-inside : (l : List ℕ) → term_size l ≤ length l
term-inside l = omega (arith, due-within zero (take most_extent l) 1, length-take most_extent l)

pub term_extent : TermExtent
term_extent W in_order t s sorted closed few r =
    let x : List ℕ = encode_at W t in
    ap (λ n. due_size (take n (x ++ r)) 1) (let e : most_extent ≡ length x + (most_extent - length x) = omega arith in e)
    ∙ ap (λ l. due_size l 1) (take-append-add x r (most_extent - length x))
    ∙ ap (λ b. due_size (x ++ take (most_extent - length x) r) (bit (not b) + 0)) (sym closed)
    ∙ due-at W in_order t s sorted 0 (take (most_extent - length x) r)
    ∙ ap (λ n. length x + n) (due_none (take (most_extent - length x) r))
    ∙ omega arith

-- ---- an entry is its kind and the term behind it

pub sized-empty : (l : List ℕ) → length l ≡ 0 → 0 ≡ entry_size l
sized-empty [] h = refl
sized-empty (s ∷ l) h = absurd (omega arith)

module _ (l : List ℕ) (some : 0 < length l) {r : ℕ} (e : r ≡ due_size (take (length l - 1) (drop 1 l)) 1) where
  behind : r ≡ due_size (drop 1 l) 1
  behind = e ∙ ap (λ x. due_size x 1) (take_all (length l - 1) (drop 1 l) (let k = length-drop 1 l in omega arith))

  pub sized-entry : 1 + r ≡ entry_size l
  sized-entry = go l some behind
    where
      go : (l : List ℕ) → 0 < length l → r ≡ due_size (drop 1 l) 1 → 1 + r ≡ entry_size l
      go [] h k = absurd (omega arith)
      go (s ∷ l) h k = let same = k in omega arith

  pub sized-within : r ≤ length l
  sized-within = omega (arith, behind, due-within zero (drop 1 l) 1, length-drop 1 l)
