-- Nodes: where terms end is found node by node, by how many terms are due.
--
--   node-name, node-last, node-word        a byte of 128 or more, a word's number at the end, a word with its map
--   DueFrom l end at k                     `at` bytes of l are passed, and the k terms that are due from there on end at `end`
--   from-begins                            one is due at the front
--   from_none, from-ends                   none is due, or the bytes end: this is the end
--   from-node, from-below                  a node is passed, or some of the terms are
--   beside_ones, joined-ones, bare-ones    how many terms are due with those of a map
--
use mathlib.Core.Path.{◌≡◌, refl, ap, ◌∙◌}
use mathlib.Core.List.{List, ◌∷◌}
use Prim.Native.Nat.{ℕ, zero, suc, ◌+◌, ◌*◌, ◌/◌, ◌%◌, ◌<◌, ◌≤◌}
use native.Mathlib.Omega.{arith}
use lib.Count
use lib.ListN.{length, get_or, drop, length-drop, drop_of_length-le}
use lib.Seq.{drop-cons, drop-drop}
use Rattle.wire.specs.Map.{flags, ones}
use Rattle.wire.specs.EntryCut.{due_size}
use Rattle.wire.proofs.Map.{ones-count}
use Rattle.wire.proofs.Ones.{no_ones}
use Rattle.wire.proofs.EntryCut.{due_none, due-name, due-last, due-word, due-more, due-within}
use Rattle.extents.specs.Nodes.{NodeEnds}

-- ---- a node

module _ (l : List ℕ) (at : ℕ) (more : at < length l) where
  abbrev b : ℕ
  b = get_or l at 0

  here : drop at l ≡ b ∷ drop (at + 1) l
  here = drop-cons l at 0 more ∙ ap (λ (n : ℕ). b ∷ drop n l) (let e : suc at ≡ at + 1 = omega arith in e)

  -- No term is below it, and it is a byte.
  bare : ((k : ℕ) → due_size (b ∷ drop (at + 1) l) (suc k) ≡ 1 + due_size (drop (at + 1) l) k) → NodeEnds l at (at + 1) 0
  bare one = record {
    forth = omega arith;
    inside = let m = more in omega arith;
    small = omega arith;
    due =
        λ k. omega (arith, ap (λ r. due_size r (suc k)) here, one k, ap (due_size (drop (at + 1) l)) (let e : Count.ones 0 + k ≡ k = omega (arith, no_ones 0 refl) in e));
  }

  pub node-name : 128 ≤ b → NodeEnds l at (at + 1) 0
  node-name low = bare λ k. due-name b (drop (at + 1) l) k low ∙ omega arith

  -- The bytes end where the map is due.
  pub node-last : length l ≤ at + 1 → NodeEnds l at (at + 1) 0
  node-last last = bare λ k.
      ap (λ (r : List ℕ). due_size (b ∷ r) (suc k)) (drop_of_length-le l last)
      ∙ due-last b k ∙ omega (arith, ap (λ (r : List ℕ). due_size r k) (drop_of_length-le l last))

  -- The map as it is read.
  pub node-word : {map : ℕ} → map ≡ get_or l (at + 1) 0 → map < 256 → b < 128 → at + 1 < length l → NodeEnds l at (at + 1 + 1) map
  node-word {map} is byte low inner = record {
    forth = omega arith;
    inside = omega arith;
    small = byte;
    due = λ k. omega (arith, ap (λ r. due_size r (suc k)) here, word k, ap (λ n. due_size (drop (at + 1 + 1) l) (n + k)) count);
  }
    where
      m : ℕ
      m = get_or l (at + 1) 0

      count : Count.ones map ≡ ones (flags m)
      count = ones-count map byte ∙ ap (λ (n : ℕ). ones (flags n)) is

      word : (k : ℕ) → due_size (b ∷ drop (at + 1) l) (suc k) ≡ 2 + due_size (drop (at + 1 + 1) l) (ones (flags m) + k)
      word k =
          ap (λ (r : List ℕ). due_size (b ∷ r) (suc k))
          (drop-cons l (at + 1) 0 inner ∙ ap (λ (n : ℕ). m ∷ drop n l) (let e : suc (at + 1) ≡ at + 1 + 1 = omega arith in e))
          ∙ due-word b m (drop (at + 1 + 1) l) k low ∙ omega arith

-- ---- the terms that are due

pub record DueFrom (l : List ℕ) (end at k : ℕ) : Type 0 where
  pub inside : at ≤ length l
  pub left : at + due_size (drop at l) k ≡ end

-- One term is due at the front.
pub from-begins : (l : List ℕ) → DueFrom l (due_size l 1) 0 (Count.ones 1)
from-begins l = record { inside = omega arith; left = omega (arith, ap (due_size l) (Count.ones-ones 1)) }

pub from_none : {l : List ℕ} {end at k : ℕ} → DueFrom l end at k → k ≡ 0 → at ≡ end
from_none {l} {at = at} h e = omega (arith, h.left, ap (due_size (drop at l)) e, due_none (drop at l))

pub from-ends : {l : List ℕ} {end at k : ℕ} → DueFrom l end at k → length l ≤ at → at ≡ end
from-ends {l} {k = k} h e = omega (arith, h.left, ap (λ (r : List ℕ). due_size r k) (drop_of_length-le l e))

pub from-node : {l : List ℕ} {end at k to map : ℕ} → DueFrom l end at k → NodeEnds l at to map → (rest : ℕ) → rest + 1 ≡ k →
    DueFrom l end to (Count.ones map + rest)
from-node {l} {at = at} {k = k} h node rest e = record {
  inside = node.inside;
  left = omega (arith, h.left, node.due rest, ap (due_size (drop at l)) (let p = e in let s : suc rest ≡ k = omega arith in s));
}

-- Of the terms the first j end at `to`.
pub from-below : {l : List ℕ} {end at : ℕ} (j k : ℕ) → DueFrom l end at (j + k) → {to : ℕ} → to ≡ at + due_size (drop at l) j → DueFrom l end to k
from-below {l} {end} {at} j k h {to} is = record {
  inside = omega (arith, is, h.inside, due-within zero (drop at l) j, length-drop at l);
  left =
      ap (λ n. n + due_size (drop n l) k) is
      ∙ omega (arith, h.left, due-more (drop at l) j k, ap (λ r. due_size r k) (drop-drop (due_size (drop at l) j) at l));
}

-- A map goes into the lowest byte, where no bit is there, or below all.
pub beside_ones : (due map : ℕ) → due % 256 ≡ 0 → map < 256 → Count.ones map + Count.ones due ≡ Count.ones (due + map)
beside_ones due map none h =
    let a : ℕ = due / 256 in
    let whole : due ≡ a * 256 + 0 = omega arith in
    let both : due + map ≡ a * 256 + map = omega arith in
    omega (arith, ap Count.ones whole, Count.ones_cat 8 a 0 (omega arith), no_ones 0 refl, ap Count.ones both, Count.ones_cat 8 a map h)

pub joined-ones : (due map : ℕ) → map < 256 → Count.ones map + Count.ones due ≡ Count.ones (due * 256 + map)
joined-ones due map h = omega (arith, Count.ones_cat 8 due map h)

pub bare-ones : (due map : ℕ) → map ≡ 0 → Count.ones map + Count.ones due ≡ Count.ones due
bare-ones due map e = omega (arith, no_ones map e)
