-- Walking: a walk stays inside, whatever the bytes are.
--
--   inside_as, stays_as      the same, for equal lengths
--   stays-told, moved_told   what a step says of the walk that it ends at
--   node_at                  a word that is there is read
--   root-inside              behind the kind bytes, and behind all of an entry that is 255
--   size-inside, moved_inside   behind a word that is there
--   over-stays               where a term is passed
--   map-begins               what is left of the maps at a word
--   Had, had, wordless-inside    what the pattern has at a place, and it is inside the pattern
--
use mathlib.Core.Path.{◌≡◌, refl, sym, ◌∙◌, subst}
use mathlib.Core.Bool.{Bool, true, false, cond}
use mathlib.Core.List.{List}
use Prim.Native.Nat.{ℕ, ◌+◌, ◌-◌, ◌<◌, ◌≤◌}
use native.Mathlib.Omega.{arith}
use lib.Dec.{ltb}
use lib.ListN.{length, get_or, get_or-eq_default}
use borrow.Author.Tests.{ltb-true, ltb-false}
use Rattle.wire.proofs.Cond.{cond_true, cond_false}
use Rattle.cuts.specs.declared.own.Walk.{Walk}
use Rattle.std.specs.Prelude.{Option, Some, None, Ok, Err}
use Rattle.cuts.specs.declared.walk.Node.{Node}
use Rattle.cuts.specs.Walking.{Step, Inside, StaysInside, passed, Moved, Moves, StaysOver, InMap, InReach}
use Rattle.cuts.specs.Cutting.{Room, NodesAt, NodesRead, wordless_at}

module _ {copied : ℕ} (entry pattern : ℕ) {out : ℕ} where
  pub stays_as : {copied' out' : ℕ} (r : Step) → copied' ≡ copied → out' ≡ out → StaysInside copied' entry pattern out' r → StaysInside copied entry pattern out r
  stays_as {copied'} {out'} r c o h = subst (λ n. StaysInside n entry pattern out r) c (subst (λ n. StaysInside copied' entry pattern n r) o h)

pub stays-told : (copied entry pattern out : ℕ) {r : Step} {w : Walk} → r ≡ Ok w → StaysInside copied entry pattern out r → Inside copied entry pattern out w
stays-told copied entry pattern out e = subst (StaysInside copied entry pattern out) e

pub node_at : {left : ℕ} {blank : Bool} {bytes other : List ℕ} {i q copied : ℕ} → i ≤ length bytes → q ≤ length other → Room left blank (length bytes - i) (length other - q) copied →
    NodesAt blank bytes i other q
node_at h k r = record { mine = λ e. omega (arith, r.mine e); other = omega (arith, r.other) }

pub root-inside : {copied entry pattern n out : ℕ} → InReach copied entry pattern n out → {copied' : ℕ} → copied' ≡ copied → (blank : Bool) {i : ℕ} → i ≡ cond blank entry 1 →
    {todo : ℕ} → Inside copied' entry pattern out (record { at = 1; entry = i; pattern = 1; written = n; todo = todo })
root-inside {entry = entry} h same blank {i} e = record {
  at = omega (arith, h.entry_long, h.entry_fits);
  mine = go blank e;
  other = omega (arith, h.pattern_long);
  written = h.written;
  copy_small = omega (arith, h.small);
  entry_small = omega (arith, h.small, h.entry_fits);
  pattern_small = omega (arith, h.small, h.pattern_fits);
}
  where
    go : (b : Bool) → i ≡ cond b entry 1 → i ≤ entry
    go true e = omega arith
    go false e = omega (arith, h.entry_long)

module _ {copied entry pattern out : ℕ} where
  pub inside_as : {copied' out' : ℕ} {w : Walk} → copied' ≡ copied → out' ≡ out → Inside copied entry pattern out w → Inside copied' entry pattern out' w
  inside_as {copied'} {out'} {w} c o h = subst (λ n. Inside n entry pattern out' w) (sym c) (subst (λ n. Inside copied entry pattern n w) (sym o) h)

  module _ {w : Walk} (h : Inside copied entry pattern out w) where
    pub size-inside : {left : ℕ} {blank : Bool} {bytes other : List ℕ} {node : Node} → Room left blank (entry - w.entry) (pattern - w.pattern) (copied - w.at) →
        NodesRead blank bytes w.entry other w.pattern node → w.entry + node.size ≤ entry
    size-inside {blank} {node = node} room n = size blank refl
      where
        size : (b : Bool) → blank ≡ b → w.entry + node.size ≤ entry
        size true e = let s = n.opened e in let i = h.mine in omega arith
        size false e = let s = n.closed e in let r = room.mine e in let i = h.mine in omega arith

    pub moved_inside : {left : ℕ} {blank : Bool} {bytes other : List ℕ} {node : Node} → Room left blank (entry - w.entry) (pattern - w.pattern) (copied - w.at) →
        NodesRead blank bytes w.entry other w.pattern node → {next : Walk} → Moved (passed w node.size) out next → Inside copied entry pattern out next
    moved_inside room n m = record {
      at = let r = room.put in let i = h.at in omega (arith, m.at);
      mine = let i = size-inside room n in omega (arith, m.entry);
      other = let r = room.other in let i = h.other in omega (arith, m.pattern);
      written = m.written;
      copy_small = h.copy_small;
      entry_small = h.entry_small;
      pattern_small = h.pattern_small;
    }

    pub over-stays : (q : ℕ) → q ≤ pattern → (r : Step) → StaysOver copied entry w q r → StaysInside copied entry pattern out r
    over-stays q l (Ok end) o = record {
      at = o.at;
      mine = o.mine;
      other = omega (arith, o.pattern);
      written = let i = h.written in omega (arith, o.written);
      copy_small = h.copy_small;
      entry_small = h.entry_small;
      pattern_small = h.pattern_small;
    }
    over-stays q l (Err e) o = tt

pub moved_told : (w : Walk) (out : ℕ) {r : Step} {next : Walk} → r ≡ Ok next → Moves w out r → Moved w out next
moved_told w out e = subst (Moves w out) e

-- ---- the bits of the maps

pub map-begins : {blank : Bool} {bytes other : List ℕ} {i q : ℕ} {node : Node} → NodesRead blank bytes i other q node → InMap 0 1 node.entry node.pattern
map-begins n = record { below = omega arith; few = omega arith; mine = n.mine; other = n.small }

-- ---- what the pattern has at a place

some_byte : (l : List ℕ) (q : ℕ) → 127 < get_or l q 0 → q < length l
some_byte l q h = go (ltb q (length l)) refl
  where
    go : (b : Bool) → ltb q (length l) ≡ b → q < length l
    go true e = ltb-true q (length l) e
    go false e = absurd (omega (arith, get_or-eq_default l 0 {n = q} (ltb-false q (length l) e)))

pub data Had (gap : Bool) (pattern : List ℕ) (q : ℕ) (k : Option ℕ) : Type 0 where
  nothing : gap ≡ true → k ≡ Some 0 → Had gap pattern q k
  name : gap ≡ false → 127 < get_or pattern q 0 → k ≡ Some 1 → Had gap pattern q k
  a_word : gap ≡ false → get_or pattern q 0 ≤ 127 → k ≡ None → Had gap pattern q k

pub had : (gap : Bool) (pattern : List ℕ) (q : ℕ) {k : Option ℕ} → k ≡ wordless_at gap pattern q → Had gap pattern q k
had true pattern q kind = nothing refl kind
had false pattern q {k} kind = go (ltb 127 (get_or pattern q 0)) refl
  where
    go : (b : Bool) → ltb 127 (get_or pattern q 0) ≡ b → Had false pattern q k
    go true l = name refl (ltb-true 127 (get_or pattern q 0) l) (kind ∙ cond_true (ltb 127 (get_or pattern q 0)) (Some 1) None l)
    go false l = a_word refl (ltb-false 127 (get_or pattern q 0) l) (kind ∙ cond_false (ltb 127 (get_or pattern q 0)) (Some 1) None l)

pub wordless-inside : (gap : Bool) (pattern : List ℕ) (q : ℕ) {k : Option ℕ} {size : ℕ} → k ≡ wordless_at gap pattern q → q ≤ length pattern →
    k ≡ Some size → q + size ≤ length pattern
wordless-inside gap pattern q {k} {size} kind i l = go (had gap pattern q kind)
  where
    go : Had gap pattern q k → q + size ≤ length pattern
    go (nothing e z) = let n : size ≡ 0 = cc in omega arith
    go (name e b z) = let n : size ≡ 1 = cc in let s = some_byte pattern q b in omega arith
    go (a_word e b z) = cc
