-- Marking: a table of marks follows the list of the kinds that are reached.
use mathlib.Core.Path.{◌≡◌, refl, sym, ◌∙◌, ap}
use mathlib.Core.Bool.{Bool, true, false, not, ◌&&◌}
use mathlib.Core.List.{List, [], ◌∷◌}
use Prim.Native.Nat.{ℕ, zero, suc, ◌+◌, ◌<◌, ◌≤◌}
use native.Mathlib.Omega.{arith}
use native.Mathlib.Decide.{ℕ_discrete}
use lib.ListN.{length, get_or, take, drop, set, replicate, length-drop, length-set, get_or-replicate}
use lib.Seq.{get_or-take, get_or-drop, get_or-set_same, get_or-set_other, length-take-le}
use borrow.Author.Tests.{eq-eqb, ne_eqb, ltb-true, ltb-false}
use lib.Dec.{ltb}
use Rattle.std.specs.Prelude.{cond}
use Rattle.std.specs.List.{position, position_or_len}
use Rattle.std.proofs.lemmas.List.Sums.{fails_before_first, passes_at_first}
use Rattle.terms.specs.Lists.{occurs}
use Rattle.terms.specs.Signature.{Symbol}
use Rattle.terms.specs.Emptiness.{covered, joined}
use Rattle.terms.proofs.First.{least_first, nowhere_first}
use Rattle.terms.proofs.Occurs.{missing}
use Rattle.terms.proofs.Inhabited.{joined-stays, closed-stays, joined-occurs}
use Rattle.wire.specs.Map.{map_bytes}
use Rattle.wire.specs.VocabularyLines.{byte_at}
use Rattle.std.specs.Prelude.{Some, None}
use Rattle.signature.specs.Loading.{Marks, Markable, Covers, PlacesInside, PlacesCovered, FirstMissing}

-- No mark stands for no kind.
pub marks_none : Marks (replicate 16 false) []
marks_none = record { size = refl; each = λ k b. get_or-replicate 16 k false false b }

-- A mark, and what it says of the list.
module _ (marked : List Bool) (l : List ℕ) (marks : Marks marked l) (k : ℕ) (small : k < 16) where
  pub marked-occurs : get_or marked k false ≡ true → occurs k l ≡ true
  marked-occurs h = sym (marks.each k small) ∙ h

  pub unmarked_occurs : get_or marked k false ≡ false → occurs k l ≡ false
  unmarked_occurs h = sym (marks.each k small) ∙ h

-- Kinds that are all in a list, and kinds of which one is not.

covered-all : (ks l : List ℕ) → ((j : ℕ) → j < length ks → occurs (get_or ks j 0) l ≡ true) → covered ks l ≡ true
covered-all [] l h = refl
covered-all (k ∷ ks) l h = rw (h 0 (omega arith)) (covered-all ks l (λ j b. h (suc j) (omega arith)))

covered_out : (ks l : List ℕ) (j : ℕ) → j < length ks → occurs (get_or ks j 0) l ≡ false → covered ks l ≡ false
covered_out [] l j b h = absurd (omega arith)
covered_out (k ∷ ks) l zero b h = rw h
covered_out (k ∷ ks) l (suc j) b h = and-false (occurs k l) (covered_out ks l j (omega arith) h)
  where
    and-false : (t : Bool) {u : Bool} → u ≡ false → (t && u) ≡ false
    and-false true e = e
    and-false false e = refl

-- The bytes of v from an offset on, as kinds.
module _ (v : List ℕ) (at n : ℕ) (inside : at + n ≤ length v) (markable : Markable v at n) (marked : List Bool) where
  length_part : length (take n (drop at v)) ≡ n
  length_part = length-take-le n (drop at v) (rw length-drop (omega arith))

  part_at : (j : ℕ) → j < n → get_or (take n (drop at v)) j 0 ≡ byte_at v (at + j)
  part_at j h = rw (get_or-take, get_or-drop)

  pub covers_true : ((j : ℕ) → j < n → get_or marked (byte_at v (at + j)) false ≡ true) → Covers v at n marked true
  covers_true h l marks =
      sym (covered-all (take n (drop at v)) l λ j b.
      let b : j < n = omega (arith, length_part) in
      rw (part_at j b) (marked-occurs marked l marks (byte_at v (at + j)) (markable j b) (h j b)))

  pub covers_false : (i : ℕ) → i < n → get_or marked (byte_at v (at + i)) false ≡ false → Covers v at n marked false
  covers_false i b h l marks =
      sym (covered_out (take n (drop at v)) l i (rw length_part b)
      (rw (part_at i b) (unmarked_occurs marked l marks (byte_at v (at + i)) (markable i b) h)))

-- A word without places.
pub covers-bare : (v : List ℕ) (o k : ℕ) → PlacesInside v o k → k ≡ 0 → (marked : List Bool) → PlacesCovered v o k marked true
covers-bare v o k places e marked = covers_true v (o + (1 + map_bytes)) k places.inside places.markable marked (λ j h. absurd (omega arith))

-- The lowest kind without a mark.
module _ (kinds : ℕ) (few : kinds ≤ 16) (marked : List Bool) where
  abbrev Marked : ℕ → Type 0
  Marked n = (j : ℕ) → j < n → get_or marked j false ≡ true

  pub missing_kind : (k : ℕ) → k < kinds → Marked k → get_or marked k false ≡ false → FirstMissing kinds marked (Some k)
  missing_kind k b h e l marks =
      sym (least_first (missing l) 0 kinds k (record {
        low = omega arith;
        high = omega arith;
        passes = ap not (unmarked_occurs marked l marks k (omega arith) e);
        lower = λ j lo hi. ap not (marked-occurs marked l marks j (omega arith) (h j hi));
      }))

  pub missing_nothing : Marked kinds → FirstMissing kinds marked None
  missing_nothing h l marks =
      sym (nowhere_first (missing l) 0 kinds λ j lo hi. ap not (marked-occurs marked l marks j (omega arith) (h j (omega arith))))

  -- The first place of a table that has no mark is that kind.
  pub missing_place : length marked ≡ 16 → FirstMissing kinds marked (position not (take kinds marked))
  missing_place size = go (ltb (position_or_len not (take kinds marked)) (length (take kinds marked))) refl
    where
      many : length (take kinds marked) ≡ kinds
      many = length-take-le kinds marked (omega arith)

      place : ℕ
      place = position_or_len not (take kinds marked)

      part : (j : ℕ) → j < kinds → get_or (take kinds marked) j false ≡ get_or marked j false
      part j b = rw get_or-take refl

      not_false : {t : Bool} → not t ≡ false → t ≡ true
      not_false {t = true} e = refl
      not_false {t = false} e = sym e

      not_true : {t : Bool} → not t ≡ true → t ≡ false
      not_true {t = true} e = sym e
      not_true {t = false} e = refl

      passed : (j : ℕ) → j < place → j < kinds → get_or marked j false ≡ true
      passed j h b = not_false (sym (ap not (part j b)) ∙ fails_before_first not (take kinds marked) j false h)

      go : (t : Bool) → ltb place (length (take kinds marked)) ≡ t → FirstMissing kinds marked (cond t (Some place) None)
      go true h =
          let low : place < length (take kinds marked) = ltb-true place (length (take kinds marked)) h in
          let below : place < kinds = omega (arith, many, low) in
          let here : get_or marked place false ≡ false = not_true (sym (ap not (part place below)) ∙ passes_at_first not (take kinds marked) false low) in
          missing_kind place below (λ j k. passed j k (omega (arith, k, below))) here
      go false h =
          let high : length (take kinds marked) ≤ place = ltb-false place (length (take kinds marked)) h in
          missing_nothing (λ j k. passed j (omega (arith, k, high, many)) k)

-- One symbol's turn.

-- What is marked where the symbol's argument kinds are in the list.
pub marks-joined : (marked : List Bool) (l : List ℕ) (s : Symbol) → covered s.arguments l ≡ true → Marks marked l → Marks (set marked s.result true) (joined s l)
marks-joined marked l s c marks = record { size = rw length-set marks.size; each = λ k b. go k b (ℕ_discrete k s.result) }
  where
    go : (k : ℕ) → k < 16 → Dec (k ≡ s.result) → get_or (set marked s.result true) k false ≡ occurs k (joined s l)
    go k b (yes e) =
        let r : s.result < length marked = omega (arith, marks.size) in
        rw (joined-occurs, c, eq-eqb k s.result e, e, get_or-set_same)
    go k b (no e) = rw (joined-occurs, c, ne_eqb k s.result e, get_or-set_other) (marks.each k b)

pub marks_stay : (marked : List Bool) (l : List ℕ) (s : Symbol) → covered s.arguments l ≡ false → Marks marked l → Marks marked (joined s l)
marks_stay marked l s c marks = record { size = marks.size; each = λ k b. rw (joined-occurs, c) (marks.each k b) }

-- A symbol whose result kind has its mark.
pub marks_had : (marked : List Bool) (l : List ℕ) (s : Symbol) → s.result < 16 → get_or marked s.result false ≡ true → Marks marked l → Marks marked (joined s l)
marks_had marked l s b h marks = rw (joined-stays s l (closed-stays s l (λ c. marked-occurs marked l marks s.result b h))) marks
