-- Framing: the turns of a walk through a word that has open places, over the frames of the words around a place.
--
--   Framing p s frames spans from x depth i j    what is due is as the frame x and those below it say; the word began at `from`
--   framing_begins, framing_ends                 the frame of the word itself; none any more
--   framing_rest                                 the pattern ends
--   Turn, Written                                a turn that takes the lowest place off the frame; one at a written place
--   turn_leave, turn_gap, turn_opened            the frame is done; there is no place; it is open
--   place-stands, turn_stopped                   the place can be passed; it does not fit
--   turn_leaf, turn_pushed                       a word without places, one with places
--   turn_named                                   a name
--   word_room, word-later, part-later            a frame more has room; how far the walk has come in the situation
--
use mathlib.Core.Path.{◌≡◌, refl, sym, ap, ap₂, ◌∙◌, subst, subst₂}
use mathlib.Core.Bool.{Bool, true, false}
use mathlib.Core.List.{List, [], ◌∷◌, ◌++◌}
use Prim.Native.Nat.{ℕ, suc, ◌+◌, ◌-◌, ◌%◌, ◌<◌, ◌≤◌}
use native.Mathlib.Numerals.{add-one}
use native.Mathlib.Omega.{arith}
use lib.Dec.{eqb, ltb}
use lib.ListN.{length, get_or, set, replicate, length-set}
use borrow.Author.Tests.{eq-eqb, ne_eqb, ltb-true, ltb-false}
use Rattle.terms.specs.Term.{Terms, Grounds}
use Rattle.wire.specs.Map.{map_bytes}
use Rattle.wire.specs.Matching.{Inputs}
use Rattle.wire.proofs.GroundBytes.{joined}
use Rattle.spans.specs.Frames.{map_at, written_in, places_in, TwoMaps}
use Rattle.spans.specs.Spans.{Standing, ends}
use Rattle.spans.specs.Walking.{InputsRead, Walked, WalkedOver, Side, AtSharedWord, WordBehind, AtPlace, PlacePassed, PlaceStopped}
use Rattle.spans.proofs.Joined.{chained}
use Rattle.spans.proofs.Marks.{Mark, marks, marks_of, marks_due, marks_none, Shifted, marks-place, marks-gap, marks-kept, marks-again, Marked}
use Rattle.spans.proofs.Side.{Facing, facing, facing_inside, stands, turn_open}
use Rattle.spans.proofs.Words.{AtWord, at-word, word-pattern, word-situation, word-differs, word-goes, word-marked}
use Rattle.spans.proofs.Names.{AtName, at_name, name-known, name-spans, name-goes, name-later, name_none}
use Rattle.spans.proofs.Begin.{walked_none}
use Rattle.spans.proofs.Going.{in_order, shared-word}

pub record FramingOver (x : Inputs) (p s spans : List ℕ) (ms : List Mark) (i j : ℕ) : Type 0 where
  pub terms : Terms
  pub grounds : Grounds
  pub side : Side x p s spans terms grounds i j
  pub marked : Marked terms ms

pub record Framing (p s frames spans : List ℕ) (from due depth i j : ℕ) : Type 0 where
  pub over : (a : InputsRead p s) → FramingOver a.inputs p s spans (marks_due due frames depth) i j
  pub shallow : depth ≤ 32
  pub entries : length frames ≡ 32
  pub further : from < i

pub framing_begins : {p s spans : List ℕ} {from at z : ℕ} → AtSharedWord p s spans from at → TwoMaps z (map_at p from) (map_at s at) →
    Framing p s (replicate 32 0) spans from z 1 (from + (1 + map_bytes)) (at + (1 + map_bytes))
framing_begins {p} {s} {spans} {from} {at} {z} c z-maps = record {
  over = λ a.
      let word = shared-word c a in
      record {
        terms = chained word.arguments word.terms;
        grounds = joined word.parts word.grounds;
        side = word-goes (in_order a) word c.shared;
        marked = subst₂ (λ q w. Marked (chained word.arguments word.terms) (marks 1 q w ++ [])) (sym z-maps.places) (sym z-maps.written)
            (word-marked (in_order a) word c.shared);
      };
  shallow = omega arith;
  entries = refl;
  further = omega arith;
}

module _ {p s frames spans : List ℕ} {from due depth i j : ℕ} (c : Framing p s frames spans from due depth i j) where
  pub framing_ends : depth ≤ 0 → WordBehind p s spans from i j
  framing_ends none = record {
    further = c.further;
    on = λ a.
        let zero : depth ≡ 0 = omega arith in
        let over = c.over a in
        record {
          terms = over.terms;
          grounds = over.grounds;
          side = over.side;
          shut = λ l. subst (λ x. Marked over.terms (marks_due due frames x)) zero over.marked;
        };
  }

  -- Nothing but open places is due.
  pub framing_rest : length p ≤ i → WordBehind p s spans from i j
  framing_rest ends = record {
    further = c.further;
    on = λ a.
        let over = c.over a in
        record { terms = over.terms; grounds = over.grounds; side = over.side; shut = λ l. absurd (omega arith) };
  }

  -- The same terms are due by other frames.
  marks_changed : {frames' : List ℕ} {due' depth' : ℕ} → marks_due due frames depth ≡ marks_due due' frames' depth' → depth' ≤ 32 → length frames' ≡ 32 →
      Framing p s frames' spans from due' depth' i j
  marks_changed e shallow entries = record {
    over = λ a.
        let over = c.over a in
        record { terms = over.terms; grounds = over.grounds; side = over.side; marked = subst (Marked over.terms) e over.marked };
    shallow = shallow;
    entries = entries;
    further = c.further;
  }

  pub top_slot : 0 < depth → depth - 1 < 32
  top_slot some = let shallow = c.shallow in omega arith

  pub turn_leave : 0 < depth → places_in due ≡ 0 → Framing p s frames spans from (get_or frames (depth - 1) 0) (depth - 1) i j
  turn_leave some none =
      let shallow = c.shallow in
      marks_changed
      (ap (marks_due due frames) (let e : depth ≡ suc (depth - 1) = omega arith in e)
      ∙ ap (λ l. l ++ marks_of frames (depth - 1)) (marks_none (suc (depth - 1)) (places_in due) (written_in due) none)
      ∙ marks-again frames (depth - 1))
      (omega arith) c.entries

-- ---- a turn that takes the lowest place off the frame, which is y then

pub record Turn (p s frames spans : List ℕ) (from due depth i j y : ℕ) : Type 0 where
  pub inv : Framing p s frames spans from due depth i j
  pub some : 0 < depth
  pub shifted : Shifted due y

module _ {p s frames spans : List ℕ} {from due depth i j y : ℕ} (c : Turn p s frames spans from due depth i j y) where
  same_depth : depth ≡ suc (depth - 1)
  same_depth = let some = c.some in omega arith

  -- What holds with terms due at other places, and as y and the frames below it say.
  turned : {after : List ℕ} {i' j' : ℕ} → ((a : InputsRead p s) → FramingOver a.inputs p s after (marks_due y frames depth) i' j') → i ≤ i' →
      Framing p s frames after from y depth i' j'
  turned over later =
      let further = c.inv.further in
      record { over = over; shallow = c.inv.shallow; entries = c.inv.entries; further = omega arith }

  pub turn_gap : (places_in due % 2 ≡ 1 → ⊥) → Framing p s frames spans from y depth i j
  turn_gap even =
      marks_changed c.inv
      (ap (marks_due due frames) same_depth
      ∙ ap (λ l. l ++ marks_of frames (depth - 1)) (marks-gap (suc (depth - 1)) due y c.shifted even)
      ∙ ap (marks_due y frames) (sym same_depth))
      c.inv.shallow c.inv.entries

  -- What is due first, where there is a place, and w tells whether it is written.
  at-place : places_in due % 2 ≡ 1 → (w : Bool) → eqb (written_in due % 2) 1 ≡ w → (a : InputsRead p s) →
      Facing a.inputs p s spans (record { written = w; level = depth }) (marks_due y frames depth) i j
  at-place odd w o a =
      let over = c.inv.over a in
      facing over.side
      (subst (Marked over.terms)
      (ap (marks_due due frames) same_depth
      ∙ ap (λ l. l ++ marks_of frames (depth - 1)) (marks-place (suc (depth - 1)) due y c.shifted odd)
      ∙ ap {B = List Mark} (λ b. record { written = b; level = suc (depth - 1) } ∷ marks_due y frames (suc (depth - 1))) o
      ∙ ap {B = List Mark} (λ d. record { written = w; level = d } ∷ marks_due y frames d) (sym same_depth))
      over.marked)

  -- ---- an open place

  module _ (odd : places_in due % 2 ≡ 1) (bit : due % 2 ≡ 0) where
    pub at_open : (a : InputsRead p s) → Facing a.inputs p s spans (record { written = false; level = depth }) (marks_due y frames depth) i j
    at_open = at-place odd false (ne_eqb (written_in due % 2) 1 (λ q. omega arith))

    -- The part that it takes.
    abbrev pub open_part : InputsRead p s → Standing s j
    open_part a = stands (at_open a).side (in_order a)

    pub turn_opened : (end : ℕ) → ((b : Standing s j) → end ≡ ends b) → Framing p s frames spans from y depth i end
    turn_opened end e =
        turned (λ a.
        let f = at_open a in
        record {
          terms = f.terms;
          grounds = f.grounds;
          side = subst (Side a.inputs p s spans f.terms f.grounds i) (sym (e (open_part a))) (turn_open f.side f.marked.0);
          marked = f.marked.2;
        }) (omega arith)

-- ---- a written place

pub record Written (p s frames spans : List ℕ) (from due depth i j y : ℕ) : Type 0 where
  pub turn : Turn p s frames spans from due depth i j y
  pub place : places_in due % 2 ≡ 1
  pub bit : due % 2 ≡ 0 → ⊥

module _ {p s frames spans : List ℕ} {from due depth i j y : ℕ} (c : Written p s frames spans from due depth i j y) where
  at-written : (a : InputsRead p s) → Facing a.inputs p s spans (record { written = true; level = depth }) (marks_due y frames depth) i j
  at-written = let bit = c.bit in at-place c.turn c.place true (eq-eqb (written_in due % 2) 1 (omega arith))

  turn_word : get_or p i 0 < 128 → (a : InputsRead p s) → AtWord a.inputs p s spans depth (marks_due y frames depth) i j
  turn_word low a = at-word (at-written a) low

  turn_name : 128 ≤ get_or p i 0 → (a : InputsRead p s) → AtName a.inputs p s spans (marks_due y frames depth) i j
  turn_name high a = at_name (in_order a) (at-written a) high

  -- What passing the place asks for.
  pub place-stands : InputsRead p s → AtPlace p s spans i j
  place-stands a = record {
    inside = facing_inside (at-written a);
    most = (a.held.pattern.limits.most, a.held.situation.limits.most);
    nodes = λ low. (word-pattern (in_order a) (turn_word low a), word-situation (in_order a) (turn_word low a));
    part = λ high. stands (turn_name high a).side (in_order a);
    known = λ high. name-known (turn_name high a);
    spans_inside = λ high. name-spans (turn_name high a);
  }

  pub word_room : get_or p i 0 < 128 → InputsRead p s → depth < 32
  word_room low a = let deep = (turn_word low a).deep in omega arith

  pub turn_stopped : {after : List ℕ} → PlaceStopped p s spans after i j → Walked p s after false
  turn_stopped {after} stopped a = go (ltb (get_or p i 0) 128) refl
    where
      go : (b : Bool) → ltb (get_or p i 0) 128 ≡ b → WalkedOver a.inputs after false
      go true e =
          let low = ltb-true (get_or p i 0) 128 e in
          walked_none (word-differs (in_order a) (turn_word low a) (stopped.word low))
      go false e =
          let high = ltb-false (get_or p i 0) 128 e in
          walked_none (name_none (turn_name high a) (in_order a) (stopped.name high))

  module _ {after : List ℕ} {r k : ℕ} (passed : PlacePassed p s spans after i j r k) where
    -- ---- a word

    module _ (low : get_or p i 0 < 128) where
      argued : {ns : List Mark} → marks (suc depth) (map_at s j) (map_at p i) ++ marks_due y frames depth ≡ ns → (a : InputsRead p s) →
          FramingOver a.inputs p s after ns r k
      argued {ns} e a =
          let word = passed.word low in
          let at = turn_word low a in
          subst (λ l. FramingOver a.inputs p s l ns r k) (sym word.kept)
          (subst₂ (FramingOver a.inputs p s spans ns) (sym word.behind.0) (sym word.behind.1)
          (record {
            terms = chained at.arguments at.terms;
            grounds = joined at.parts at.grounds;
            side = word-goes (in_order a) at word.shared;
            marked = subst (Marked (chained at.arguments at.terms)) e (word-marked (in_order a) at word.shared);
          }))

      pub word-later : k ≡ j + (1 + map_bytes)
      word-later = (passed.word low).behind.1

      pub turn_leaf : map_at s j ≡ 0 → Framing p s frames after from y depth r k
      turn_leaf none =
          turned c.turn (argued (ap (λ l. l ++ marks_due y frames depth) (marks_none (suc depth) (map_at s j) (map_at p i) none)))
          (let behind = (passed.word low).behind.0 in omega arith)

      pub turn_pushed : InputsRead p s → (z : ℕ) → TwoMaps z (map_at p i) (map_at s j) → Framing p s (set frames depth y) after from z (depth + 1) r k
      turn_pushed a z maps =
          let room = word_room low a in
          let further = c.turn.inv.further in
          let behind = (passed.word low).behind.0 in
          record {
            over = argued
                (ap₂ (λ q w. marks (suc depth) q w ++ marks_due y frames depth) (sym maps.places) (sym maps.written)
                ∙ ap (λ l. marks (suc depth) (places_in z) (written_in z) ++ l) kept
                ∙ ap (marks_due z (set frames depth y)) (sym (add-one depth)));
            shallow = omega arith;
            entries = length-set frames depth y ∙ c.turn.inv.entries;
            further = omega arith;
          }
        where
          kept : marks_due y frames depth ≡ marks_of (set frames depth y) depth
          kept =
              ap (marks_due y frames) (same_depth c.turn)
              ∙ sym (marks-kept frames (depth - 1) y (omega (arith, word_room low a, c.turn.inv.entries, (same_depth c.turn))))
              ∙ ap (λ d. marks_of (set frames d y) d) (sym (same_depth c.turn))

    -- ---- a name

    module _ (high : 128 ≤ get_or p i 0) where
      pub turn_named : Framing p s frames after from y depth r k
      turn_named =
          let name = passed.name high in
          let behind = name.behind in
          turned c.turn (λ a.
          let at = turn_name high a in
          record {
            terms = at.terms;
            grounds = at.grounds;
            side = subst (λ i. Side a.inputs p s after at.terms at.grounds i k) (sym behind) (name-goes at (in_order a) name.covered);
            marked = at.rest;
          }) (omega arith)

      pub part-later : InputsRead p s → j ≤ k
      part-later a = name-later (turn_name high a) (in_order a) (passed.name high).covered
