-- `complement::list_places` and `complement::list_term` meet their contracts.
use mathlib.Core.Path.{refl, sym, ◌∙◌}
use Prim.Native.Nat.{◌+◌}
use native.Mathlib.Omega.{arith}
use Rattle.maps.proofs.Reading.{map_at_lem}
use Rattle.complement.proofs.Places.{reached_none, done-inside, reached-all, is_bit, reached-clear, place-term, reached-term, both-inside}
use Rattle.complement.proofs.Terms.{term-word, name-listed, own-others_at, own-inside, word-places, word-listed}
use Rattle.complement.proofs.+list_places_list_term.Goals as goal

-- ---- list_places, at the loop

pub list_places-loop-bits-init : goal.list_places-loop-bits-init
list_places-loop-bits-init t c = λ h. reached_none _ h refl

pub list_places-overflow_add-b : goal.list_places-overflow_add-b
list_places-overflow_add-b t c = let low = (c.loop-bits.invariant c.requires).low in omega arith

pub list_places-kept-requires : goal.list_places-kept-requires
list_places-kept-requires t c = is_bit _ _ (c.loop-bits.invariant c.requires) (omega arith) c.loop-bits-test.true

-- ---- list_places, at a bit that stands

pub list_places-slice_bounds-list_term-count : goal.list_places-slice_bounds-list_term-count
list_places-slice_bounds-list_term-count t c = done-inside _ _ (c.loop-bits.invariant c.requires)

pub list_places-slice_bounds-list_term-start : goal.list_places-slice_bounds-list_term-start
list_places-slice_bounds-list_term-start t c = done-inside _ _ (c.loop-bits.invariant c.requires)

-- The bit's term stands in the copy.
pub list_places-list_term-here-requires : goal.list_places-list_term-here-requires
list_places-list_term-here-requires t c =
    let h = c.requires in (
      omega (arith, c.decreases, h.deep),
      place-term c.args.out.now h (c.loop-bits.invariant h) (omega arith) c.loop-bits-test.true c.if-bit-eq1.true c.kept.ensures c.write.ensures,
    )

pub list_places-overflow_add-n : goal.list_places-overflow_add-n
list_places-overflow_add-n t c =
    let h = c.requires in
    let r = c.loop-bits.invariant h in
    let b = place-term c.args.out.now h r (omega arith) c.loop-bits-test.true c.if-bit-eq1.true c.kept.ensures c.write.ensures in
    let z = both-inside _ h r (omega arith) c.loop-bits-test.true c.if-bit-eq1.true c.kept.ensures c.write.ensures (c.list_term-here.ensures b) in
    record { fits = omega (arith, z) }

pub list_places-loop-bits-preserved-then-bit-eq1 : goal.list_places-loop-bits-preserved-then-bit-eq1
list_places-loop-bits-preserved-then-bit-eq1 t c =
    λ h.
    let r = c.loop-bits.invariant h in
    let b = place-term c.args.out.now h r (omega arith) c.loop-bits-test.true c.if-bit-eq1.true c.kept.ensures c.write.ensures in
    reached-term _ h r (omega arith) c.loop-bits-test.true c.if-bit-eq1.true c.kept.ensures c.write.ensures (c.list_term-here.ensures b)

-- ---- list_places, at a bit that is clear, and at the end

pub list_places-loop-bits-preserved : goal.list_places-loop-bits-preserved
list_places-loop-bits-preserved t c =
    λ h. reached-clear _ h (c.loop-bits.invariant h) (omega arith) c.loop-bits-test.true c.if-bit-eq1.false

-- No bit is left: the map is the pattern's again.
pub list_places-returns : goal.list_places-returns
list_places-returns t c = λ h. reached-all _ h (c.loop-bits.invariant h) c.loop-bits-test.false

-- ---- list_term, at a name

pub list_term-returns-then-first-gt127 : goal.list_term-returns-then-first-gt127
list_term-returns-then-first-gt127 t c = λ h. name-listed h c.if-first-gt127.true _

-- ---- list_term, at a word

pub list_term-write_others-n-requires : goal.list_term-write_others-n-requires
list_term-write_others-n-requires t c =
    let h = c.requires in
    own-others_at c.args.out.now h (term-word h c.if-first-gt127.false) refl
    (c.read-map.ensures ∙ sym (map_at_lem c.args.copy.now (c.args.at + 1))) c.lowest.ensures.same

-- Its own entries are written.
pub list_term-slice_bounds-list_places-count : goal.list_term-slice_bounds-list_places-count
list_term-slice_bounds-list_places-count t c =
    let h = c.requires in
    let w = term-word h c.if-first-gt127.false in
    let mapped = c.read-map.ensures ∙ sym (map_at_lem c.args.copy.now (c.args.at + 1)) in
    own-inside c.args.out.now h w refl mapped
    (c.write_others-n.ensures (own-others_at c.args.out.now h w refl mapped c.lowest.ensures.same))

pub list_term-slice_bounds-list_places-start : goal.list_term-slice_bounds-list_places-start
list_term-slice_bounds-list_places-start t c =
    let h = c.requires in
    let w = term-word h c.if-first-gt127.false in
    let mapped = c.read-map.ensures ∙ sym (map_at_lem c.args.copy.now (c.args.at + 1)) in
    own-inside c.args.out.now h w refl mapped
    (c.write_others-n.ensures (own-others_at c.args.out.now h w refl mapped c.lowest.ensures.same))

-- The terms of its bits stand in the copy, and have room in the part that is left.
pub list_term-list_places-below-requires : goal.list_term-list_places-below-requires
list_term-list_places-below-requires t c =
    let h = c.requires in
    let w = term-word h c.if-first-gt127.false in
    let mapped = c.read-map.ensures ∙ sym (map_at_lem c.args.copy.now (c.args.at + 1)) in
    let own = c.write_others-n.ensures (own-others_at c.args.out.now h w refl mapped c.lowest.ensures.same) in
    let p = word-places c.args.out.now h w refl mapped own in
    (omega (arith, c.decreases, p.deep), p)

-- ---- list_term, at a word whose terms are listed

pub list_term-overflow_add-written : goal.list_term-overflow_add-written
list_term-overflow_add-written t c =
    let h = c.requires in
    let w = term-word h c.if-first-gt127.false in
    let mapped = c.read-map.ensures ∙ sym (map_at_lem c.args.copy.now (c.args.at + 1)) in
    let own = c.write_others-n.ensures (own-others_at c.args.out.now h w refl mapped c.lowest.ensures.same) in
    let p = word-places c.args.out.now h w refl mapped own in
    let l = word-listed c.args.out.now h w refl mapped own (c.list_places-below.ensures p) in
    record { fits = omega (arith, h.fits, l.written.count) }

pub list_term-returns : goal.list_term-returns
list_term-returns t c =
    λ h.
    let w = term-word h c.if-first-gt127.false in
    let mapped = c.read-map.ensures ∙ sym (map_at_lem c.args.copy.now (c.args.at + 1)) in
    let own = c.write_others-n.ensures (own-others_at c.args.out.now h w refl mapped c.lowest.ensures.same) in
    let p = word-places c.args.out.now h w refl mapped own in
    word-listed c.args.out.now h w refl mapped own (c.list_places-below.ensures p)
