-- `complement::write_others` meets its contract. The loop's invariant: h is the next word of the kind, and the others before it have their entries. The measure is the number of words from h on.
use mathlib.Core.Path.{refl}
use native.Mathlib.Omega.{arith}
use lib.Seq.{length-take-le}
use Rattle.complement.proofs.Following.{followed_none, followed_inside, followed_less, followed_room, followed_taken, followed_left, followed_all}
use Rattle.complement.proofs.write_others.Goals as goal

pub loop-h-init : goal.loop-h-init
loop-h-init c = λ o. followed_none o.few o.chained o.fits o.starts

pub slice_bounds-write_entry-count : goal.slice_bounds-write_entry-count
slice_bounds-write_entry-count c =
    let followed = c.loop-h.invariant c.requires in
    omega (arith, followed.inside, followed.size)

pub slice_bounds-write_entry-start : goal.slice_bounds-write_entry-start
slice_bounds-write_entry-start c =
    let followed = c.loop-h.invariant c.requires in
    omega (arith, followed.inside, followed.size)

pub write_entry-requires-clause-map_bytes_in_bounds : goal.write_entry-requires-clause-map_bytes_in_bounds
write_entry-requires-clause-map_bytes_in_bounds c =
    let o = c.requires in
    let followed = c.loop-h.invariant o in followed_room followed (followed_inside followed c.loop-h-test.true) _ refl c.if-g-f.true (length-take-le c.args.at c.args.copy.now o.inside)

pub loop-h-smaller-then-g-f : goal.loop-h-smaller-then-g-f
loop-h-smaller-then-g-f c =
    let followed = c.loop-h.invariant c.requires in
    let z = followed_less followed (followed_inside followed c.loop-h-test.true) _ refl in omega arith

pub loop-h-preserved-then-g-f : goal.loop-h-preserved-then-g-f
loop-h-preserved-then-g-f c =
    λ o.
    let followed = c.loop-h.invariant o in
    followed_taken followed (followed_inside followed c.loop-h-test.true) _ refl c.if-g-f.true (length-take-le c.args.at c.args.copy.now o.inside) c.write_entry.ensures

pub loop-h-smaller : goal.loop-h-smaller
loop-h-smaller c =
    let followed = c.loop-h.invariant c.requires in
    let z = followed_less followed (followed_inside followed c.loop-h-test.true) _ refl in omega arith

pub loop-h-preserved : goal.loop-h-preserved
loop-h-preserved c =
    λ o.
    let followed = c.loop-h.invariant o in
    followed_left followed (followed_inside followed c.loop-h-test.true) _ refl c.if-g-f.false

pub returns : goal.returns
returns c = λ o. followed_all (c.loop-h.invariant o) c.loop-h-test.false
