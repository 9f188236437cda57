-- `others::write_others` meets its contract. The loop's invariant: h is the next word of the kind, and the others before it have
-- their entries. The measure is the number of words from h on.
use mathlib.Core.Path.{refl}
use Rattle.kinds.proofs.Following.{following_sibling}
use Rattle.others.proofs.Siblings.{kept-room, entry-size, first_of, followed_none, followed_all, followed_inside, followed_left, followed_full, followed_taken}
use Rattle.others.proofs.write_others.Goals as goal

pub loop-h-init : goal.loop-h-init
loop-h-init c = let reach = c.out_of_reach.ensures.no c.if-out_of_reach.false in (record { inside = reach.written; length = refl }, λ o. followed_none (following_sibling o.few o.table o.known (first_of c.args.siblings.now o.known o.few c.first_word-h.ensures)) o.due reach.written)

pub returns-then-exceeds-clause-writes_siblings : goal.returns-then-exceeds-clause-writes_siblings
returns-then-exceeds-clause-writes_siblings c =
    let a = c.args in λ reach o.
    let w = c.loop-h.invariant.1 o in
    followed_full w (followed_inside w c.loop-h-test.true) c.next_word-h.ensures c.if-g-f.true
    (entry-size a.copy.now a.tail.now a.at c.loop-h.h reach.inside) c.exceeds.ensures c.if-exceeds.true

pub loop-h-preserved-then-g-f : goal.loop-h-preserved-then-g-f
loop-h-preserved-then-g-f c =
    let a = c.args in
    let due = c.exceeds.ensures.no c.if-exceeds.false in (
      kept-room c.write_entry.new.out c.loop-h.invariant.0 due.fits c.write_entry.auto.out,
      λ o.
          let w = c.loop-h.invariant.1 o in
          followed_taken w (followed_inside w c.loop-h-test.true) c.next_word-h.ensures c.if-g-f.true
          (entry-size a.copy.now a.tail.now a.at c.loop-h.h (c.out_of_reach.ensures.no c.if-out_of_reach.false).inside) due c.write_entry.ensures,
    )

pub loop-h-preserved : goal.loop-h-preserved
loop-h-preserved c =
    (c.loop-h.invariant.0, λ o. let w = c.loop-h.invariant.1 o in followed_left w (followed_inside w c.loop-h-test.true) c.next_word-h.ensures c.if-g-f.false)

pub returns-clause-writes_siblings : goal.returns-clause-writes_siblings
returns-clause-writes_siblings c =
    let k = c.loop-h.invariant.0 in λ reach o. let all = followed_all (c.loop-h.invariant.1 o) c.loop-h-test.false in record { listed = all.0; due = all.1 }
