-- `spans::front::walk_front` meets its contract: at each turn the state holds at i and j. The measure is the number of
-- the pattern's bytes that are left.
use native.Mathlib.Omega.{arith}
use Rattle.spans.proofs.Going.{going_unnamed}
use Rattle.spans.proofs.Turns.{front-begins, front-words, front-covered, front-blank}
use Rattle.spans.proofs.front.walk_front.Goals as goal

pub returns-then-not-alike-clause-paused : goal.returns-then-not-alike-clause-paused
returns-then-not-alike-clause-paused c = front-blank c.requires

pub loop-i-init : goal.loop-i-init
loop-i-init c =
    (omega arith, front-begins _ _ _ (c.alike.ensures c.if-not-alike.false) c.requires)

pub returns-in_default-clause-paused : goal.returns-in_default-clause-paused
returns-in_default-clause-paused c =
    let group = c.if-b-eq2.true in going_unnamed c.pass_known-reached.ensures.at_front.going c.if-i-p.true (omega arith) c.from.ensures c.in_default.ensures

pub loop-i-preserved-then-b-eq2 : goal.loop-i-preserved-then-b-eq2
loop-i-preserved-then-b-eq2 c =
    let first = c.loop-i.invariant.0 in
    let before = c.pass_known-reached.ensures.from_le_pattern in
    (omega arith, front-covered c.pass_known-reached.ensures.at_front c.if-i-p.true c.if-b-eq2.true c.from.ensures c.in-Some.ensures)

pub loop-i-preserved-else-b-eq2 : goal.loop-i-preserved-else-b-eq2
loop-i-preserved-else-b-eq2 c =
    let first = c.loop-i.invariant.0 in
    let before = c.pass_known-reached.ensures.from_le_pattern in
    (omega arith, front-words c.pass_known-reached.ensures.at_front c.run-n.ensures)
