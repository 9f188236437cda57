-- `spans::front::pass_known` meets its contract: at each turn the state holds at i and j. The measure is the number of
-- the pattern's bytes that are left.
use native.Mathlib.Omega.{arith}
use Rattle.spans.proofs.Turns.{front-words, words-pattern, front-covered}
use Rattle.spans.proofs.front.pass_known.Goals as goal

pub returns-then-i-p-clause-at_front : goal.returns-then-i-p-clause-at_front
returns-then-i-p-clause-at_front c = front-words c.loop-i.invariant.1 c.words-n.ensures

pub returns-then-b-ne2-clause-at_front : goal.returns-then-b-ne2-clause-at_front
returns-then-b-ne2-clause-at_front c = front-words c.loop-i.invariant.1 c.words-n.ensures

pub returns-in_default-clause-at_front : goal.returns-in_default-clause-at_front
returns-in_default-clause-at_front c = front-words c.loop-i.invariant.1 c.words-n.ensures

pub loop-i-preserved : goal.loop-i-preserved
loop-i-preserved c =
    let over = c.if-i-p.false in
    (omega arith, front-covered (front-words c.loop-i.invariant.1 c.words-n.ensures) (omega (arith, words-pattern c.loop-i.invariant.1 c.words-n.ensures)) c.if-b-ne2.false c.from.ensures c.in-Some.ensures)
