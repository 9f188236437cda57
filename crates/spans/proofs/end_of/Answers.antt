-- `spans::end_of` meets its contract. The loop's invariant: so many terms are due at the end reached. The measure is
-- more than the number of nodes that are left to pass.
--   Inv-loop, μ-loop    the invariant and the measure
--   one, four           a turn that passes one word, and one that passes four
use mathlib.Core.Path.{sym, ◌∙◌}
use native.Mathlib.Omega.{arith}
use Rattle.wire.proofs.Map.{ones-few, ones-count}
use Rattle.spans.proofs.Ending.{ending_ends, seeking_begins, seeking_one, seeking_four}
use Rattle.spans.proofs.end_of.Goals as goal

pub loop-due-init : goal.loop-due-init
loop-due-init c =
    seeking_begins _ _ c.requires.0 c.requires.1 c.map_at.ensures (c.count-due.ensures ∙ sym (ones-count c.map_at.result (omega arith))) (omega (arith, c.count-due.ensures, ones-few c.map_at.result))

pub loop-due-smaller-then-due-lt4 : goal.loop-due-smaller-then-due-lt4
loop-due-smaller-then-due-lt4 c =
    (seeking_one c.loop-due.invariant c.loop-due-test.true c.map_at-then-due-lt4.ensures (c.count.ensures ∙ sym (ones-count c.map_at-then-due-lt4.result (omega arith))) (omega (arith, c.count.ensures, ones-few c.map_at-then-due-lt4.result))).fewer

pub loop-due-preserved-then-due-lt4 : goal.loop-due-preserved-then-due-lt4
loop-due-preserved-then-due-lt4 c =
    (seeking_one c.loop-due.invariant c.loop-due-test.true c.map_at-then-due-lt4.ensures (c.count.ensures ∙ sym (ones-count c.map_at-then-due-lt4.result (omega arith))) (omega (arith, c.count.ensures, ones-few c.map_at-then-due-lt4.result))).seeking

pub loop-due-preserved : goal.loop-due-preserved
loop-due-preserved c =
    (seeking_four c.loop-due.invariant c.if-due-lt4.false c.map_at-else-due-lt4.ensures c.map_at-else-due-lt4-2.ensures c.map_at-else-due-lt4-3.ensures c.map_at-else-due-lt4-4.ensures c.count_four.ensures.0 c.count_four.ensures.1).seeking

pub returns : goal.returns
returns c =
    (c.loop-due.invariant.later, λ a. ending_ends c.loop-due.invariant.ending c.loop-due-test.false a)
