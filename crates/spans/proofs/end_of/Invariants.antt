-- `spans::end_of` meets its contract. The loop's invariant: so many terms are due at the end reached. The measure is
-- more than the number of nodes that are left to pass.
--   Inv-loop, μ-loop    the invariant and the measure
--   one, four           a turn that passes one word, and one that passes four
use Rattle.spans.proofs.Ending.{nodes_left, Seeking}
use Rattle.spans.proofs.end_of.Given as goal

abbrev pub invariant-loop-due : goal.invariant-loop-due
invariant-loop-due l = Seeking l.s l.at l.end l.due

abbrev pub decreases-loop-due : goal.decreases-loop-due
decreases-loop-due l = nodes_left l.s l.end l.due
