-- `filler::measure::measure_levels` meets its contract. The loop's invariant: what the nodes from the offset on give is still to be measured. The measure is twice the number of bytes left, and the words above.
use Prim.Native.Nat.{ℕ, ◌+◌, ◌-◌, ◌*◌}
use lib.ListN.{length}
use Rattle.filler.specs.Ready.{Measurable}
use Rattle.filler.proofs.Measuring.{Measuring}
use Rattle.filler.proofs.measure.measure_levels.Given as goal

abbrev pub invariant-loop-i : goal.invariant-loop-i
invariant-loop-i l = (reach : ℕ) (a : Measurable l.p l.starts l.depths reach) → Measuring a l.due l.depth l.left l.n l.i

abbrev pub decreases-loop-i : goal.decreases-loop-i
decreases-loop-i l = 2 * (length l.p - l.i) + l.depth
