-- `sizes::measure_front` meets its contract. The loop's invariant: what is summed, and what is left to sum. The measure is the number of bytes left.
use Prim.Native.Nat.{◌-◌}
use lib.ListN.{length}
use Rattle.sizes.proofs.Measuring.{SummedTo}
use Rattle.sizes.proofs.measure_front.Given as goal

abbrev pub invariant-loop-at : goal.invariant-loop-at
invariant-loop-at l = SummedTo l.words l.results l.p l.entries l.bytes l.at

abbrev pub decreases-loop-at : goal.decreases-loop-at
decreases-loop-at l = length l.p - l.at
