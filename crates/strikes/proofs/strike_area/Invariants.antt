-- `strikes::strike_area` meets its contract. The loop's invariant: the entries before the offset are taken, and what remains of them
-- is put. The measure is what is left of the area.
use Prim.Native.Nat.{◌-◌}
use lib.ListN.{length}
use Rattle.strikes.proofs.Area.{Taken}
use Rattle.strikes.proofs.strike_area.Given as goal

abbrev pub invariant-loop-at : goal.invariant-loop-at
invariant-loop-at l = Taken l.area l.pattern l.marks l.siblings l.initial.copy l.initial.out l.at l.n l.entries l.copy l.out

abbrev pub decreases-loop-at : goal.decreases-loop-at
decreases-loop-at l = length l.area - l.at
