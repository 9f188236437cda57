-- `filler::writing::write` meets its contract. The loop's invariant: the nodes before the offset are written. The measure is the number of bytes left.
use Prim.Native.Nat.{◌-◌}
use lib.ListN.{length}
use Rattle.filler.proofs.Begun.{Begun}
use Rattle.filler.proofs.writing.write.Given as goal

abbrev pub invariant-loop-i : goal.invariant-loop-i
invariant-loop-i l = Begun l.p l.b l.starts l.initial.out l.n l.i l.out

abbrev pub decreases-loop-i : goal.decreases-loop-i
decreases-loop-i l = length l.p - l.i
