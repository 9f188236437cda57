-- `extents::front_size` meets its contract. The loop's invariant: the terms that are due from `at` on end where the term does. The measure
-- is the number of bytes left.
use Prim.Native.Nat.{◌-◌}
use lib.Count
use lib.ListN.{length}
use Rattle.wire.specs.EntryCut.{due_size}
use Rattle.extents.proofs.Nodes.{DueFrom}
use Rattle.extents.proofs.front_size.Given as goal

abbrev pub invariant-loop-at : goal.invariant-loop-at
invariant-loop-at l = DueFrom l.bytes (due_size l.bytes 1) l.at (Count.ones l.due)

abbrev pub decreases-loop-at : goal.decreases-loop-at
decreases-loop-at l = length l.bytes - l.at
