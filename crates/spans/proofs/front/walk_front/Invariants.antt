-- `spans::front::walk_front` meets its contract: at each turn the state holds at i and j. The measure is the number of
-- the pattern's bytes that are left.
use Prim.Native.Nat.{◌-◌, ◌≤◌}
use lib.ListN.{length}
use Rattle.spans.specs.Front.{AtFront}
use Rattle.spans.proofs.front.walk_front.Given as goal

abbrev pub invariant-loop-i : goal.invariant-loop-i
invariant-loop-i l = (1 ≤ l.i) × AtFront l.p l.s l.spans l.i l.j

abbrev pub decreases-loop-i : goal.decreases-loop-i
decreases-loop-i l = length l.p - l.i
