-- `spans::walk_words` meets its contract. The loop's invariant: terms without open places are due at i and j. The measure
-- is the number of the pattern's bytes that are left.
--   read, on    the inputs, and what is due behind nodes that are the same
use Prim.Native.Nat.{◌-◌}
use lib.ListN.{length}
use Rattle.spans.specs.Walking.{Going}
use Rattle.spans.proofs.walk_words.Given as goal

abbrev pub invariant-loop-i : goal.invariant-loop-i
invariant-loop-i l = Going l.p l.s l.spans l.i l.j

abbrev pub decreases-loop-i : goal.decreases-loop-i
decreases-loop-i l = length l.p - l.i
