-- `marks::mark_term` meets its contract. The levels left bound it. The loop's invariant: the terms below a bit are noted. Its
-- measure is what is left of the map.
use Prim.Native.Nat.{◌-◌}
use lib.ListN.{length}
use Rattle.marks.specs.Marking.{mark_term}
use Rattle.marks.proofs.Noting.{Noting}
use Rattle.marks.proofs.+mark_term.Given as goal

abbrev pub decreases-mark_term : goal.decreases-mark_term
decreases-mark_term l = l.left

abbrev pub invariant-loop-bits : goal.invariant-loop-bits
invariant-loop-bits l =
    Noting (mark_term l.left l.siblings l.term l.word l.initial.marks) (mark_term (l.left - 1) l.siblings l.term) (length l.term) l.word l.initial.marks l.marks l.entries l.bits l.at

abbrev pub decreases-loop-bits : goal.decreases-loop-bits
decreases-loop-bits l = l.bits
