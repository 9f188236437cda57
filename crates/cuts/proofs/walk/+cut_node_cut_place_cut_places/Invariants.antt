-- `cuts::walk::cut_node`, `cuts::walk::cut_place` and `cuts::walk::cut_places` meet their contracts. The levels left bound all
-- three. The loop of cut_places has the bits that are left for its measure.
use Prim.Native.Nat.{◌+◌, ◌*◌}
use Rattle.cuts.proofs.Turns.{Reached}
use Rattle.cuts.proofs.walk.+cut_node_cut_place_cut_places.Given as goal

abbrev pub decreases-cut_node : goal.decreases-cut_node
decreases-cut_node l = 3 * l.left

abbrev pub decreases-cut_place : goal.decreases-cut_place
decreases-cut_place l = 3 * l.left + 1

abbrev pub decreases-cut_places : goal.decreases-cut_places
decreases-cut_places l = 3 * l.left + 2

abbrev pub invariant-cut_places-loop-bits : goal.invariant-cut_places-loop-bits
invariant-cut_places-loop-bits l = Reached l.entry l.pattern l.siblings l.left l.initial.copy l.initial.w l.initial.bits l.initial.out l.copy l.w l.bits l.out

abbrev pub decreases-cut_places-loop-bits : goal.decreases-cut_places-loop-bits
decreases-cut_places-loop-bits l = l.bits.entry + l.bits.pattern
