-- `complement::list_places` and `complement::list_term` meet their contracts. Twice the levels left bounds both. The loop's
-- invariant: the terms below bit b are listed. Its measure is what is left of the map.
use Prim.Native.Nat.{◌-◌, ◌*◌}
use lib.ListN.{length}
use Rattle.complement.specs.Entering.{PlacesAt}
use Rattle.complement.proofs.Places.{Reached}
use Rattle.complement.proofs.+list_places_list_term.Given as goal

abbrev pub decreases-list_places : goal.decreases-list_places
decreases-list_places l = 2 * l.left - 1

abbrev pub decreases-list_term : goal.decreases-list_term
decreases-list_term l = 2 * l.left

abbrev pub invariant-list_places-loop-bits : goal.invariant-list_places-loop-bits
invariant-list_places-loop-bits l =
    (h : PlacesAt l.fn.copy l.at l.map l.results l.chains l.left (length l.fn.out)) → Reached l.fn.out h l.b l.next l.n l.bits l.copy l.out

abbrev pub decreases-list_places-loop-bits : goal.decreases-list_places-loop-bits
decreases-list_places-loop-bits l = l.bits
