-- `meetings::meet_places` and `meetings::meet_term` meet their contracts. Twice the levels left bounds both. The loop's
-- invariant: the terms below a bit are met. Its measure is what is left of the two maps.
use Prim.Native.Nat.{◌+◌, ◌*◌}
use Rattle.meetings.specs.Walking.{meet_term, meet_word}
use Rattle.meetings.proofs.Coming.{Coming}
use Rattle.meetings.proofs.+meet_places_meet_term.Given as goal

abbrev pub decreases-meet_places : goal.decreases-meet_places
decreases-meet_places l = 2 * l.left + 1

abbrev pub decreases-meet_term : goal.decreases-meet_term
decreases-meet_term l = 2 * l.left

abbrev pub invariant-meet_places-loop-ours : goal.invariant-meet_places-loop-ours
invariant-meet_places-loop-ours l =
    Coming (meet_word (meet_term l.left l.entry l.pattern l.marks) l.entry l.pattern l.marks l.i l.j) (meet_term l.left l.entry l.pattern l.marks) l.entry l.marks l.left l.i l.at l.from l.entries l.ours l.theirs

abbrev pub decreases-meet_places-loop-ours : goal.decreases-meet_places-loop-ours
decreases-meet_places-loop-ours l = l.ours + l.theirs
