-- `signature::mark_round` meets its contract. The loop's invariant: the records passed had their turn.
use mathlib.Core.Path.{refl, sym, ◌∙◌}
use mathlib.Core.Bool.{true≢false}
use Rattle.signature.proofs.Rounds.{marked_all, marked_had, marked-joined, marked_stay, turn_inside}
use Rattle.signature.proofs.mark_round.Goals as goal
use Rattle.signature.proofs.mark_round.Goals.{then-not-marked-kind+then-places_covered, else-not-marked-kind, else-not-marked-kind-via-then-not-marked-kind+else-places_covered, else-not-marked-kind-via-else-not-marked-kind}

pub places_covered-requires-clause-places_inside : goal.places_covered-requires-clause-places_inside
places_covered-requires-clause-places_inside c = turn_inside _ _ _ _ _ c.requires.filled_counted _ c.loop-w-test.true c.requires.v_bound

pub loop-w-preserved : goal.loop-w-preserved
loop-w-preserved c =
    let taken = c.loop-w-test.true in
    let inv = c.loop-w.invariant.0 in
    let same = c.loop-w.invariant.1 in
    elim c.if-not-marked-kind.branch [
      | then-not-marked-kind+then-places_covered w ↦
          (marked-joined _ _ _ _ _ c.requires.filled_counted _ taken _ _ inv _ w.places_covered.ensures w.if-places_covered.true _ refl _ w.marked-is, λ e. absurd (true≢false (sym w.changed-is ∙ e)))
      | else-not-marked-kind w ↦ elim w.else-not-marked-kind.branch [
        | else-not-marked-kind-via-then-not-marked-kind+else-places_covered u ↦
            (marked_stay _ _ _ _ _ c.requires.filled_counted _ taken _ _ inv _ u.places_covered.ensures u.if-places_covered.false _ w.marked-is, λ e. w.marked-is ∙ same (sym w.changed-is ∙ e))
        | else-not-marked-kind-via-else-not-marked-kind u ↦
            (marked_had _ _ _ _ _ c.requires.filled_counted _ taken _ _ inv c.requires.v_bound _ refl u.if-not-marked-kind.false _ w.marked-is, λ e. w.marked-is ∙ same (sym w.changed-is ∙ e))
      ]
    ]

pub returns : goal.returns
returns c = record {
  grows = marked_all _ _ _ _ _ c.requires.filled_counted _ _ _ c.loop-w.invariant.0 c.loop-w-test.false;
  unchanged = c.loop-w.invariant.1;
}
