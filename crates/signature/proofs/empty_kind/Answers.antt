-- `signature::empty_kind` meets its contract. The loop's invariant: what the rounds so far reach is marked. The measure is the number of rounds left.
use mathlib.Core.Path.{ap, ◌∙◌}
use mathlib.Core.Bool.{not}
use Rattle.signature.proofs.Rounds.{reached-more, reached-all, reached_early, reached_still}
use Rattle.signature.proofs.empty_kind.Goals as goal
use Rattle.signature.proofs.empty_kind.Goals.{then-is_none-via-then-is_none, then-is_none-via-else-is_none+then-not-changed}

pub returns-then-is_none : goal.returns-then-is_none
returns-then-is_none c =
    let round = c.mark_round-changed.ensures in
    let found = c.first_missing-missing in
    elim c.then-is_none.branch [
      | then-is_none-via-then-is_none w ↦
          reached_early _ _ _ _ _ _ (reached-more _ _ _ _ _ _ c.loop-round.invariant c.loop-round-test.true round.grows) c.requires.kinds_value
          found.ensures (c.is_none.ensures ∙ ap not w.if-is_none.true)
      | then-is_none-via-else-is_none+then-not-changed w ↦
          reached_still _ _ _ _ _ _ _ c.loop-round.invariant round.grows (round.unchanged w.if-not-changed.true) c.requires.kinds_value found.ensures
    ]

pub loop-round-preserved : goal.loop-round-preserved
loop-round-preserved c =
    reached-more _ _ _ _ _ _ c.loop-round.invariant c.loop-round-test.true c.mark_round-changed.ensures.grows

pub returns : goal.returns
returns c =
    reached-all _ _ _ _ _ c.first_missing.result c.loop-round.invariant c.loop-round-test.false c.requires.kinds_value
    c.first_missing.ensures
