-- `signature::mark_round` meets its contract. The loop's invariant: the records passed had their turn.
use mathlib.Core.Path.{◌≡◌}
use mathlib.Core.Bool.{false}
use Rattle.signature.proofs.Rounds.{Marked}
use Rattle.signature.proofs.mark_round.Given as goal

abbrev pub invariant-loop-w : goal.invariant-loop-w
invariant-loop-w l = Marked l.v l.words l.w l.initial.marked l.marked × (l.changed ≡ false → l.marked ≡ l.initial.marked)
