-- `signature::empty_kind` meets its contract. The loop's invariant: what the rounds so far reach is marked.
use Rattle.signature.proofs.Rounds.{Reached}
use Rattle.signature.proofs.empty_kind.Given as goal

abbrev pub invariant-loop-round : goal.invariant-loop-round
invariant-loop-round l = Reached l.v l.words l.kinds l._round l.marked
