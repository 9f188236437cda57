-- `signature::move_words` meets its contract. The loop's invariant: the words passed had their turn.
use Rattle.signature.proofs.Moving.{Moved}
use Rattle.signature.proofs.move_words.Given as goal

abbrev pub invariant-loop-w : goal.invariant-loop-w
invariant-loop-w l = Moved l.v l.words l.w l.e l.marked l.initial.settled l.settled
