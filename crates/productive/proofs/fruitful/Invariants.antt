-- `productive::fruitful` meets its contract. The loop's invariant: the bytes from the offset on decide. The measure is the number of bytes left.
use Prim.Native.Nat.{◌-◌}
use Rattle.productive.proofs.Passing.{Left}
use Rattle.productive.proofs.fruitful.Given as goal

abbrev pub invariant-loop-at : goal.invariant-loop-at
invariant-loop-at l = Left l.words l.settled l.empty l.pattern l.at

abbrev pub decreases-loop-at : goal.decreases-loop-at
decreases-loop-at l = l.end - l.at
