-- `lexicon::read_names` meets its contract. The loop's invariant: the names before the offset are gathered. The measure is what is left of the text.
use Prim.Native.Nat.{◌-◌}
use lib.ListN.{length}
use Rattle.lexicon.proofs.Names.{NamesTo}
use Rattle.lexicon.proofs.read_names.Given as goal

abbrev pub invariant-loop-at : goal.invariant-loop-at
invariant-loop-at l = NamesTo l.text l.kinds l.k l.at

abbrev pub decreases-loop-at : goal.decreases-loop-at
decreases-loop-at l = length l.text - l.at
