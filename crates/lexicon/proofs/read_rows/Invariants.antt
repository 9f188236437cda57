-- `lexicon::read_rows` meets its contract. The loop's invariant: what is read and what is left make up the vocabulary. The measure is what is left of the text.
use Prim.Native.Nat.{◌-◌}
use lib.ListN.{length}
use Rattle.lexicon.proofs.Reading.{Reading}
use Rattle.lexicon.proofs.read_rows.Given as goal

abbrev pub invariant-loop-next : goal.invariant-loop-next
invariant-loop-next l = Reading l.text l.kinds l.k l.at l.stage l.c l.n l.words l.records

abbrev pub decreases-loop-next : goal.decreases-loop-next
decreases-loop-next l = length l.text - l.at
