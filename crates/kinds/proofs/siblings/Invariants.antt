-- `kinds::siblings` meets its contract. The loop's invariant: the words below f have their siblings.
use Prim.Native.Nat.{min}
use Rattle.wire.specs.Vocabulary.{most_words}
use Rattle.kinds.proofs.Tabling.{SiblingsTo}
use Rattle.kinds.proofs.siblings.Given as goal

abbrev pub invariant-loop-f : goal.invariant-loop-f
invariant-loop-f l = SiblingsTo (min l.words most_words) l.results l.table l.f
