-- `kinds::chain` meets its contract. The loop's invariant: the words from h on are chained.
use Prim.Native.Nat.{min}
use Rattle.wire.specs.Vocabulary.{most_words}
use Rattle.kinds.proofs.Chaining.{ChainedFrom}
use Rattle.kinds.proofs.chain.Given as goal

abbrev pub invariant-loop-h : goal.invariant-loop-h
invariant-loop-h l = ChainedFrom (min l.words most_words) l.results l.chains l.h
