-- `kinds::tally` meets its contract. The loop's invariant: the words that are passed are counted.
use Prim.Native.Nat.{◌≤◌}
use Rattle.kinds.specs.Kinds.{Tallied}
use Rattle.kinds.proofs.tally.Given as goal

abbrev pub invariant-loop-result : goal.invariant-loop-result
invariant-loop-result l = Tallied l.result-index l.results l.counts × (l.result-index ≤ l.n)
