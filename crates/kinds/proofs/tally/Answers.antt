-- `kinds::tally` meets its contract. The loop's invariant: the words that are passed are counted.
use native.Mathlib.Omega.{arith}
use Rattle.kinds.proofs.Tallying.{kind_front, tallied-few, tallied_turn}
use Rattle.kinds.proofs.tally.Goals as goal

pub overflow_add-counts : goal.overflow_add-counts
overflow_add-counts c =
    let few = tallied-few c.loop-result.invariant.0 c.kind.result (let e = c.kind.ensures in omega arith) in
    record { fits = omega (arith, few, c.loop-result.invariant.1, c.min-n.ensures) }

pub loop-result-preserved : goal.loop-result-preserved
loop-result-preserved c =
    (tallied_turn c.loop-result.invariant.0 _ (kind_front c.min-n.result c.args.results.now c.loop-result.result-index (omega arith) c.kind.ensures) (let e = c.kind.ensures in omega arith), omega arith)
