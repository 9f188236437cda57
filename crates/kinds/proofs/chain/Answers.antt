-- `kinds::chain` meets its contract. The loop's invariant: the words from h on are chained.
use native.Mathlib.Omega.{arith}
use Rattle.kinds.proofs.Chaining.{chained_none, chained_turn}
use Rattle.kinds.proofs.chain.Goals as goal

pub loop-h-init : goal.loop-h-init
loop-h-init c = chained_none c.min-n.ensures

pub loop-h-preserved : goal.loop-h-preserved
loop-h-preserved c =
    let some = c.loop-h-test.true in
    chained_turn c.loop-h.invariant (omega arith) (omega arith) _ c.kind-k.ensures (let e = c.kind-k.ensures in omega arith)
