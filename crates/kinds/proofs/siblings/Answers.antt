-- `kinds::siblings` meets its contract. The loop's invariant: the words below f have their siblings.
use native.Mathlib.Omega.{arith}
use Rattle.kinds.proofs.Tallying.{kind_front}
use Rattle.kinds.proofs.Tabling.{siblings_turn, some_sibling}
use Rattle.kinds.proofs.siblings.Goals as goal

pub overflow_sub-table : goal.overflow_sub-table
overflow_sub-table c =
    let inside = c.loop-f-test.true in
    let few = c.min-n.ensures in
    omega (arith, some_sibling c.loop-f.invariant (omega arith) (omega arith) c.chain-chains.ensures c.tally-counts.ensures (kind_front c.min-n.result c.args.results.now c.loop-f.f (omega arith) c.kind-k.ensures))

pub loop-f-preserved : goal.loop-f-preserved
loop-f-preserved c =
    let inside = c.loop-f-test.true in
    let few = c.min-n.ensures in
    siblings_turn c.loop-f.invariant (omega arith) (omega arith) c.chain-chains.ensures c.tally-counts.ensures (kind_front c.min-n.result c.args.results.now c.loop-f.f (omega arith) c.kind-k.ensures)
