-- `nodes::same_front` meets its contract.
use native.Mathlib.Omega.{arith}
use Rattle.nodes.proofs.Same.{same-node}
use Rattle.nodes.proofs.same_front.Goals as goal

-- One more node is the same.
pub same_blocks-n-requires-clause-same_nodes : goal.same_blocks-n-requires-clause-same_nodes
same_blocks-n-requires-clause-same_nodes c =
    let room = c.loop-n-test.true in
    same-node c.loop-n.invariant.0 (omega arith) (omega arith) c.if-a-n.false c.if-a-n-2.false

pub loop-n-preserved : goal.loop-n-preserved
loop-n-preserved c =
    let room = c.loop-n-test.true in
    (same-node c.loop-n.invariant.0 (omega arith) (omega arith) c.if-a-n.false c.if-a-n-2.false, omega arith, c.loop-n.invariant.2, c.loop-n.invariant.3, c.loop-n.invariant.4)
