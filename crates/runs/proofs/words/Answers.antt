-- `runs::words` meets its contract: at each turn the words passed are shared.
use mathlib.Core.Path.{◌≡◌, subst}
use Prim.Native.Nat.{◌+◌, ◌*◌}
use native.Mathlib.Omega.{arith}
use Rattle.runs.specs.Shared.{SharedWords}
use Rattle.runs.proofs.Shared.{words-node}
use Rattle.runs.proofs.words.Goals as goal

pub loop-node-preserved : goal.loop-node-preserved
loop-node-preserved c =
    let next : c.loop-node.node * 2 + 2 ≡ (c.loop-node.node + 1) * 2 = omega arith in
    subst (SharedWords _ _ _ _) next (words-node _ _ _ _ _ c.loop-node.invariant (omega arith) (omega arith) (c.same_node.ensures c.if-not-same_node.false))
