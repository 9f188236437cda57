-- `nodes::same_blocks` meets its contract.
use Prim.Native.Nat.{◌+◌, ◌*◌}
use Rattle.nodes.specs.Same.{SameNodes}
use Rattle.nodes.proofs.same_blocks.Given as goal

abbrev pub invariant-loop-block : goal.invariant-loop-block
invariant-loop-block l = SameNodes l.a l.b (l.known + l.block * 64)
