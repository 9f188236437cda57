-- `nodes::same_blocks` meets its contract.
use mathlib.Core.Path.{◌≡◌, subst}
use Prim.Native.Nat.{◌+◌, ◌*◌}
use native.Mathlib.Omega.{arith}
use Rattle.std.proofs.Common.{rules}
use Rattle.nodes.specs.Same.{SameNodes}
use Rattle.nodes.proofs.Same.{same_block}
use Rattle.nodes.proofs.same_blocks.Goals as goal

pub loop-block-preserved : goal.loop-block-preserved
loop-block-preserved c =
    let next : c.args.known + c.loop-block.block * 64 + 64 ≡ c.args.known + (c.loop-block.block + 1) * 64 = omega arith in
    subst (SameNodes _ _) next (same_block c.loop-block.invariant 32 (omega arith) (omega arith) (search rules))
