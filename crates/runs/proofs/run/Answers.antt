-- `runs::run` meets its contract: at each turn the blocks passed are shared.
use mathlib.Core.Path.{◌≡◌, subst}
use Prim.Native.Nat.{◌+◌, ◌*◌}
use native.Mathlib.Omega.{arith}
use Rattle.runs.specs.Shared.{SharedWords}
use Rattle.runs.proofs.Shared.{words_block}
use Rattle.runs.proofs.run.Goals as goal

pub loop-block-preserved : goal.loop-block-preserved
loop-block-preserved c =
    let next : 2 + c.loop-block.block * 64 + 64 ≡ 2 + (c.loop-block.block + 1) * 64 = omega arith in
    subst (SharedWords _ _ _ _) next (words_block _ _ _ _ _ c.loop-block.invariant (omega arith) (omega arith) (c.same_block.ensures c.if-not-same_block.false))
