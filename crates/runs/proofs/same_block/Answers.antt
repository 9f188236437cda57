-- `runs::same_block` meets its contract: at each turn the differences of the bytes passed are gathered.
use mathlib.Core.Path.{◌≡◌}
use Prim.Native.Nat.{◌+◌, ◌%◌}
use native.Mathlib.Omega.{arith}
use Rattle.runs.proofs.Shared.{block_more}
use Rattle.runs.proofs.same_block.Goals as goal
use Rattle.runs.proofs.same_block.Goals.{then-k-eq0, else-k-eq0}

pub loop-k-preserved : goal.loop-k-preserved
loop-k-preserved c =
    let byte = c.type_inv.a (c.args.i + c.loop-k.k) in
    let marked : c.loop-k.k % 2 ≡ 0 → c.if-k-eq0.mark ≡ 128 =
    λ even. elim c.if-k-eq0.branch [ then-k-eq0 w ↦ w.mark-is | else-k-eq0 w ↦ absurd (omega arith) ] in
    block_more _ _ c.args.i c.args.j c.loop-k.k c.loop-k.invariant (omega arith) marked
