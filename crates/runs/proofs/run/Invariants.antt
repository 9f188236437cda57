-- `runs::run` meets its contract: at each turn the blocks passed are shared.
use Prim.Native.Nat.{◌+◌, ◌*◌}
use Rattle.runs.specs.Shared.{SharedWords}
use Rattle.runs.proofs.run.Given as goal

abbrev pub invariant-loop-block : goal.invariant-loop-block
invariant-loop-block l = SharedWords l.a l.b l.i l.j (2 + l.block * 64)
