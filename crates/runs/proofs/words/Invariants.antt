-- `runs::words` meets its contract: at each turn the words passed are shared.
use Prim.Native.Nat.{◌*◌}
use Rattle.runs.specs.Shared.{SharedWords}
use Rattle.runs.proofs.words.Given as goal

abbrev pub invariant-loop-node : goal.invariant-loop-node
invariant-loop-node l = SharedWords l.a l.b l.i l.j (l.node * 2)
