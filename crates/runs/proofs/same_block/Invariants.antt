-- `runs::same_block` meets its contract: at each turn the differences of the bytes passed are gathered.
use mathlib.Core.Path.{◌≡◌}
use Rattle.runs.specs.Shared.{SharedBlock}
use Rattle.runs.proofs.same_block.Given as goal

abbrev pub invariant-loop-k : goal.invariant-loop-k
invariant-loop-k l = l.gathered ≡ 0 → SharedBlock l.a l.b l.i l.j l.k
