-- `reader::filling::read_values` meets its contract.
use Prim.Native.Nat.{◌-◌}
use Rattle.reader.proofs.Tabling.{ValuesTo}
use Rattle.reader.proofs.filling.read_values.Given as goal

abbrev pub invariant-loop-n : goal.invariant-loop-n
invariant-loop-n l = ValuesTo l.w.v.now l.b l.names l.n l.at l.starts l.depths

abbrev pub decreases-loop-n : goal.decreases-loop-n
decreases-loop-n l = 64 - l.n
