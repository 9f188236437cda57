-- `filler::measure::measure_bytes` meets its contract. The loop's invariant: the nodes before the offset are counted. The measure is the number of bytes left.
use mathlib.Core.List.{List}
use Prim.Native.Nat.{ℕ, ◌-◌}
use lib.ListN.{length}
use Rattle.wire.specs.TermBytes.{most_levels}
use Rattle.filler.specs.Ready.{Measurable}
use Rattle.filler.proofs.Counting.{Counted}
use Rattle.filler.proofs.measure.measure_bytes.Given as goal

abbrev pub invariant-loop-i : goal.invariant-loop-i
invariant-loop-i l = (depths : List ℕ) (a : Measurable l.p l.starts depths most_levels) → Counted a.ready l.n l.i

abbrev pub decreases-loop-i : goal.decreases-loop-i
decreases-loop-i l = length l.p - l.i
