-- `nodes::same_front` meets its contract.
use mathlib.Core.Path.{◌≡◌}
use Prim.Native.Nat.{◌-◌, ◌≤◌, min}
use lib.ListN.{length}
use Rattle.nodes.specs.Same.{SameNodes}
use Rattle.nodes.proofs.same_front.Given as goal

abbrev pub invariant-loop-n : goal.invariant-loop-n
invariant-loop-n l = SameNodes l.a l.b l.n × (l.n ≤ l.most) × (l.most ≤ length l.a) × (l.most ≤ length l.b) × (l.most ≡ min (length l.a) (length l.b))

abbrev pub decreases-loop-n : goal.decreases-loop-n
decreases-loop-n l = l.most - l.n
