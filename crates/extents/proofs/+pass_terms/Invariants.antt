-- `extents::pass_terms` meets its contract. The number of bytes left bounds it. The loop's invariant: the terms that are due from `at`
-- on end where all do. Its measure is the number of bytes left.
use Prim.Native.Nat.{◌+◌, ◌-◌, ◌≤◌}
use lib.Count
use lib.ListN.{length, drop}
use Rattle.wire.specs.EntryCut.{due_size}
use Rattle.extents.proofs.Nodes.{DueFrom}
use Rattle.extents.proofs.+pass_terms.Given as goal

abbrev pub decreases-pass_terms : goal.decreases-pass_terms
decreases-pass_terms l = length l.bytes.now - l.from

abbrev pub invariant-loop-due : goal.invariant-loop-due
invariant-loop-due l = DueFrom l.bytes (l.from + due_size (drop l.from l.bytes) (Count.ones l.terms)) l.at (Count.ones l.due) × (l.from ≤ l.at)

abbrev pub decreases-loop-due : goal.decreases-loop-due
decreases-loop-due l = length l.bytes - l.at
