-- `signature::read_kinds` meets its contract. The loop's invariant: the bytes passed are kinds. The measure is the number of kinds left.
use Prim.Native.Nat.{◌+◌, ◌≤◌}
use lib.ListN.{length}
use Rattle.signature.proofs.KindBytes.{KindsAt}
use Rattle.signature.proofs.read_kinds.Given as goal

abbrev pub invariant-loop-i : goal.invariant-loop-i
invariant-loop-i l = (l.at + l.i ≤ length l.v) × KindsAt l.v l.at l.kinds l.i
