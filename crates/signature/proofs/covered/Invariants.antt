-- `signature::covered` meets its contract. The loop's invariant: the kinds passed are marked.
use mathlib.Core.Path.{◌≡◌}
use mathlib.Core.Bool.{true, false}
use Prim.Native.Nat.{ℕ, ◌+◌, ◌<◌}
use lib.ListN.{get_or}
use Rattle.wire.specs.VocabularyLines.{byte_at}
use Rattle.signature.proofs.covered.Given as goal

abbrev pub invariant-loop-i : goal.invariant-loop-i
invariant-loop-i l = (j : ℕ) → j < l.i → get_or l.marked (byte_at l.v (l.at + j)) false ≡ true
