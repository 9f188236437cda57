-- `verdicts::Tokens::close` meets its contract.
use mathlib.Core.Path.{◌≡◌}
use Prim.Native.Nat.{suc, ◌-◌, ◌≤◌}
use lib.ListN.{length}
use Rattle.texts.specs.Comparing.{closing_size}
use Rattle.verdicts.specs.Steps.{passed, tokens_in}
use Rattle.verdicts.proofs.Tokens.close.Given as goal

abbrev pub invariant-loop-depth : goal.invariant-loop-depth
invariant-loop-depth l = (l.depth ≤ suc l.i) × (passed l.self.text.now l.i (closing_size l.depth (tokens_in l.self.text.now l.i l.self.end)) ≡ passed l.self.text.now l.at (closing_size 1 (tokens_in l.self.text.now l.at l.self.end)))

abbrev pub decreases-loop-depth : goal.decreases-loop-depth
decreases-loop-depth l = length l.self.text.now - l.i
