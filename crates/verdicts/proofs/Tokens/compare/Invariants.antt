-- `verdicts::Tokens::compare` meets its contract.
use Prim.Native.Nat.{◌-◌}
use lib.ListN.{length}
use Rattle.verdicts.proofs.Walking.{Walking}
use Rattle.verdicts.proofs.Tokens.compare.Given as goal

abbrev pub invariant-loop-from : goal.invariant-loop-from
invariant-loop-from l = Walking l.self.text.now l.from l.at l.self.end l.a l.s

abbrev pub decreases-loop-from : goal.decreases-loop-from
decreases-loop-from l = length l.self.text.now - l.s
