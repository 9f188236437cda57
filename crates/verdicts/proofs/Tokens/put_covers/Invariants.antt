-- `verdicts::Tokens::put_covers` meets its contract.
use Prim.Native.Nat.{◌-◌}
use lib.ListN.{length}
use Rattle.verdicts.proofs.Covering.{Covering}
use Rattle.verdicts.proofs.Tokens.put_covers.Given as goal

abbrev pub invariant-loop-from : goal.invariant-loop-from
invariant-loop-from l = Covering l.self.text.now l.from l.at l.self.end l.initial.page.bytes l.initial.page.end l.a l.s l.page.bytes l.page.end

abbrev pub decreases-loop-from : goal.decreases-loop-from
decreases-loop-from l = length l.self.text.now - l.s
