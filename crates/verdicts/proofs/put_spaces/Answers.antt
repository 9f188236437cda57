-- `verdicts::put_spaces` meets its contract.
use Rattle.pages.proofs.Turns.{left_turn, left_end}
use Rattle.verdicts.proofs.Drawing.{spaces_turn, spaces_end}
use Rattle.verdicts.proofs.put_spaces.Goals as goal

pub loop-i-preserved : goal.loop-i-preserved
loop-i-preserved c = left_turn c.loop-i.invariant (spaces_turn c.args.n c.loop-i._i c.loop-i-test.true) c.put.ensures

pub returns : goal.returns
returns c = left_end c.loop-i.invariant (spaces_end c.args.n c.loop-i._i c.loop-i-test.false)
