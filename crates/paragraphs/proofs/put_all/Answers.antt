-- `paragraphs::put_all` meets its contract.
use Rattle.paragraphs.proofs.Putting.{going_turn, going-all}
use Rattle.paragraphs.proofs.put_all.Goals as goal

pub loop-i-preserved : goal.loop-i-preserved
loop-i-preserved c = going_turn c.loop-i.invariant c.loop-i-test.true c.put_paragraph-at.ensures

pub returns : goal.returns
returns c = going-all c.loop-i.invariant c.loop-i-test.false
