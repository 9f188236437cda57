-- `tails::put_tails` meets its contract.
use Rattle.tails.proofs.Tailing.{tailing_turn}
use Rattle.tails.proofs.put_tails.Goals as goal

pub loop-s-preserved : goal.loop-s-preserved
loop-s-preserved c = tailing_turn c.loop-s.invariant c.loop-s-test.true c.put_kind.ensures
