-- `tails::put_kind` meets its contract.
use Rattle.tails.proofs.Tailing.{kind-puts}
use Rattle.tails.proofs.put_kind.Goals as goal

pub returns : goal.returns
returns c =
    kind-puts c.put_note.ensures c.gather-gathered.ensures c.front.ensures c.put_together.ensures
