-- `together::put_many` meets its contract.
use Rattle.pages.proofs.Pages.{adds_then}
use Rattle.together.proofs.put_many.Goals as goal

pub returns : goal.returns
returns c = adds_then c.put.ensures (adds_then c.put_subject.ensures c.put-2.ensures)
