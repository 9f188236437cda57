-- `together::put_subject` meets its contract.
use Rattle.pages.proofs.Pages.{adds_then}
use Rattle.together.proofs.put_subject.Goals as goal

pub returns : goal.returns
returns c = adds_then c.put.ensures (adds_then c.put_number.ensures (adds_then c.put-2.ensures (adds_then c.put_name.ensures c.put-3.ensures)))
