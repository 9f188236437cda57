-- `blocks::put_too_many` meets its contract.
use Rattle.pages.proofs.Pages.{adds_then}
use Rattle.blocks.proofs.put_too_many.Goals as goal

pub returns : goal.returns
returns c = adds_then c.put.ensures (adds_then c.put_number.ensures c.put-2.ensures)
