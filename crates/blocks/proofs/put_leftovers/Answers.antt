-- `blocks::put_leftovers` meets its contract.
use Rattle.pages.proofs.Pages.{adds_then}
use Rattle.blocks.proofs.put_leftovers.Goals as goal

pub returns : goal.returns
returns c = adds_then c.put.ensures (adds_then c.put_number.ensures (adds_then c.put-2.ensures (adds_then c.put_lines.ensures (adds_then c.put-3.ensures (adds_then c.put_number-2.ensures c.put-4.ensures)))))
