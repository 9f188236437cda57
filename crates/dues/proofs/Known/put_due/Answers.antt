-- `dues::Known::put_due` meets its contract.
use Rattle.pages.proofs.Pages.{adds_then}
use Rattle.dues.proofs.Known.put_due.Goals as goal

pub returns : goal.returns
returns c = adds_then c.put_name.ensures (adds_then c.put.ensures c.put_words_of.ensures)
