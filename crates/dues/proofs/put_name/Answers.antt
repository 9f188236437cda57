-- `dues::put_name` meets its contract.
use Rattle.pages.proofs.Pages.{adds_is}
use Rattle.dues.proofs.Tables.{name-here}
use Rattle.dues.proofs.put_name.Goals as goal

pub returns-then-i-n : goal.returns-then-i-n
returns-then-i-n c = let s = c.args in adds_is (name-here s.text.now s.table.now s.n s.i c.if-i-n.true) c.put_name.ensures
