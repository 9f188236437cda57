-- `blocks::put_label` meets its contract.
use Rattle.pages.proofs.Pages.{adds_then_is}
use Rattle.blocks.proofs.Blocks.{label_some}
use Rattle.blocks.proofs.put_label.Goals as goal

pub returns-then-label-text : goal.returns-then-label-text
returns-then-label-text c = adds_then_is c.put_token.ensures c.put.ensures (label_some c.args.text.now c.args.label c.if-label-text.true)
