-- `blocks::put_answer` meets its contract.
use Rattle.pages.proofs.Pages.{adds_is}
use Rattle.blocks.proofs.Blocks.{refused_is}
use Rattle.blocks.proofs.put_answer.Goals as goal

pub returns-else-said-eq0 : goal.returns-else-said-eq0
returns-else-said-eq0 c = adds_is (refused_is _ c.args.answer c.args.listing.now c.list_numbers-said.ensures c.if-said-eq0.false) c.put_too_many.ensures
