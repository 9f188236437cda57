-- `answers::complain_unread` meets its contract.
use Rattle.answers.proofs.Answering.{told-number}
use Rattle.answers.proofs.complain_unread.Goals as goal

pub returns : goal.returns
returns c = told-number c.args.text.now c.args.at c.number.ensures c.complain.ensures
