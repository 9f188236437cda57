-- `answers::answer_file` meets its contract.
use Rattle.answers.proofs.Answering.{answers-bad, answers-fine}
use Rattle.answers.proofs.answer_file.Goals as goal

pub returns-in-Err : goal.returns-in-Err
returns-in-Err c =
    answers-bad c.requires c.check.ensures c.in-Err.is c.number.ensures c.complain.ensures

pub returns-in-Ok : goal.returns-in-Ok
returns-in-Ok c =
    answers-fine c.requires c.check.ensures c.in-Ok.is c.put_file.ensures
