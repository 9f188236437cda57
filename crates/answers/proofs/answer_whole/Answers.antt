-- `answers::answer_whole` meets its contract.
use native.Mathlib.Omega.{arith}
use Rattle.answers.proofs.Answering.{answers-long, answers-lexicon}
use Rattle.answers.proofs.answer_whole.Goals as goal

pub returns-then-text-gt65535 : goal.returns-then-text-gt65535
returns-then-text-gt65535 c = answers-long (omega (arith, c.if-text-gt65535.true)) c.complain_unread.ensures

pub returns-in-Err : goal.returns-in-Err
returns-in-Err c =
    answers-lexicon (omega (arith, c.if-text-gt65535.false)) c.read_lexicon.ensures c.in-Err.is c.complain_unread-in-Err.ensures
