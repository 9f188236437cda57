-- `report::Text::put_answer` meets its contract.
use mathlib.Core.Path.{sym, ap}
use native.Mathlib.Omega.{arith}
use lib.ListN.{get_or}
use borrow.Author.Rules.{rules}
use Rattle.complement.specs.Answers.{list_numbers}
use Rattle.numbers.proofs.Said.{list_said, refused_said}
use Rattle.report.specs.Putting.{answer_text}
use Rattle.report.proofs.Putting.{puts_is}
use Rattle.report.proofs.Lines.{refusal-short}
use Rattle.report.proofs.Text.put_answer.Goals as goal

pub put_refusal-requires : goal.put_refusal-requires
put_refusal-requires c =
    let said = c.list_numbers.result in
    omega (arith, refusal-short (get_or said 0 0) (get_or said 1 0) (get_or said 2 0) (search rules) (search rules) (search rules), c.requires.in_bounds)

-- The reply is read back from its numbers: the first is not 0.
pub returns-in_default : goal.returns-in_default
returns-in_default c =
    puts_is (ap (λ r. answer_text r c.args.listing.now) (sym (refused_said (list_numbers c.args.answer) c.list_numbers.ensures (list_said c.args.answer) (search rules))))
    c.put_refusal.ensures
