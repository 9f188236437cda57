-- `report::print_from` meets its contract.
use native.Mathlib.Omega.{arith}
use Rattle.report.proofs.Reported.{answer-put, answer-room}
use Rattle.report.proofs.print_from.Goals as goal

pub put_answer-requires-clause-text_fits : goal.put_answer-requires-clause-text_fits
put_answer-requires-clause-text_fits c =
    answer-room c.args.vocabulary.now c.args.pattern.now (λ i. (c.type_inv.vocabulary i).fits) (λ i. (c.type_inv.pattern i).fits) c.list-answer.ensures.has_effect _ (omega arith)

pub returns : goal.returns
returns c =
    answer-put c.args.vocabulary.now c.args.pattern.now (λ i. (c.type_inv.vocabulary i).fits) (λ i. (c.type_inv.pattern i).fits) c.list-answer.ensures.has_effect c.put_answer.ensures.put
