-- `answers::answer_bounded` meets its contract.
use mathlib.Core.Path.{sym, ◌∙◌}
use borrow.Author.Tests.{ltb-true, ltb-false}
use Rattle.answers.proofs.Answering.{whole-fits, whole-inside, whole-full}
use Rattle.answers.proofs.answer_bounded.Goals as goal

pub returns-then-is_over-clause-desk_promise : goal.returns-then-is_over-clause-desk_promise
returns-then-is_over-clause-desk_promise c =
    let size = c.is_over.ensures.page_len in
    let whole = c.answer_whole.ensures in
    let more = ltb-true 1048576 _ (sym c.is_over.ensures.value ∙ c.if-is_over.true) in whole-full size whole c.put.ensures more

pub returns-then-is_over-clause-upper_bound : goal.returns-then-is_over-clause-upper_bound
returns-then-is_over-clause-upper_bound c =
    let size = c.is_over.ensures.page_len in
    let whole = c.answer_whole.ensures in
    let more = ltb-true 1048576 _ (sym c.is_over.ensures.value ∙ c.if-is_over.true) in whole-inside size whole c.put.ensures

pub returns-else-is_over-clause-desk_promise : goal.returns-else-is_over-clause-desk_promise
returns-else-is_over-clause-desk_promise c =
    let size = c.is_over.ensures.page_len in
    let whole = c.answer_whole.ensures in
    let few = ltb-false 1048576 _ (sym c.is_over.ensures.value ∙ c.if-is_over.false) in whole-fits size whole few
