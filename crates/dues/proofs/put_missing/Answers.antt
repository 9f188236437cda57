-- `dues::put_missing` meets its contract.
use mathlib.Core.Path.{sym, ◌∙◌}
use Rattle.wire.proofs.Cond.{cond_true, cond_false}
use Rattle.pages.proofs.Pages.{adds_is}
use Rattle.dues.proofs.put_missing.Goals as goal

pub returns-then-is_mark : goal.returns-then-is_mark
returns-then-is_mark c = adds_is (sym (cond_true _ _ _ (sym c.is_mark.ensures ∙ c.if-is_mark.true))) c.put.ensures

pub returns-then-is_mark-2 : goal.returns-then-is_mark-2
returns-then-is_mark-2 c =
    adds_is (sym (cond_false _ _ _ (sym c.is_mark.ensures ∙ c.if-is_mark.false) ∙ cond_true _ _ _ (sym c.is_mark-else-is_mark.ensures ∙ c.if-is_mark-2.true))) c.put-then-is_mark-2.ensures

pub returns-else-is_mark-2 : goal.returns-else-is_mark-2
returns-else-is_mark-2 c =
    adds_is (sym (cond_false _ _ _ (sym c.is_mark.ensures ∙ c.if-is_mark.false) ∙ cond_false _ _ _ (sym c.is_mark-else-is_mark.ensures ∙ c.if-is_mark-2.false))) c.put-else-is_mark-2.ensures
