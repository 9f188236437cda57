-- `complaints::put_no_pattern` meets its contract.
use mathlib.Core.Path.{sym, ◌∙◌}
use Rattle.wire.proofs.Cond.{cond_true, cond_false}
use Rattle.pages.proofs.Pages.{adds_is}
use Rattle.complaints.proofs.put_no_pattern.Goals as goal

pub returns-then-joins_words : goal.returns-then-joins_words
returns-then-joins_words c =
    adds_is
    (sym
    (cond_false _ _ _ (sym c.is_word.ensures ∙ c.if-is_word.false) ∙
    cond_true _ _ _ (sym c.joins_words.ensures ∙ c.if-joins_words.true)))
    c.put-then-joins_words.ensures

pub returns-else-joins_words : goal.returns-else-joins_words
returns-else-joins_words c =
    adds_is
    (sym
    (cond_false _ _ _ (sym c.is_word.ensures ∙ c.if-is_word.false) ∙
    cond_false _ _ _ (sym c.joins_words.ensures ∙ c.if-joins_words.false)))
    c.put-else-joins_words.ensures
