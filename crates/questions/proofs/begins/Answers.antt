-- `questions::begins` meets its contract.
use mathlib.Core.Path.{sym, ◌∙◌}
use Rattle.questions.proofs.Openings.{begins_is}
use Rattle.questions.proofs.begins.Goals as goal

pub returns : goal.returns
returns c = let a = c.args in
    begins_is a.text.now a.at c.start-s.result c.start-s.ensures (sym c.is_identifier.ensures ∙ c.if-not-is_identifier.false) c.end.result c.start-behind.result c.is_mark.result c.end.ensures c.start-behind.ensures c.is_mark.ensures
