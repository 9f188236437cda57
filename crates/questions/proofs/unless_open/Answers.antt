-- `questions::unless_open` meets its contract. The loop's invariant: what stands open from here on before e is what does from the beginning on.
use mathlib.Core.Path.{sym, ◌∙◌}
use Rattle.questions.proofs.Openings.{open_turn}
use Rattle.questions.proofs.unless_open.Goals as goal

pub loop-at-preserved : goal.loop-at-preserved
loop-at-preserved c = let a = c.args in
    open_turn a.text.now a.e c.loop-at.at c.start-s.result c.start-s.ensures c.end-at.result c.end-at.ensures c.if-e-s.false (sym c.is_open.ensures ∙ c.if-is_open.false) ∙ c.loop-at.invariant
