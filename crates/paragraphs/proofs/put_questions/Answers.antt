-- `paragraphs::put_questions` meets its contract.
use mathlib.Core.Path.{sym, ◌∙◌}
use Rattle.paragraphs.proofs.Asking.{no_ok, asks_all, asks_bad, asks_less, asks_turn}
use Rattle.paragraphs.proofs.put_questions.Goals as goal

pub returns-in_default : goal.returns-in_default
returns-in_default c =
    let a = c.args in let g = a.glossary.now in
    asks_bad g.text.now a.s a.label a.kind g.words.now g.n g.records.now c.loop-page.invariant c.requires (sym c.begins.ensures ∙ c.loop-page-test.true)
    c.read_question.result c.read_question.ensures (no_ok c.read_question.result c.in_default.not-Ok).1

pub loop-page-smaller : goal.loop-page-smaller
loop-page-smaller c =
    let a = c.args in let g = a.glossary.now in
    asks_less g.text.now a.s a.label a.kind g.words.now g.n g.records.now c.loop-page.invariant c.requires (sym c.begins.ensures ∙ c.loop-page-test.true)
    c.read_question.result c.read_question.ensures c.in-Ok.is

pub loop-page-preserved : goal.loop-page-preserved
loop-page-preserved c =
    let a = c.args in let g = a.glossary.now in
    asks_turn g.text.now a.s a.label a.kind g.words.now g.n g.records.now c.loop-page.invariant c.requires (sym c.begins.ensures ∙ c.loop-page-test.true)
    c.read_question.result c.read_question.ensures c.in-Ok.is c.behind_asking.ensures c.put_question.ensures

pub returns : goal.returns
returns c = asks_all _ _ _ _ _ _ _ c.loop-page.invariant (sym c.begins.ensures ∙ c.loop-page-test.false)
