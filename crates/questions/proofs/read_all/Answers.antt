-- `questions::read_all` meets its contract. The loop's invariant: what is read of the questions from here on is read of all.
use mathlib.Core.Path.{sym, ◌∙◌}
use Rattle.std.proofs.lemmas.Result.{err_from_is_err_and}
use Rattle.questions.proofs.Rounds.{turned-over, turned-bad, turned_less, turned_more}
use Rattle.questions.proofs.read_all.Goals as goal

pub returns-in_err-from : goal.returns-in_err-from
returns-in_err-from c = let a = c.args in let g = a.glossary.now in
    let z = err_from_is_err_and c.from_residual.result c.from_residual.ensures.1 in
    rw (z.1, z.2) (turned-bad g.text.now g.words.now g.records.now a.at a.label a.kind g.n c.requires c.loop-from.from c.loop-from.invariant (sym c.begins.ensures ∙ c.loop-from-test.true) _ c.in_err-from.ensures)

pub loop-from-smaller : goal.loop-from-smaller
loop-from-smaller c = let a = c.args in let g = a.glossary.now in
    (turned_less g.text.now g.words.now g.records.now a.at a.label a.kind g.n c.requires c.loop-from.from c.loop-from.invariant (sym c.begins.ensures ∙ c.loop-from-test.true) _ c.in_ok-from.ensures).0

pub loop-from-preserved : goal.loop-from-preserved
loop-from-preserved c = let a = c.args in let g = a.glossary.now in
    turned_more g.text.now g.words.now g.records.now a.at a.label a.kind g.n c.requires c.loop-from.from c.loop-from.invariant (sym c.begins.ensures ∙ c.loop-from-test.true) _ c.in_ok-from.ensures

pub returns : goal.returns
returns c = let a = c.args in let g = a.glossary.now in
    turned-over g.text.now g.words.now g.records.now a.at a.label a.kind g.n c.requires c.loop-from.from c.loop-from.invariant (sym c.begins.ensures ∙ c.loop-from-test.false)
