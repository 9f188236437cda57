-- `phrases::read_labelled` meets its contract.
use mathlib.Core.Path.{sym, ◌∙◌}
use Rattle.std.specs.Prelude.{Ok, Err}
use Rattle.std.proofs.lemmas.Result.{err_from_is_err_and}
use Rattle.phrases.proofs.Labels.{label-apart, label-long, label-read}
use Rattle.phrases.proofs.read_labelled.Goals as goal

pub returns-then-not-is_mark : goal.returns-then-not-is_mark
returns-then-not-is_mark c = let a = c.args in let g = a.glossary.now in
    label-apart g.text.now a.kinds.now g.words.now g.records.now a.at c.start-s.result a.k g.n c.requires.within.inside c.start-s.ensures c.end-e.result c.start-colon.result (sym c.is_identifier.ensures ∙ c.if-not-is_identifier.false) c.end-e.ensures c.start-colon.ensures _ _ _ (sym c.is_mark.ensures ∙ c.if-not-is_mark.true) c.read_root-then-not-is_mark.ensures

pub returns-then-e-s-gt32 : goal.returns-then-e-s-gt32
returns-then-e-s-gt32 c = let a = c.args in let g = a.glossary.now in
    label-long g.text.now a.kinds.now g.words.now g.records.now a.at c.start-s.result a.k g.n c.requires.within.inside c.start-s.ensures c.end-e.result c.start-colon.result (sym c.is_identifier.ensures ∙ c.if-not-is_identifier.false) c.end-e.ensures c.start-colon.ensures (sym c.is_mark.ensures ∙ c.if-not-is_mark.false) _ _ c.if-e-s-gt32.true

pub returns-in_err-phrase : goal.returns-in_err-phrase
returns-in_err-phrase c = let a = c.args in let g = a.glossary.now in
    let z = err_from_is_err_and c.from_residual.result c.from_residual.ensures.1 in
    rw (z.1, z.2) (label-read g.text.now a.kinds.now g.words.now g.records.now a.at c.start-s.result a.k g.n c.requires.within.inside c.start-s.ensures c.end-e.result c.start-colon.result (sym c.is_identifier.ensures ∙ c.if-not-is_identifier.false) c.end-e.ensures c.start-colon.ensures (sym c.is_mark.ensures ∙ c.if-not-is_mark.false) _ _ c.end-root.result (Err c.in_err-phrase.field-0.0) c.if-e-s-gt32.false c.end-root.ensures c.in_err-phrase.ensures)

pub returns : goal.returns
returns c = let a = c.args in let g = a.glossary.now in
    label-read g.text.now a.kinds.now g.words.now g.records.now a.at c.start-s.result a.k g.n c.requires.within.inside c.start-s.ensures c.end-e.result c.start-colon.result (sym c.is_identifier.ensures ∙ c.if-not-is_identifier.false) c.end-e.ensures c.start-colon.ensures (sym c.is_mark.ensures ∙ c.if-not-is_mark.false) _ _ c.end-root.result (Ok c.in_ok-phrase.phrase) c.if-e-s-gt32.false c.end-root.ensures c.in_ok-phrase.ensures
