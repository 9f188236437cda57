-- `paragraphs::read_paragraph` meets its contract.
use mathlib.Core.Path.{refl}
use Rattle.std.proofs.lemmas.Result.{err_from_is_err_and}
use Rattle.paragraphs.proofs.Checking.{paragraph_bad, paragraph_goes}
use Rattle.paragraphs.proofs.read_paragraph.Goals as goal

pub returns-in_err-p : goal.returns-in_err-p
returns-in_err-p c =
    let a = c.args in let g = a.glossary.now in
    let z = err_from_is_err_and c.from_residual.result c.from_residual.ensures.1 in
    rw (z.1, z.2) (paragraph_bad g.text.now a.at a.kinds.now a.k g.words.now g.n g.records.now c.requires c.read_phrase.new.out c.read_phrase.new.variables _ c.in_err-p.ensures refl)

pub returns : goal.returns
returns c =
    let a = c.args in let g = a.glossary.now in
    paragraph_goes g.text.now a.at a.kinds.now a.k g.words.now g.n g.records.now c.requires c.read_phrase.new.out c.read_phrase.new.variables _ c.in_ok-p.ensures refl
    c.read_questions.result c.read_questions.ensures
