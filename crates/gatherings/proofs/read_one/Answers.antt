-- `gatherings::read_one` meets its contract.
use mathlib.Core.Path.{refl, sym, subst}
use Rattle.std.proofs.lemmas.Result.{err_from_is_err_and}
use Rattle.gatherings.specs.Gathering.{ReadsOne}
use Rattle.gatherings.proofs.Readings.{one_none, one-refused, one-read}
use Rattle.gatherings.proofs.read_one.Goals as goal

pub returns-in_err-p : goal.returns-in_err-p
returns-in_err-p c =
    let a = c.args in let g = a.glossary.now in
    let z = err_from_is_err_and c.from_residual.result c.from_residual.ensures.1 in
    subst (ReadsOne g.text.now a.at a.kinds.now a.k g.words.now g.n g.records.now c.read_phrase.new.out) (sym z.1) (one_none g.text.now a.at a.kinds.now a.k g.words.now g.n g.records.now c.requires _ _ _ c.in_err-p.ensures refl)

pub returns-in_err-behind : goal.returns-in_err-behind
returns-in_err-behind c =
    let a = c.args in let g = a.glossary.now in
    let z = err_from_is_err_and c.from_residual-in_err-behind.result c.from_residual-in_err-behind.ensures.1 in
    subst (ReadsOne g.text.now a.at a.kinds.now a.k g.words.now g.n g.records.now c.read_phrase.new.out) (sym z.1) (one-refused g.text.now a.at a.kinds.now a.k g.words.now g.n g.records.now c.requires _ _ _ c.in_ok-p.ensures refl _ c.in_err-behind.ensures refl)

pub returns : goal.returns
returns c =
    let a = c.args in let g = a.glossary.now in
    one-read g.text.now a.at a.kinds.now a.k g.words.now g.n g.records.now c.requires _ _ _ c.in_ok-p.ensures refl _ c.in_ok-behind.ensures refl
