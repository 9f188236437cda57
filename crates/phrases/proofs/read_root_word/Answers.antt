-- `phrases::read_root_word` meets its contract.
use native.Mathlib.Omega.{arith}
use Rattle.std.proofs.lemmas.Result.{err_from_is_err_and}
use Rattle.phrases.proofs.RootTerms.{root_word_refused, root-word_read}
use Rattle.phrases.proofs.read_root_word.Goals as goal

pub returns-in_err-p : goal.returns-in_err-p
returns-in_err-p c = let a = c.args in let g = a.glossary.now in
    let z = err_from_is_err_and c.from_residual.result c.from_residual.ensures.1 in
    rw (z.1, z.2) (root_word_refused g.text.now g.words.now g.records.now a.out.now a.variables.now c.read.new.out c.read.new.variables a.at a.s g.n c.find-f.result c.root_kind-kind.result c.from-due.result c.find-f.ensures c.root_kind-kind.ensures c.from-due.ensures _ (c.in_err-p.ensures c.requires))

pub returns : goal.returns
returns c = let a = c.args in let g = a.glossary.now in
    root-word_read g.text.now g.words.now g.records.now a.out.now a.variables.now c.read.new.out c.read.new.variables a.at a.s g.n c.find-f.result c.root_kind-kind.result c.from-due.result c.find-f.ensures c.root_kind-kind.ensures c.from-due.ensures c.in_ok-p.p (c.in_ok-p.ensures c.requires) (omega (arith, c.told-out))
