-- `clauses::Glossary::read_head` meets its contract.
use mathlib.Core.Path.{refl, sym, ◌∙◌}
use native.Mathlib.Omega.{arith}
use Rattle.clauses.specs.Reading.{Lent}
use Rattle.std.specs.Prelude.{Ok, Err}
use Rattle.std.proofs.lemmas.Result.{err_from_is_err_and}
use Rattle.faults.proofs.Numbers.{reason-absent}
use Rattle.clauses.proofs.Heads.{head_open, head-variable, head-refused, head-word}
use Rattle.clauses.proofs.Glossary.read_head.Goals as goal

pub returns-then-is_mark : goal.returns-then-is_mark
returns-then-is_mark c = let a = c.args in let g = a.self.now in
    let lent : Lent a.out.now a.variables.now = record { bytes = omega (arith, c.told-out); variables = omega (arith, c.told-variables) } in
    λ k. head_open g.text.now g.words.now g.records.now a.out.now a.variables.now a.at c.start-s.result k g.n a.left a.due a.to a.seen c.requires.within lent c.start-s.ensures c.end.result (sym c.is_mark.ensures ∙ c.if-is_mark.true) c.end.ensures

pub returns-in_err-leaf : goal.returns-in_err-leaf
returns-in_err-leaf c = let a = c.args in let g = a.self.now in
    let lent : Lent a.out.now a.variables.now = record { bytes = omega (arith, c.told-out); variables = omega (arith, c.told-variables) } in
    let h = c.from_residual.ensures in
    let z = c.in_err-leaf.ensures in
    let p = err_from_is_err_and c.from_residual.result c.from_residual.ensures.1 in rw (p.1, p.2) (λ k. head-variable g.text.now g.words.now g.records.now a.out.now a.variables.now a.at c.start-s.result k g.n a.left a.due a.to a.seen c.requires.within lent c.start-s.ensures (sym c.is_mark.ensures ∙ c.if-is_mark.false) _ _ (Err c.in_err-leaf.field-0.0) (sym c.is_variable.ensures ∙ c.if-is_variable.true) c.in_err-leaf.ensures)

pub returns-then-is_variable : goal.returns-then-is_variable
returns-then-is_variable c = let a = c.args in let g = a.self.now in
    let lent : Lent a.out.now a.variables.now = record { bytes = omega (arith, c.told-out); variables = omega (arith, c.told-variables) } in
    λ k. head-variable g.text.now g.words.now g.records.now a.out.now a.variables.now a.at c.start-s.result k g.n a.left a.due a.to a.seen c.requires.within lent c.start-s.ensures (sym c.is_mark.ensures ∙ c.if-is_mark.false) _ _ (Ok c.in_ok-leaf.leaf) (sym c.is_variable.ensures ∙ c.if-is_variable.true) c.in_ok-leaf.ensures

pub returns-in-Some : goal.returns-in-Some
returns-in-Some c = let a = c.args in let g = a.self.now in
    let lent : Lent a.out.now a.variables.now = record { bytes = omega (arith, c.told-out); variables = omega (arith, c.told-variables) } in
    λ k. head-refused g.text.now g.words.now g.records.now a.out.now a.variables.now a.at c.start-s.result k g.n a.left a.due a.to a.seen c.requires.within lent c.start-s.ensures (sym c.is_mark.ensures ∙ c.if-is_mark.false) c.find-f.result _ (sym c.is_variable.ensures ∙ c.if-is_variable.false) c.requires.tables c.find-f.ensures c.in-Some.ensures _ _ c.in-Some.why refl

pub returns : goal.returns
returns c = let a = c.args in let g = a.self.now in
    let lent : Lent a.out.now a.variables.now = record { bytes = omega (arith, c.told-out); variables = omega (arith, c.told-variables) } in
    λ k. head-word g.text.now g.words.now g.records.now a.out.now a.variables.now a.at c.start-s.result k g.n a.left a.due a.to a.seen c.requires.within lent c.start-s.ensures (sym c.is_mark.ensures ∙ c.if-is_mark.false) c.find-f.result 0 (sym c.is_variable.ensures ∙ c.if-is_variable.false) c.requires.tables c.find-f.ensures (reason-absent _ c.word_why.result c.word_why.ensures c.in_default.not-Some) c.end-2.result refl c.end-2.ensures
