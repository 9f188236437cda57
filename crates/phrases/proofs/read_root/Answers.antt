-- `phrases::read_root` meets its contract.
use mathlib.Core.Path.{sym, ◌∙◌}
use native.Mathlib.Omega.{arith}
use Rattle.texts.proofs.Scanning.{end-within}
use Rattle.clauses.proofs.Fronts.{front-inside}
use Rattle.phrases.proofs.RootTerms.{root_open, root-variable, root-word}
use Rattle.phrases.proofs.read_root.Goals as goal

pub read_leaf-requires-clause-at_in_bounds : goal.read_leaf-requires-clause-at_in_bounds
read_leaf-requires-clause-at_in_bounds c = let a = c.args in let g = a.glossary.now in
    omega (arith, c.end.ensures, end-within g.text.now c.start-s.result (front-inside g.text.now a.at c.start-s.result c.requires.within.inside c.start-s.ensures))

pub returns-then-is_mark : goal.returns-then-is_mark
returns-then-is_mark c = let a = c.args in let g = a.glossary.now in
    root_open g.text.now a.kinds.now g.words.now g.records.now a.variables.now a.at c.start-s.result a.k g.n c.requires.within.inside c.start-s.ensures _ c.end.result _ (sym c.is_mark.ensures ∙ c.if-is_mark.true) c.end.ensures c.read_leaf.ensures

pub returns-then-is_variable : goal.returns-then-is_variable
returns-then-is_variable c = let a = c.args in let g = a.glossary.now in
    root-variable g.text.now a.kinds.now g.words.now g.records.now a.variables.now a.at c.start-s.result a.k g.n c.requires.within.inside c.start-s.ensures (sym c.is_mark.ensures ∙ c.if-is_mark.false) _ _ _ (sym c.is_variable.ensures ∙ c.if-is_variable.true) c.read_root_variable.ensures

pub returns : goal.returns
returns c = let a = c.args in let g = a.glossary.now in
    root-word g.text.now a.kinds.now g.words.now g.records.now a.variables.now a.at c.start-s.result a.k g.n c.requires.within.inside c.start-s.ensures (sym c.is_mark.ensures ∙ c.if-is_mark.false) (sym c.is_variable.ensures ∙ c.if-is_variable.false) _ _ _ (sym c.is_identifier.ensures ∙ c.if-not-is_identifier.false) c.read_root_word.ensures
