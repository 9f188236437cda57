-- `phrases::read_root_variable` meets its contract.
use mathlib.Core.Path.{refl}
use native.Mathlib.Omega.{arith}
use Rattle.texts.proofs.Scanning.{end-within}
use Rattle.faults.proofs.Numbers.{reason-absent}
use Rattle.phrases.proofs.RootTerms.{root_variable_refused, root_variable_read}
use Rattle.phrases.proofs.read_root_variable.Goals as goal

pub read_leaf-requires-clause-at_in_bounds : goal.read_leaf-requires-clause-at_in_bounds
read_leaf-requires-clause-at_in_bounds c = let a = c.args in omega (arith, c.end.ensures, end-within a.text.now a.s c.requires.within.inside)

pub returns-in-Some : goal.returns-in-Some
returns-in-Some c = let a = c.args in
    root_variable_refused a.text.now a.kinds.now a.variables.now _ a.s a.k _ c.in-Some.ensures _ c.in-Some.why refl

pub returns : goal.returns
returns c = let a = c.args in
    root_variable_read a.text.now a.kinds.now a.variables.now _ a.s a.k 0 (reason-absent _ c.variable_why.result c.variable_why.ensures c.in_default.not-Some) c.end.result _ refl (omega (arith, c.told-variables)) c.end.ensures c.read_leaf.ensures
