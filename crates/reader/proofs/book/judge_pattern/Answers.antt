-- `reader::book::judge_pattern` meets its contract.
use Prim.Native.Nat.{◌-◌}
use native.Mathlib.Omega.{arith}
use native.Mathlib.Nat.{le_trans}
use Rattle.reader.proofs.Books.{repeat_within, pattern_repeated, pattern-other, pattern-ends}
use Rattle.reader.proofs.book.judge_pattern.Goals as goal

pub overflow_add-result : goal.overflow_add-result
overflow_add-result c = let a = c.args in
    omega (arith, repeat_within a.b.now a.at (le_trans c.requires.1 c.requires.2) (a.end - a.at) a.words c.first_repeat.result c.first_repeat.ensures c.in-Some.is, c.well_formed.0.0)

pub returns-in-Some : goal.returns-in-Some
returns-in-Some c = let a = c.args in
    λ W in_order known x. pattern_repeated W a.b.now a.at in_order known c.requires.1 c.requires.2 x c.first_repeat.result c.first_repeat.ensures c.in-Some.is

pub returns-then-b-at : goal.returns-then-b-at
returns-then-b-at c = let a = c.args in
    λ W in_order known x. pattern-other W a.b.now a.at in_order known c.requires.1 c.requires.2 x c.first_repeat.result c.first_repeat.ensures c.in_default.is c.if-b-at.true

pub returns : goal.returns
returns c = let a = c.args in
    λ W in_order known x. pattern-ends W a.b.now a.at in_order known c.requires.1 c.requires.2 x c.first_repeat.result c.first_repeat.ensures c.in_default.is c.if-b-at.false
