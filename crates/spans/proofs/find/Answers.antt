-- `spans::find` meets its contract.
use mathlib.Core.Path.{refl}
use mathlib.Core.Bool.{true, false}
use Rattle.spans.proofs.Finding.{lent_bytes, inputs_read, find_refused, find_fits, find_differs, walked_as}
use Rattle.spans.proofs.find.Goals as goal

pub returns-in-Err : goal.returns-in-Err
returns-in-Err c =
    let a = c.args in
    find_refused a.vocabulary.now a.pattern.now a.situation.now _ c.in-Err.why (c.in-Err.ensures c.walk_front-front.ensures.agrees) refl

pub walk-requires-clause-inputs_read : goal.walk-requires-clause-inputs_read
walk-requires-clause-inputs_read c =
    let a = c.args in
    let lent = lent_bytes a.vocabulary.now a.pattern.now a.situation.now c.type_inv.vocabulary c.type_inv.pattern c.type_inv.situation in
    inputs_read lent (c.in_default.ensures c.walk_front-front.ensures.agrees)

pub returns-then-walk : goal.returns-then-walk
returns-then-walk c =
    let a = c.args in
    let lent = lent_bytes a.vocabulary.now a.pattern.now a.situation.now c.type_inv.vocabulary c.type_inv.pattern c.type_inv.situation in
    find_fits _ _ _ _ lent (c.in_default.ensures c.walk_front-front.ensures.agrees) (walked_as true c.if-walk.true c.walk.ensures)

pub returns : goal.returns
returns c =
    let a = c.args in
    let lent = lent_bytes a.vocabulary.now a.pattern.now a.situation.now c.type_inv.vocabulary c.type_inv.pattern c.type_inv.situation in
    find_differs _ _ _ _ lent (c.in_default.ensures c.walk_front-front.ensures.agrees) (walked_as false c.if-walk.false c.walk.ensures) refl
