-- `matcher::part` meets its contract.
use native.Mathlib.Omega.{arith}
use Prim.Native.Nat.{ℕ}
use lib.ListN.{length-drop}
use Rattle.std.proofs.lemmas.List.{length-take}
use Rattle.matcher.proofs.Calls.{lent_bytes, part-above, found_inside, part-found}
use Rattle.matcher.proofs.part.Goals as goal

pub returns-then-name-gt63-clause-part_promise : goal.returns-then-name-gt63-clause-part_promise
returns-then-name-gt63-clause-part_promise c =
    let a = c.args in
    let lent = lent_bytes a.vocabulary.now a.pattern.now a.situation.now c.type_inv.vocabulary c.type_inv.pattern c.type_inv.situation in
    let at = part-above lent c.args.name c.if-name-gt63.true c.args.situation.ref_ptr.1 in at.0

pub slice_bounds-result-end-2 : goal.slice_bounds-result-end-2
slice_bounds-result-end-2 c =
    let a = c.args in
    let lent = lent_bytes a.vocabulary.now a.pattern.now a.situation.now c.type_inv.vocabulary c.type_inv.pattern c.type_inv.situation in
    let inside = found_inside lent a.name c.find.ensures.after (omega (arith, c.if-name-gt63.false)) c.from-from.ensures c.from-bytes.ensures in omega arith

pub returns-clause-part_promise : goal.returns-clause-part_promise
returns-clause-part_promise c =
    let a = c.args in
    let lent = lent_bytes a.vocabulary.now a.pattern.now a.situation.now c.type_inv.vocabulary c.type_inv.pattern c.type_inv.situation in
    (part-found lent a.name c.find.ensures.after (omega (arith, c.if-name-gt63.false)) c.from-from.ensures c.from-bytes.ensures a.situation.ref_ptr.1).0

pub returns-clause-result_value : goal.returns-clause-result_value
returns-clause-result_value c =
    let a = c.args in
    let lent = lent_bytes a.vocabulary.now a.pattern.now a.situation.now c.type_inv.vocabulary c.type_inv.pattern c.type_inv.situation in
    (part-found lent a.name c.find.ensures.after (omega (arith, c.if-name-gt63.false)) c.from-from.ensures c.from-bytes.ensures a.situation.ref_ptr.1).1

pub slice_bounds-result-count-2 : goal.slice_bounds-result-count-2
slice_bounds-result-count-2 c =
    let a = c.args in
    let lent = lent_bytes a.vocabulary.now a.pattern.now a.situation.now c.type_inv.vocabulary c.type_inv.pattern c.type_inv.situation in
    let inside = found_inside lent a.name c.find.ensures.after (omega (arith, c.if-name-gt63.false)) c.from-from.ensures c.from-bytes.ensures in omega arith

pub slice_bounds-result-start-2 : goal.slice_bounds-result-start-2
slice_bounds-result-start-2 c =
    let a = c.args in
    let lent = lent_bytes a.vocabulary.now a.pattern.now a.situation.now c.type_inv.vocabulary c.type_inv.pattern c.type_inv.situation in
    let inside = found_inside lent a.name c.find.ensures.after (omega (arith, c.if-name-gt63.false)) c.from-from.ensures c.from-bytes.ensures in omega arith

pub slice_bounds-result-end-3 : goal.slice_bounds-result-end-3
slice_bounds-result-end-3 c =
    let a = c.args in
    let lent = lent_bytes a.vocabulary.now a.pattern.now a.situation.now c.type_inv.vocabulary c.type_inv.pattern c.type_inv.situation in
    let inside = found_inside lent a.name c.find.ensures.after (omega (arith, c.if-name-gt63.false)) c.from-from.ensures c.from-bytes.ensures in omega (arith, length-take {A = ℕ}, length-drop {A = ℕ})
