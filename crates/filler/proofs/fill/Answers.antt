-- `filler::fill` meets its contract.
use mathlib.Core.Path.{refl}
use Rattle.filler.proofs.Calls.{lent_bytes, passed_on, fill-refused, known, fill_known}
use Rattle.filler.proofs.fill.Goals as goal

pub fill_read-requires : goal.fill_read-requires
fill_read-requires c =
    let lent = lent_bytes c.type_inv.vocabulary c.type_inv.pattern c.type_inv.filling in
    known lent c.args.out.now c.in_ok-deepest.ensures refl

pub returns-in_err-deepest-clause-fill_promise : goal.returns-in_err-deepest-clause-fill_promise
returns-in_err-deepest-clause-fill_promise c =
    let lent = lent_bytes c.type_inv.vocabulary c.type_inv.pattern c.type_inv.filling in
    rw (passed_on _ _ c.from_residual.ensures.1) (fill-refused lent c.args.out.now c.in_err-deepest.ensures c.in_err-deepest.field-0.0 refl).0

pub returns-in_err-deepest-clause-has_effect : goal.returns-in_err-deepest-clause-has_effect
returns-in_err-deepest-clause-has_effect c =
    let lent = lent_bytes c.type_inv.vocabulary c.type_inv.pattern c.type_inv.filling in
    rw (passed_on _ _ c.from_residual.ensures.1) (fill-refused lent c.args.out.now c.in_err-deepest.ensures c.in_err-deepest.field-0.0 refl).1

pub returns-clause-fill_promise : goal.returns-clause-fill_promise
returns-clause-fill_promise c =
    let lent = lent_bytes c.type_inv.vocabulary c.type_inv.pattern c.type_inv.filling in
    (fill_known lent c.args.out.now c.in_ok-deepest.ensures refl c.fill_read.ensures).0

pub returns-clause-has_effect : goal.returns-clause-has_effect
returns-clause-has_effect c =
    let lent = lent_bytes c.type_inv.vocabulary c.type_inv.pattern c.type_inv.filling in
    (fill_known lent c.args.out.now c.in_ok-deepest.ensures refl c.fill_read.ensures).1
