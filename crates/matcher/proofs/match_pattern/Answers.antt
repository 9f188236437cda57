-- `matcher::match_pattern` meets its contract.
use mathlib.Core.Path.{refl}
use Rattle.matcher.proofs.Calls.{lent_bytes, passed_on, match_refused, match_length, match_answers}
use Rattle.matcher.proofs.match_pattern.Goals as goal

pub returns-in_err-fits : goal.returns-in_err-fits
returns-in_err-fits c =
    let a = c.args in
    let lent = lent_bytes a.vocabulary.now a.pattern.now a.situation.now c.type_inv.vocabulary c.type_inv.pattern c.type_inv.situation in
    rw (passed_on _ _ c.from_residual.ensures.1) (let h = match_refused lent _ _ c.in_err-fits.field-0.0 c.in_err-fits.ensures refl in record { cases = h.0; has_effect = h.1 })

pub returns-then-table-ne128-clause-cases : goal.returns-then-table-ne128-clause-cases
returns-then-table-ne128-clause-cases c =
    let a = c.args in
    let lent = lent_bytes a.vocabulary.now a.pattern.now a.situation.now c.type_inv.vocabulary c.type_inv.pattern c.type_inv.situation in
    (match_length lent _ _ c.in_ok-fits.fits c.in_ok-fits.ensures c.if-table-ne128.true refl).0

pub returns-then-fits-clause-cases : goal.returns-then-fits-clause-cases
returns-then-fits-clause-cases c =
    let a = c.args in
    let lent = lent_bytes a.vocabulary.now a.pattern.now a.situation.now c.type_inv.vocabulary c.type_inv.pattern c.type_inv.situation in
    (match_answers lent _ _ c.if-table-ne128.false c.in_ok-fits.fits c.in_ok-fits.ensures (rw c.if-fits.true c.copy_from_slice.ensures.after)).0

pub returns-else-fits-clause-cases : goal.returns-else-fits-clause-cases
returns-else-fits-clause-cases c =
    let a = c.args in
    let lent = lent_bytes a.vocabulary.now a.pattern.now a.situation.now c.type_inv.vocabulary c.type_inv.pattern c.type_inv.situation in
    (match_answers lent _ _ c.if-table-ne128.false c.in_ok-fits.fits c.in_ok-fits.ensures (rw c.if-fits.false refl)).0
