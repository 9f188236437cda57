-- `complement::list` meets its contract.
use mathlib.Core.Path.{refl}
use Rattle.complement.proofs.Calls.{passed_on, list-refused, patterned, list-pattern}
use Rattle.complement.proofs.list.Goals as goal

pub returns-in_err-missing : goal.returns-in_err-missing
returns-in_err-missing c =
    let a = c.args in
    rw (passed_on _ _ c.from_residual.ensures.1) (let h = list-refused a.vocabulary.now a.pattern.now a.out.now (λ i. (c.type_inv.vocabulary i).fits)
    (λ i. (c.type_inv.pattern i).fits) _ c.in_err-missing.ensures.answer in record { list_promise = h.0; has_effect = h.1 })

pub list_pattern-requires : goal.list_pattern-requires
list_pattern-requires c =
    let a = c.args in
    patterned a.vocabulary.now a.pattern.now a.out.now (λ i. (c.type_inv.vocabulary i).fits)
    (λ i. (c.type_inv.pattern i).fits) c.in_ok-missing.ensures.answer
    refl (c.in_ok-missing.ensures.settles _ refl)

pub returns-clause-list_promise : goal.returns-clause-list_promise
returns-clause-list_promise c =
    let a = c.args in (list-pattern a.vocabulary.now a.pattern.now a.out.now (λ i. (c.type_inv.vocabulary i).fits)
    (λ i. (c.type_inv.pattern i).fits) c.in_ok-missing.ensures.answer
    refl (c.in_ok-missing.ensures.settles _ refl) c.list_pattern.ensures).0

pub returns-clause-has_effect : goal.returns-clause-has_effect
returns-clause-has_effect c =
    let a = c.args in (list-pattern a.vocabulary.now a.pattern.now a.out.now (λ i. (c.type_inv.vocabulary i).fits)
    (λ i. (c.type_inv.pattern i).fits) c.in_ok-missing.ensures.answer
    refl (c.in_ok-missing.ensures.settles _ refl) c.list_pattern.ensures).1
