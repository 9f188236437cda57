-- `reader::check_term` meets its contract.
use Rattle.std.proofs.lemmas.Result.{err_from_is_err_and}
use Rattle.signature.specs.Tables.{vocabulary_in}
use Rattle.wire.proofs.Checking.{term_promised}
use Rattle.reader.proofs.Calls.{term-refused, term-accepted}
use Rattle.reader.proofs.Told.{told-refused, told-accepted}
use Rattle.reader.proofs.check_term.Goals as goal

pub returns-in_err-load-clause-term_promise : goal.returns-in_err-load-clause-term_promise
returns-in_err-load-clause-term_promise c =
    let a = c.args in
    let p = err_from_is_err_and c.from_residual.result c.from_residual.ensures.1 in
    rw (p.1, p.2) (term_promised a.vocabulary.now a.term.now _ (λ i. (c.type_inv.vocabulary i).fits) (λ i. (c.type_inv.term i).fits)
    (term-refused a.vocabulary.now a.term.now _ c.in_err-load.ensures.answer))

pub returns-in_err-load-clause-result_value : goal.returns-in_err-load-clause-result_value
returns-in_err-load-clause-result_value c =
    let p = err_from_is_err_and c.from_residual.result c.from_residual.ensures.1 in
    rw (p.1, p.2) (term-refused c.args.vocabulary.now c.args.term.now _ c.in_err-load.ensures.answer)

pub returns-in_err-x-clause-term_promise : goal.returns-in_err-x-clause-term_promise
returns-in_err-x-clause-term_promise c =
    let a = c.args in
    let v = a.vocabulary.now in
    let accepted = (c.load.ensures.tables c.in_ok-load.was).accepted in
    let p = err_from_is_err_and c.from_residual-in_err-x.result c.from_residual-in_err-x.ensures.1 in
    rw (p.1, p.2) (term_promised v a.term.now _ (λ i. (c.type_inv.vocabulary i).fits) (λ i. (c.type_inv.term i).fits)
    (term-accepted v a.term.now (vocabulary_in v) accepted (told-refused (vocabulary_in v) a.term.now _ c.in_err-x.ensures)))

pub returns-in_err-x-clause-result_value : goal.returns-in_err-x-clause-result_value
returns-in_err-x-clause-result_value c =
    let a = c.args in
    let v = a.vocabulary.now in
    let accepted = (c.load.ensures.tables c.in_ok-load.was).accepted in
    let p = err_from_is_err_and c.from_residual-in_err-x.result c.from_residual-in_err-x.ensures.1 in
    rw (p.1, p.2) (term-accepted v a.term.now (vocabulary_in v) accepted (told-refused (vocabulary_in v) a.term.now _ c.in_err-x.ensures))

pub returns-clause-term_promise : goal.returns-clause-term_promise
returns-clause-term_promise c =
    let a = c.args in
    let v = a.vocabulary.now in
    let accepted = (c.load.ensures.tables c.in_ok-load.was).accepted in
    term_promised v a.term.now _ (λ i. (c.type_inv.vocabulary i).fits) (λ i. (c.type_inv.term i).fits)
    (term-accepted v a.term.now (vocabulary_in v) accepted (told-accepted (vocabulary_in v) a.term.now c.in_ok-x.x c.in_ok-x.ensures))

pub returns-clause-result_value : goal.returns-clause-result_value
returns-clause-result_value c =
    let a = c.args in
    let v = a.vocabulary.now in
    let accepted = (c.load.ensures.tables c.in_ok-load.was).accepted in
    term-accepted v a.term.now (vocabulary_in v) accepted (told-accepted (vocabulary_in v) a.term.now c.in_ok-x.x c.in_ok-x.ensures)
