-- `books::list_book` meets its contract.
use mathlib.Core.Path.{refl}
use Rattle.books.proofs.Calls.{input_passed_on, turn_passed_on, inputs_refused, book_at, book_listed_lem, turn_refused_is}
use Rattle.books.proofs.list_book.Goals as goal

pub returns-in_err-missing : goal.returns-in_err-missing
returns-in_err-missing c =
    let a = c.args in
    rw (input_passed_on _ _ c.from_residual.ensures.1) (inputs_refused a.vocabulary.now a.book.now a.out.now
    (λ i. (c.type_inv.vocabulary i).fits) (λ i. (c.type_inv.book i).fits) _ c.in_err-missing.ensures.answer)

pub list_read-requires : goal.list_read-requires
list_read-requires c =
    let a = c.args in
    book_at a.vocabulary.now a.book.now a.out.now
    (λ i. (c.type_inv.vocabulary i).fits) (λ i. (c.type_inv.book i).fits)
    c.in_ok-missing.ensures.answer refl (c.in_ok-missing.ensures.settles _ refl)

pub returns-in_err-size : goal.returns-in_err-size
returns-in_err-size c =
    let a = c.args in
    rw (turn_passed_on _ _ c.from_residual-in_err-size.ensures.1) (book_listed_lem a.vocabulary.now a.book.now a.out.now
    (λ i. (c.type_inv.vocabulary i).fits) (λ i. (c.type_inv.book i).fits)
    c.in_ok-missing.ensures.answer refl (c.in_ok-missing.ensures.settles _ refl) (turn_refused_is _) c.in_err-size.ensures)

pub returns : goal.returns
returns c =
    let a = c.args in
    book_listed_lem a.vocabulary.now a.book.now a.out.now
    (λ i. (c.type_inv.vocabulary i).fits) (λ i. (c.type_inv.book i).fits)
    c.in_ok-missing.ensures.answer refl (c.in_ok-missing.ensures.settles _ refl) refl c.in_ok-size.ensures
