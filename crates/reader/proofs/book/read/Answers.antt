-- `reader::book::read` meets its contract. The loop's invariant: reading on gives the reply of the book.
use mathlib.Core.Path.{◌≡◌, subst}
use Prim.Native.Nat.{◌-◌, ◌+◌}
use native.Mathlib.Omega.{arith}
use Rattle.signature.specs.Tables.{vocabulary_in}
use Rattle.std.proofs.lemmas.Result.{err_from_is_err_and}
use Rattle.reader.specs.Books.{count_of}
use Rattle.reader.proofs.Books.{BookTo, book_begins, book_turn, book_stops, book_continues, book_ends}
use Rattle.reader.proofs.book.read.Goals as goal

pub loop-i-init : goal.loop-i-init
loop-i-init c =
    let a = c.args in
    let counted = c.in-Some.ensures in
    let other : count_of a.b.now ≡ 0 → ⊥ = λ e. omega (arith, counted.0, counted.1, e) in
    let e : count_of a.b.now ≡ c.in-Some.patterns - 0 = omega (arith, counted.0) in
    subst (λ n. BookTo (vocabulary_in a.w.v.now) a.b.now n 1) e (book_begins (vocabulary_in a.w.v.now) a.b.now other)

pub returns-in_err-at : goal.returns-in_err-at
returns-in_err-at c =
    let p = err_from_is_err_and c.from_residual.result c.from_residual.ensures.1 in
    rw (p.1, p.2) (book_stops c.loop-i.invariant (omega (arith, c.loop-i-test.true)) c.in_err-at.ensures)

pub loop-i-preserved : goal.loop-i-preserved
loop-i-preserved c =
    let a = c.args in
    let e : c.in-Some.patterns - c.loop-i._i - 1 ≡ c.in-Some.patterns - (c.loop-i._i + 1) = omega arith in
    subst (λ n. BookTo (vocabulary_in a.w.v.now) a.b.now n c.in_ok-at.at) e (book_turn c.loop-i.invariant (omega (arith, c.loop-i-test.true)) c.in_ok-at.ensures)

pub returns-then-at-b : goal.returns-then-at-b
returns-then-at-b c = book_continues c.loop-i.invariant (omega (arith, c.loop-i-test.false)) c.if-at-b.true

pub returns : goal.returns
returns c = book_ends c.loop-i.invariant (omega (arith, c.loop-i-test.false)) c.if-at-b.false
