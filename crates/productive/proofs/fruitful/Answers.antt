-- `productive::fruitful` meets its contract. The loop's invariant: the bytes from the offset on decide. The measure is the number of bytes left.
use mathlib.Core.Path.{refl}
use native.Mathlib.Omega.{arith}
use Rattle.productive.proofs.Passing.{left_word, left_other, left_barren, left-all}
use Rattle.productive.proofs.fruitful.Goals as goal

pub returns-then-settled-f : goal.returns-then-settled-f
returns-then-settled-f c =
    let end = c.min-end.ensures in
    let count = c.min-n.ensures in
    let inside = c.loop-at-test.true in
    let low = c.if-f-n.true in
    left_barren c.loop-at.invariant (omega arith) refl (omega arith) refl c.if-settled-f.true

pub loop-at-preserved-then-f-n : goal.loop-at-preserved-then-f-n
loop-at-preserved-then-f-n c =
    let end = c.min-end.ensures in
    let count = c.min-n.ensures in
    let inside = c.loop-at-test.true in
    let low = c.if-f-n.true in
    left_word c.loop-at.invariant (omega arith) refl (omega arith) refl c.if-settled-f.false

pub loop-at-preserved : goal.loop-at-preserved
loop-at-preserved c =
    let end = c.min-end.ensures in
    let count = c.min-n.ensures in
    let inside = c.loop-at-test.true in
    let high = c.if-f-n.false in
    left_other c.loop-at.invariant (omega arith) refl (omega arith)

pub returns : goal.returns
returns c =
    let end = c.min-end.ensures in
    let passed = c.loop-at-test.false in
    left-all c.loop-at.invariant (omega arith)
