-- `signature::read_kinds` meets its contract. The loop's invariant: the bytes passed are kinds. The measure is the number of kinds left.
use native.Mathlib.Omega.{arith}
use Rattle.signature.proofs.KindBytes.{kinds-read_whole, kinds_read_ends, kinds_read_unknown}
use Rattle.signature.proofs.read_kinds.Goals as goal

pub returns-then-v-at : goal.returns-then-v-at
returns-then-v-at c =
    let inv = c.loop-i.invariant in
    kinds_read_ends _ _ _ _ _ c.loop-i-test.true c.if-v-at.true inv.0 inv.1

pub returns-then-kinds-v : goal.returns-then-kinds-v
returns-then-kinds-v c =
    kinds_read_unknown _ _ _ _ _ c.loop-i-test.true c.if-v-at.false c.loop-i.invariant.1 c.if-kinds-v.true

pub returns : goal.returns
returns c = kinds-read_whole _ _ _ _ (omega arith) (λ j h. c.loop-i.invariant.1 j (omega arith))
