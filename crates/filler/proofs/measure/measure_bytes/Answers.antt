-- `filler::measure::measure_bytes` meets its contract. The loop's invariant: the nodes before the offset are counted. The measure is the number of bytes left.
use borrow.Author.Rules.{rules}
use Prim.Native.Nat.{◌-◌}
use native.Mathlib.Omega.{arith}
use lib.ListN.{get_or}
use Rattle.filler.proofs.Starts.{starts-up}
use Rattle.filler.proofs.Counting.{short, counted_none, counted-word, counted-large, counted-name, counted-byte, too_long, counted-over, counted-whole}
use Rattle.filler.proofs.measure.measure_bytes.Goals as goal

pub loop-i-init : goal.loop-i-init
loop-i-init c = λ depths a. counted_none a.ready

pub overflow_add-n : goal.overflow_add-n
overflow_add-n c =
    let few = (c.loop-i.invariant c.requires.0 c.requires.1).few in
    let most = short c.requires.1.ready in
    search rules

pub loop-i-preserved-then-c-lt128 : goal.loop-i-preserved-then-c-lt128
loop-i-preserved-then-c-lt128 c =
    λ depths a. counted-word a.ready (c.loop-i.invariant depths a) c.loop-i-test.true c.if-c-lt128.true

pub overflow_sub-size : goal.overflow_sub-size
overflow_sub-size c =
    rw c.from-name.ensures (starts-up c.requires.1.ready (get_or c.args.p.now c.loop-i.i 0 - 128) (omega (arith, c.if-c-lt128.false, c.if-c-lt192.true)))

pub returns-then-size-gt4096 : goal.returns-then-size-gt4096
returns-then-size-gt4096 c =
    λ depths a. too_long a (counted-large a.ready (c.loop-i.invariant depths a) c.loop-i-test.true c.if-c-lt128.false c.if-c-lt192.true (rw c.from-name.ensures at c.if-size-gt4096.true))

pub overflow_add-n-then-c-lt192 : goal.overflow_add-n-then-c-lt192
overflow_add-n-then-c-lt192 c =
    let few = (c.loop-i.invariant c.requires.0 c.requires.1).few in
    let most = short c.requires.1.ready in
    search rules

pub loop-i-preserved-then-c-lt192 : goal.loop-i-preserved-then-c-lt192
loop-i-preserved-then-c-lt192 c =
    rw c.from-name.ensures (λ depths a. counted-name a.ready (c.loop-i.invariant depths a) c.loop-i-test.true c.if-c-lt128.false c.if-c-lt192.true (rw c.from-name.ensures at c.if-size-gt4096.false))

pub overflow_add-n-else-c-lt192 : goal.overflow_add-n-else-c-lt192
overflow_add-n-else-c-lt192 c =
    let few = (c.loop-i.invariant c.requires.0 c.requires.1).few in
    let most = short c.requires.1.ready in
    search rules

pub loop-i-preserved : goal.loop-i-preserved
loop-i-preserved c =
    λ depths a. counted-byte a.ready (c.loop-i.invariant depths a) c.loop-i-test.true c.if-c-lt192.false

pub returns-then-n-gt4096 : goal.returns-then-n-gt4096
returns-then-n-gt4096 c =
    λ depths a. counted-over a (c.loop-i.invariant depths a) c.loop-i-test.false c.if-n-gt4096.true

pub returns : goal.returns
returns c =
    λ depths a. counted-whole a (c.loop-i.invariant depths a) c.loop-i-test.false c.if-n-gt4096.false a.within
