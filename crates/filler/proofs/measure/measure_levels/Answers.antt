-- `filler::measure::measure_levels` meets its contract. The loop's invariant: what the nodes from the offset on give is still to be measured. The measure is twice the number of bytes left, and the words above.
use borrow.Author.Rules.{rules}
use mathlib.Core.Path.{sym, ap, ◌∙◌}
use Prim.Native.Nat.{◌-◌}
use native.Mathlib.Omega.{arith}
use lib.ListN.{get_or}
use Rattle.filler.proofs.Starts.{starts-up}
use Rattle.filler.proofs.Counting.{short}
use Rattle.filler.proofs.Measuring.{measuring_none, measuring_above, measuring_pop, measuring_low, measuring_leaf, measuring_word, measuring_large, measuring_deep, measuring_name, measuring_byte, measuring_long, measuring_all}
use Rattle.wire.specs.Map.{flags, ones}
use Rattle.filler.proofs.measure.measure_levels.Goals as goal

pub loop-i-init : goal.loop-i-init
loop-i-init c = λ reach a. measuring_none a

pub overflow_sub-depth : goal.overflow_sub-depth
overflow_sub-depth c =
    measuring_above c.requires.1 (c.loop-i.invariant c.requires.0 c.requires.1) c.loop-i-test.true c.if-left-eq0.true

pub bounds-due-depth : goal.bounds-due-depth
bounds-due-depth c =
    omega (arith, (c.loop-i.invariant c.requires.0 c.requires.1).room, (c.loop-i.invariant c.requires.0 c.requires.1).low, measuring_above c.requires.1 (c.loop-i.invariant c.requires.0 c.requires.1) c.loop-i-test.true c.if-left-eq0.true)

pub loop-i-smaller-then-left-eq0 : goal.loop-i-smaller-then-left-eq0
loop-i-smaller-then-left-eq0 c =
    omega (arith, measuring_above c.requires.1 (c.loop-i.invariant c.requires.0 c.requires.1) c.loop-i-test.true c.if-left-eq0.true)

pub loop-i-preserved-then-left-eq0 : goal.loop-i-preserved-then-left-eq0
loop-i-preserved-then-left-eq0 c =
    λ reach a. measuring_pop a (c.loop-i.invariant reach a) c.loop-i-test.true c.if-left-eq0.true

pub overflow_add-n : goal.overflow_add-n
overflow_add-n c =
    let few = (c.loop-i.invariant c.requires.0 c.requires.1).counted.few in
    let most = short c.requires.1.ready in
    search rules

pub bounds-due-depth-then-map-ne0 : goal.bounds-due-depth-then-map-ne0
bounds-due-depth-then-map-ne0 c =
    omega (arith, (c.loop-i.invariant c.requires.0 c.requires.1).room, measuring_low c.requires.1 (c.loop-i.invariant c.requires.0 c.requires.1) c.loop-i-test.true (omega (arith, c.if-left-eq0.false)) c.if-c-lt128.true)

pub overflow_add-depth : goal.overflow_add-depth
overflow_add-depth c =
    let low = measuring_low c.requires.1 (c.loop-i.invariant c.requires.0 c.requires.1) c.loop-i-test.true (omega (arith, c.if-left-eq0.false)) c.if-c-lt128.true in
    search rules

pub loop-i-preserved-then-map-ne0 : goal.loop-i-preserved-then-map-ne0
loop-i-preserved-then-map-ne0 c =
    λ reach a. measuring_word a (c.loop-i.invariant reach a) c.loop-i-test.true (omega (arith, c.if-left-eq0.false)) c.if-c-lt128.true (c.count-left.ensures ∙ ap (λ m. ones (flags m)) c.read-map.ensures)

pub loop-i-preserved-else-map-ne0 : goal.loop-i-preserved-else-map-ne0
loop-i-preserved-else-map-ne0 c =
    λ reach a. measuring_leaf a (c.loop-i.invariant reach a) c.loop-i-test.true (omega (arith, c.if-left-eq0.false)) c.if-c-lt128.true (sym c.read-map.ensures ∙ c.if-map-ne0.false)

pub overflow_sub-size : goal.overflow_sub-size
overflow_sub-size c =
    rw c.from-name.ensures (starts-up c.requires.1.ready (get_or c.args.p.now c.loop-i.i 0 - 128) (omega (arith, c.if-c-lt128.false, c.if-c-lt192.true)))

pub returns-then-size-gt4096 : goal.returns-then-size-gt4096
returns-then-size-gt4096 c =
    λ reach a. measuring_large a (c.loop-i.invariant reach a) c.loop-i-test.true (omega (arith, c.if-left-eq0.false)) c.if-c-lt128.false c.if-c-lt192.true (rw c.from-name.ensures at c.if-size-gt4096.true)

pub overflow_add-depth-then-c-lt192 : goal.overflow_add-depth-then-c-lt192
overflow_add-depth-then-c-lt192 c =
    let low = (c.loop-i.invariant c.requires.0 c.requires.1).low in
    search rules

pub returns-then-depth-from-gt32 : goal.returns-then-depth-from-gt32
returns-then-depth-from-gt32 c =
    λ reach a. measuring_deep a (c.loop-i.invariant reach a) c.loop-i-test.true (omega (arith, c.if-left-eq0.false)) c.if-c-lt128.false c.if-c-lt192.true (omega (arith, c.if-depth-from-gt32.true, rw c.from-name.ensures at c.from.ensures))

pub overflow_add-n-then-c-lt192 : goal.overflow_add-n-then-c-lt192
overflow_add-n-then-c-lt192 c =
    let few = (c.loop-i.invariant c.requires.0 c.requires.1).counted.few in
    let most = short c.requires.1.ready in
    search rules

pub loop-i-preserved-then-c-lt192 : goal.loop-i-preserved-then-c-lt192
loop-i-preserved-then-c-lt192 c =
    rw c.from-name.ensures (λ reach a. measuring_name a (c.loop-i.invariant reach a) c.loop-i-test.true (omega (arith, c.if-left-eq0.false)) c.if-c-lt128.false c.if-c-lt192.true (rw c.from-name.ensures at c.if-size-gt4096.false) (omega (arith, c.if-depth-from-gt32.false, rw c.from-name.ensures at c.from.ensures)))

pub overflow_add-n-else-c-lt192 : goal.overflow_add-n-else-c-lt192
overflow_add-n-else-c-lt192 c =
    let few = (c.loop-i.invariant c.requires.0 c.requires.1).counted.few in
    let most = short c.requires.1.ready in
    search rules

pub loop-i-preserved : goal.loop-i-preserved
loop-i-preserved c =
    λ reach a. measuring_byte a (c.loop-i.invariant reach a) c.loop-i-test.true (omega (arith, c.if-left-eq0.false)) c.if-c-lt192.false

pub returns-then-n-gt4096 : goal.returns-then-n-gt4096
returns-then-n-gt4096 c =
    λ reach a. measuring_long a (c.loop-i.invariant reach a) c.loop-i-test.false c.if-n-gt4096.true

pub returns : goal.returns
returns c =
    λ reach a. measuring_all a (c.loop-i.invariant reach a) c.loop-i-test.false c.if-n-gt4096.false
