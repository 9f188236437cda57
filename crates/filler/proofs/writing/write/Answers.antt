-- `filler::writing::write` meets its contract. The loop's invariant: the nodes before the offset are written. The measure is the number of bytes left.
use native.Mathlib.Omega.{arith}
use lib.ListN.{get_or}
use Rattle.filler.proofs.Begun.{begun-kind, word_room, begun-word, name-room, begun-name, byte-room, begun-byte, begun_all}
use Rattle.filler.proofs.writing.write.Goals as goal

pub loop-i-init : goal.loop-i-init
loop-i-init c =
    begun-kind c.args.p.now c.args.b.now c.args.starts.now c.args.out.now c.requires

pub bounds-out-at : goal.bounds-out-at
bounds-out-at c =
    omega (arith, word_room c.loop-i.invariant c.loop-i-test.true c.if-c-lt128.true)

pub loop-i-preserved-then-c-lt128 : goal.loop-i-preserved-then-c-lt128
loop-i-preserved-then-c-lt128 c =
    begun-word c.loop-i.invariant c.loop-i-test.true c.if-c-lt128.true c.read.ensures c.write.ensures

pub put_value-requires : goal.put_value-requires
put_value-requires c =
    rw c.from-name.ensures (name-room c.loop-i.invariant c.loop-i-test.true c.requires.ready c.if-c-lt128.false c.if-c-lt192.true)

pub overflow_sub-n : goal.overflow_sub-n
overflow_sub-n c =
    rw c.from-name.ensures (name-room c.loop-i.invariant c.loop-i-test.true c.requires.ready c.if-c-lt128.false c.if-c-lt192.true).up

pub loop-i-preserved-then-c-lt192 : goal.loop-i-preserved-then-c-lt192
loop-i-preserved-then-c-lt192 c =
    rw c.from-name.ensures (begun-name c.loop-i.invariant c.loop-i-test.true c.requires.ready c.if-c-lt128.false c.if-c-lt192.true (rw c.from-name.ensures at c.put_value.ensures))

pub bounds-out-at-else-c-lt192 : goal.bounds-out-at-else-c-lt192
bounds-out-at-else-c-lt192 c =
    omega (arith, byte-room c.loop-i.invariant c.loop-i-test.true c.if-c-lt192.false)

pub loop-i-preserved : goal.loop-i-preserved
loop-i-preserved c =
    begun-byte c.loop-i.invariant c.loop-i-test.true c.if-c-lt192.false

pub returns : goal.returns
returns c =
    begun_all c.args.out.now (get_or c.args.p.now 0 0) c.loop-i.invariant c.loop-i-test.false
