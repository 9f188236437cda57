-- `reader::filling::read_values` meets its contract.
use mathlib.Core.Path.{refl}
use lib.ListN.{get_or-replicate}
use Rattle.reader.proofs.Tables.{in_order}
use Rattle.reader.proofs.Tabling.{values_none, values-more, values-fault, values_continue, values-all}
use Rattle.reader.proofs.Skipping.{values_skip}
use Rattle.reader.proofs.filling.read_values.Goals as goal

pub loop-n-init : goal.loop-n-init
loop-n-init c = values_none c.requires.in_bounds refl refl refl (λ m h. get_or-replicate 64 m 0 0 h)

pub loop-n-preserved-then-skips : goal.loop-n-preserved-then-skips
loop-n-preserved-then-skips c = values_skip c.loop-n.invariant c.requires.difference_at c.loop-n-test.true c.skips.ensures c.if-skips.true c.pass_eight.ensures

pub returns-in-Err : goal.returns-in-Err
returns-in-Err c = values-fault (in_order c.args.w.tables c.args.w.bytes) c.loop-n.invariant c.loop-n-test.true c.read_entry.ensures c.in-Err.is

pub loop-n-preserved : goal.loop-n-preserved
loop-n-preserved c = values-more (in_order c.args.w.tables c.args.w.bytes) c.loop-n.invariant c.loop-n-test.true c.read_entry.ensures c.in-Ok.is

pub returns-then-at-b : goal.returns-then-at-b
returns-then-at-b c = values_continue c.loop-n.invariant c.loop-n-test.false c.if-at-b.true

pub returns : goal.returns
returns c = values-all c.loop-n.invariant c.loop-n-test.false c.if-at-b.false
