-- `report::Text::put_lines` meets its contract.
use native.Mathlib.Omega.{arith}
use Rattle.wire.proofs.EntryCut.{entry-within}
use Rattle.report.proofs.Putting.{printing_next, printing_turn}
use Rattle.report.proofs.Lines.{lines-next}
use Rattle.report.proofs.Text.put_lines.Goals as goal

pub split_at-requires : goal.split_at-requires
split_at-requires c = omega (arith, entry-within c.loop-i.rest.now, c.entry_size.ensures)

pub put_line-requires : goal.put_line-requires
put_line-requires c =
    printing_next c.loop-i.invariant _ _ (lines-next c.args.n c.loop-i.i c.loop-i-test.true c.loop-i.rest.now c.entry_size.ensures c.split_at.ensures.front c.split_at.ensures.back)

pub loop-i-preserved : goal.loop-i-preserved
loop-i-preserved c =
    printing_turn c.loop-i.invariant
    (lines-next c.args.n c.loop-i.i c.loop-i-test.true c.loop-i.rest.now c.entry_size.ensures c.split_at.ensures.front c.split_at.ensures.back)
    c.put_line.ensures
