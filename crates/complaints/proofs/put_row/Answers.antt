-- `complaints::put_row` meets its contract.
use mathlib.Core.Path.{ap}
use lib.ListN.{drop_of_length-le}
use Rattle.wire.specs.Row.{write_row}
use Rattle.complaints.specs.Parts.{drawn}
use Rattle.pages.proofs.Turns.{left_turn, left_end}
use Rattle.complaints.proofs.Drawing.{row_turn}
use Rattle.complaints.proofs.put_row.Goals as goal

pub loop-b-preserved : goal.loop-b-preserved
loop-b-preserved c = left_turn c.loop-b.invariant (row_turn (drawn c.args.row) c.args.part.now c.loop-b.b-index c.loop-b-test.true) c.put_seen.ensures

pub returns : goal.returns
returns c = left_end c.loop-b.invariant (ap (write_row (drawn c.args.row)) (drop_of_length-le c.args.part.now c.loop-b-test.false))
