-- `complaints::put_place` meets its contract.
use mathlib.Core.Path.{ap}
use Rattle.wire.specs.Text.{decimal}
use Rattle.pages.proofs.Pages.{adds_is, adds_then}
use Rattle.complaints.proofs.put_place.Goals as goal

pub returns : goal.returns
returns c =
    adds_then c.put.ensures
    (adds_then (adds_is (ap decimal c.line_number.ensures) c.put_number.ensures)
    (adds_then c.put-2.ensures (adds_then (adds_is (ap decimal c.column.ensures) c.put_number-2.ensures) c.put-3.ensures)))
