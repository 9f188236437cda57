-- `complaints::put_row` meets its contract.
use lib.ListN.{drop}
use Rattle.wire.specs.Row.{write_row}
use Rattle.complaints.specs.Parts.{drawn}
use Rattle.pages.proofs.Turns.{Left}
use Rattle.complaints.proofs.put_row.Given as goal

abbrev pub invariant-loop-b : goal.invariant-loop-b
invariant-loop-b l =
    Left l.initial.page.bytes l.initial.page.end l.page.bytes l.page.end (write_row (drawn l.row) (drop l.b-index l.part)) (write_row (drawn l.row) l.part)
