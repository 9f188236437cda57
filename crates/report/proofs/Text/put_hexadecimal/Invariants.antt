-- `report::Text::put_hexadecimal` meets its contract. The loop's invariant: of the digits, those of the bytes from its index on are still to be put.
use lib.ListN.{drop}
use Rattle.wire.specs.Text.{hexadecimal}
use Rattle.report.proofs.Putting.{Printing}
use Rattle.report.proofs.Text.put_hexadecimal.Given as goal

abbrev pub invariant-loop-b : goal.invariant-loop-b
invariant-loop-b l = Printing (hexadecimal l.bytes) (hexadecimal (drop l.b-index l.bytes)) l.initial.self l.self
