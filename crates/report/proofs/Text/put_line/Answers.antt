-- `report::Text::put_line` meets its contract.
use Rattle.report.proofs.Putting.{puts_is, puts_then}
use Rattle.report.proofs.Lines.{line_is}
use Rattle.report.proofs.Text.put_line.Goals as goal

pub returns : goal.returns
returns c =
    puts_is (line_is c.args.number c.args.entry.now) (puts_then c.put_number.ensures (puts_then c.put_hexadecimal.ensures c.put.ensures))
