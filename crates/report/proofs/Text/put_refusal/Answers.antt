-- `report::Text::put_refusal` meets its contract.
use Rattle.report.proofs.Putting.{puts_is, puts_then}
use Rattle.report.proofs.Lines.{refusal_is}
use Rattle.report.proofs.Text.put_refusal.Goals as goal

pub returns : goal.returns
returns c =
    puts_is (refusal_is c.args.line c.args.input c.args.place)
    (puts_then c.put.ensures (puts_then c.put_number.ensures (puts_then c.put_number-2.ensures c.put_number-3.ensures)))
