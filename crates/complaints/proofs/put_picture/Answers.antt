-- `complaints::put_picture` meets its contract.
use mathlib.Core.Path.{ap, ◌∙◌}
use lib.ListN.{take}
use Rattle.wire.specs.Row.{write_row}
use Rattle.texts.specs.Complaints.{shown}
use Rattle.pages.proofs.Pages.{adds_is, adds_then}
use Rattle.complaints.proofs.put_picture.Goals as goal

pub returns : goal.returns
returns c = let line = ap (write_row shown) (c.front.ensures ∙ ap (λ n. take n c.args.line.now) c.line_size.ensures) in
    adds_then c.put.ensures
    (adds_then (adds_is line c.put_row.ensures) (adds_then c.put-2.ensures (adds_then c.put_row-2.ensures c.put-3.ensures)))
