-- `report::Text::put_listing` meets its contract.
use mathlib.Core.List.{◌++◌}
use Rattle.wire.specs.Text.{newline, decimal}
use Rattle.wire.specs.Printing.{entry_lines}
use Rattle.wire.specs.EntryCut.{cut_entries}
use Rattle.report.proofs.Putting.{puts_is, puts_then, room_is, first-room, rest-room}
use Rattle.report.proofs.Lines.{listing_is}
use Rattle.report.proofs.Text.put_listing.Goals as goal

pub put_number-requires : goal.put_number-requires
put_number-requires c =
    first-room c.put.new.self (decimal c.args.n ++ newline) (entry_lines 1 (cut_entries c.args.n c.args.listing.now))
    (rest-room c.put.ensures _ (room_is c.args.self.now (listing_is c.args.n c.args.listing.now) c.requires))

pub put_lines-requires : goal.put_lines-requires
put_lines-requires c =
    rest-room c.put_number.ensures _ (rest-room c.put.ensures _ (room_is c.args.self.now (listing_is c.args.n c.args.listing.now) c.requires))

pub returns : goal.returns
returns c =
    puts_is (listing_is c.args.n c.args.listing.now) (puts_then c.put.ensures (puts_then c.put_number.ensures c.put_lines.ensures))
