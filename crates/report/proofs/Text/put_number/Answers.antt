-- `report::Text::put_number` meets its contract.
use mathlib.Core.List.{[], ◌∷◌}
use Rattle.wire.specs.Text.{decimal}
use Rattle.pages.proofs.Digits.{number_is}
use Rattle.report.proofs.Putting.{puts_is, puts_then, room_is, first-room, rest-room}
use Rattle.report.proofs.Text.put_number.Goals as goal

pub put-requires : goal.put-requires
put-requires c =
    room_is c.args.self.now (number_is _ _ _ c.decimal-k.ensures.len c.decimal-k.ensures.digits)
    (first-room c.args.self.now (decimal c.args.n) (c.args.behind ∷ []) c.requires)

pub put-requires-2 : goal.put-requires-2
put-requires-2 c =
    rest-room (puts_is (number_is _ _ _ c.decimal-k.ensures.len c.decimal-k.ensures.digits) c.put.ensures) (c.args.behind ∷ []) c.requires

pub returns : goal.returns
returns c =
    puts_then (puts_is (number_is _ _ _ c.decimal-k.ensures.len c.decimal-k.ensures.digits) c.put.ensures) c.put-2.ensures
