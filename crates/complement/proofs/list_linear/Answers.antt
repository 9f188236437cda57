-- `complement::list_linear` meets its contract.
use Rattle.complement.proofs.Linear.{linear-no_room, linear_none, linear-room, linear-written}
use Rattle.complement.proofs.list_linear.Goals as goal

pub returns-then-out-size : goal.returns-then-out-size
returns-then-out-size c = λ h. linear-no_room h c.measure-size.ensures c.args.out.now c.if-out-size.true

pub list_copied-requires-clause-has_room : goal.list_copied-requires-clause-has_room
list_copied-requires-clause-has_room c = λ h. linear-room h c.measure-size.ensures c.args.out.now c.if-out-size.false c.if-size-ne0.true

pub returns-then-size-ne0 : goal.returns-then-size-ne0
returns-then-size-ne0 c =
    λ h. linear-written h c.measure-size.ensures c.args.out.now c.if-out-size.false (c.list_copied.ensures h)

pub returns-else-size-ne0 : goal.returns-else-size-ne0
returns-else-size-ne0 c =
    λ h. linear_none h c.measure-size.ensures c.args.out.now c.if-out-size.false c.if-size-ne0.false
