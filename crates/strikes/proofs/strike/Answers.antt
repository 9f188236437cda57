-- `strikes::strike` meets its contract.
use Rattle.strikes.proofs.Marking.{noted_struck}
use Rattle.strikes.proofs.strike.Goals as goal

pub returns : goal.returns
returns c =
    λ h room. noted_struck h c.args.marks.now _ room c.mark.ensures c.args.out.now _ c.strike_area.result c.strike_area.ensures
