-- `kinds::no_siblings` meets its contract.
use Rattle.kinds.proofs.Tabling.{cleared}
use Rattle.kinds.proofs.no_siblings.Goals as goal

pub returns : goal.returns
returns c = cleared (c.fill.ensures.after (λ y e. e))
