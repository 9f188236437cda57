-- `productive::inhabited` meets its contract.
use Rattle.productive.proofs.Searching.{sought}
use Rattle.productive.proofs.inhabited.Goals as goal

pub returns-then-kind-empty : goal.returns-then-kind-empty
returns-then-kind-empty c = sought _ _ _ _ c.told-settled c.if-kind-empty.true c.min.ensures c.has.ensures
