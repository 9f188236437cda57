-- `gatherings::append` meets its contract.
use native.Mathlib.Omega.{arith}
use Rattle.gatherings.proofs.Appending.{appended}
use Rattle.gatherings.proofs.append.Goals as goal

pub returns : goal.returns
returns c =
    let a = c.args in
    appended a.pattern.now a.n a.book.now a.at (omega (arith, c.told-pattern)) (omega arith) (omega arith) c.copy.ensures
