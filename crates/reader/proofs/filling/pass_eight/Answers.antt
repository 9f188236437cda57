-- `reader::filling::pass_eight` meets its contract.
use native.Mathlib.Omega.{arith}
use Rattle.reader.proofs.Skipping.{starts_filled}
use Rattle.reader.proofs.filling.pass_eight.Goals as goal

pub returns : goal.returns
returns c = let a = c.args in starts_filled a.starts.now _ a.n a.at _ (omega (arith, c.told-starts)) (c.fill.ensures.after (λ y e. e)) (omega arith)
