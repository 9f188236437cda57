-- `maps::count` meets its contract.
use native.Mathlib.Omega.{arith}
use Rattle.wire.proofs.Map.{ones-count}
use Rattle.maps.proofs.count.Goals as goal

pub returns : goal.returns
returns c = ones-count c.args.map (omega arith)
