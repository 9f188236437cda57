-- `dues::places_of` meets its contract.
use native.Mathlib.Omega.{arith}
use Rattle.dues.proofs.Tables.{places-here, places_none}
use Rattle.dues.proofs.places_of.Goals as goal

pub returns-then-i-min : goal.returns-then-i-min
returns-then-i-min c = places-here c.args.records.now c.args.n c.args.i (omega arith) c.min-then-i-min.ensures

pub returns-else-i-min : goal.returns-else-i-min
returns-else-i-min c = places_none c.args.records.now c.args.n c.args.i (omega arith) (omega arith)
