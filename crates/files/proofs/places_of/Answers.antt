-- `files::places_of` meets its contract.
use mathlib.Core.Path.{refl}
use Rattle.files.proofs.Placing.{placed_turn, placed-all}
use Rattle.files.proofs.places_of.Goals as goal

pub loop-f-preserved : goal.loop-f-preserved
loop-f-preserved c = placed_turn c.loop-f.invariant c.loop-f-test.true refl

pub returns : goal.returns
returns c = placed-all c.loop-f.invariant c.loop-f-test.false
