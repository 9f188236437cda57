-- `namemaps::lowest_apart` meets its contract.
use native.Mathlib.Omega.{arith}
use Rattle.namemaps.proofs.Lowest.{lowest_bit}
use Rattle.namemaps.proofs.lowest_apart.Goals as goal

pub returns : goal.returns
returns c = lowest_bit c.args.a c.args.b (omega (arith, c.ranges.a.fits)) (omega (arith, c.ranges.b.fits)) c.requires
