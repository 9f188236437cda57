-- `extents::passed` meets its contract.
use Rattle.wire.proofs.Ones.{lowest_falls}
use Rattle.extents.proofs.passed.Goals as goal

pub returns : goal.returns
returns c = lowest_falls _ c.requires
