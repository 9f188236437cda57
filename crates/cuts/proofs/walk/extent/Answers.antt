-- `cuts::walk::extent` meets its contract.
use mathlib.Core.Path.{ap, ◌∙◌}
use Rattle.extents.specs.Extents.{term_size}
use Rattle.slices.proofs.Writing.{part_is}
use Rattle.cuts.specs.Cutting.{extent_at}
use Rattle.cuts.proofs.walk.extent.Goals as goal

pub returns : goal.returns
unfolding extent_at
returns c =
    let a = c.args in
    c.term_size.ensures ∙ ap term_size (part_is a.i a.bytes.now)
