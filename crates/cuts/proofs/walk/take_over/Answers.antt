-- `cuts::walk::take_over` meets its contract.
use Rattle.cuts.proofs.Over.{extent_inside}
use Rattle.cuts.proofs.walk.take_over.Goals as goal

pub slice_bounds-copy-end : goal.slice_bounds-copy-end
slice_bounds-copy-end c = extent_inside c.args.entry.now c.args.w.entry c.requires.w_in_bounds c.extent-n.ensures
