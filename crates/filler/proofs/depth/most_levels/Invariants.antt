-- `filler::depth::most_levels` meets its contract. The loop's invariant: the entries before the index are looked at.
use Rattle.filler.proofs.Reach.{Reaching}
use Rattle.filler.proofs.depth.most_levels.Given as goal

abbrev pub invariant-loop-levels : goal.invariant-loop-levels
invariant-loop-levels l = Reaching l.depths l.most l.levels-index
