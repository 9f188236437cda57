-- `sums::sum` meets its contract: each step leaves a remainder.
use Rattle.std.proofs.Common.{◌<◌, arith, rules}
use Rattle.std.proofs.lemmas.Fn.{chained_keeps}
use Rattle.examples.proofs.sums.sum.Goals as goal

pub returns : goal.returns
returns c =
    let ran = c.fold.ensures.ran in
    chained_keeps _ (λ xs q. q.1 < 65521) (λ xs q x v j k. search rules) ran.0 _ _ (omega arith) ran.3
