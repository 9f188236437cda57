-- `sizes::measure` meets its contract.
use mathlib.Core.Path.{ap, ◌∙◌, subst}
use Prim.Native.Nat.{min}
use lib.ListN.{take}
use Rattle.wire.specs.Vocabulary.{most_words}
use Rattle.sizes.specs.Sizes.{Summed}
use Rattle.sizes.proofs.Measuring.{front_is}
use Rattle.sizes.proofs.measure.Goals as goal

pub returns : goal.returns
returns c =
    let p = c.args.p.now in
    subst (λ l. Summed (min c.args.words most_words) c.args.results.now l c.measure_front.result.entries c.measure_front.result.bytes)
    (ap (λ i. take i p) c.min-end.ensures ∙ front_is p)
    (subst (λ n. Summed n c.args.results.now (take c.min-end.result p) c.measure_front.result.entries c.measure_front.result.bytes)
    c.min.ensures c.measure_front.ensures)
