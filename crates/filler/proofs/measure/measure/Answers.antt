-- `filler::measure::measure` meets its contract.
use Rattle.filler.proofs.Reach.{measurable_wider}
use Rattle.filler.proofs.measure.measure.Goals as goal

pub measure_bytes-requires : goal.measure_bytes-requires
measure_bytes-requires c =
    (_, measurable_wider c.requires c.if-reach-le32.true)

pub returns-then-reach-le32 : goal.returns-then-reach-le32
returns-then-reach-le32 c =
    λ a. c.measure_bytes.ensures _ (measurable_wider a c.if-reach-le32.true)

pub returns : goal.returns
returns c = λ a. c.measure_levels.ensures _ a
