-- `extents::term_size` meets its contract.
use mathlib.Core.Path.{ap, ◌∙◌}
use lib.ListN.{take}
use Rattle.wire.specs.EntryCut.{due_size}
use Rattle.extents.specs.Extents.{most_extent}
use Rattle.extents.proofs.Extents.{front_is}
use Rattle.extents.proofs.term_size.Goals as goal

pub returns : goal.returns
returns c =
    let bytes = c.args.bytes.now in
    c.front_size.ensures ∙ ap (λ l. due_size l 1) (ap (λ n. take n bytes) c.min.ensures ∙ front_is most_extent bytes)
