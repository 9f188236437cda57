-- `marks::mark` meets its contract.
use mathlib.Core.Path.{sym, ap, ◌∙◌}
use lib.ListN.{take}
use Rattle.marks.specs.Marking.{mark_term, table_of}
use Rattle.wire.specs.TermBytes.{most_bytes}
use Rattle.extents.proofs.Extents.{front_is}
use Rattle.marks.proofs.mark.Goals as goal

pub returns : goal.returns
returns c =
    sym (ap table_of (sym (ap (λ l. mark_term 32 c.args.siblings.now l 0 c.args.marks.now) (ap (λ n. take n c.args.term.now) c.min-end.ensures ∙ front_is most_bytes c.args.term.now)) ∙ c.mark_term.ensures.same))
