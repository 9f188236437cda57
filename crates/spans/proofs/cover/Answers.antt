-- `spans::cover` meets its contract.
use mathlib.Core.Path.{sym, ◌∙◌}
use Rattle.spans.proofs.Parts.{covered_broken}
use Rattle.spans.proofs.cover.Goals as goal

pub returns-then-s-end : goal.returns-then-s-end
returns-then-s-end c =
    covered_broken _ _ _ _ _ (sym c.from-n.ensures ∙ c.if-n-eq0.true) c.if-s-end.true c.end_of-end.ensures.1
