-- `meetings::meet` meets its contract.
use mathlib.Core.Path.{sym, ap, ◌∙◌}
use Rattle.meetings.specs.Walking.{answer}
use Rattle.meetings.proofs.Coming.{front-meeting}
use Rattle.meetings.proofs.meet.Goals as goal

pub returns : goal.returns
returns c =
    sym (ap answer c.in_ok-end.was) ∙ front-meeting c.args.entry.now c.args.pattern.now c.args.marks.now c.min-e.result c.min-p.result c.min-e.ensures c.min-p.ensures c.meet_term.ensures.same

pub returns-in_err-end : goal.returns-in_err-end
returns-in_err-end c =
    c.from_residual.ensures ∙ sym (ap answer c.in_err-end.was) ∙ front-meeting c.args.entry.now c.args.pattern.now c.args.marks.now c.min-e.result c.min-p.result c.min-e.ensures c.min-p.ensures c.meet_term.ensures.same
