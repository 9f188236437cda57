-- `lexicon::step` meets its contract.
use Rattle.lexicon.proofs.Steps.{kind-step, unstored, mark-step, in_stage}
use Rattle.lexicon.proofs.step.Goals as goal

pub returns-in-AtKind : goal.returns-in-AtKind
returns-in-AtKind c =
    in_stage c.in-AtKind.is (kind-step c.args.text.now c.args.c c.args.at c.requires.tables c.args.kinds.now c.args.k c.requires.at_le_most_text.2 c.step_kind.ensures)

pub returns-in_default : goal.returns-in_default
returns-in_default c =
    mark-step c.args.text.now c.args.c c.args.at c.requires.tables _ c.args.stage (unstored _ c.in_default.not-AtKind c.in_default.not-AtWord c.in_default.not-AtPlace) c.step_mark.ensures
