-- `lexicon::step_kind` meets its contract.
use mathlib.Core.Path.{refl}
use Rattle.std.specs.Prelude.{Some, None}
use Rattle.faults.proofs.Numbers.{reason-absent}
use Rattle.lexicon.proofs.step_kind.Goals as goal

pub returns-in-Some : goal.returns-in-Some
returns-in-Some c = record { reason = Some c.in-Some.why; number = c.in-Some.ensures; same = refl }

pub returns : goal.returns
returns c = record { reason = None; number = reason-absent _ _ c.name_why.ensures c.in_default.not-Some; same = refl }
