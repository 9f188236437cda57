-- `complement::list_pattern` meets its contract.
use Rattle.complement.proofs.Sifting.{none_missing, fruitful-listed, kind-listed}
use Rattle.complement.proofs.Calls.{pattern_repeated, pattern-linear}
use Rattle.complement.proofs.list_pattern.Goals as goal

pub returns-in-Some : goal.returns-in-Some
returns-in-Some c =
    λ h. pattern_repeated h c.args.out.now c.first_repeat.result c.first_repeat.ensures c.in-Some.q c.in-Some.is

pub returns-in-None-missing : goal.returns-in-None-missing
returns-in-None-missing c =
    λ h. pattern-linear h c.args.out.now c.first_repeat.result c.first_repeat.ensures c.in-None.is
    (fruitful-listed h (none_missing h c.in-None-missing.is) c.args.out.now c.list_linear.ensures)

pub returns-in-Some-missing : goal.returns-in-Some-missing
returns-in-Some-missing c =
    λ h. pattern-linear h c.args.out.now c.first_repeat.result c.first_repeat.ensures c.in-None.is
    (kind-listed c.in-Some-missing.is c.args.out.now c.list_settled.ensures h)
