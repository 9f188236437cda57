-- `report::print` meets its contract.
use Rattle.report.proofs.Reported.{prints}
use Rattle.report.proofs.print.Goals as goal

pub returns-clause-prints : goal.returns-clause-prints
returns-clause-prints c = (prints c.args.input.now (λ i. (c.type_inv.input i).fits) c.vocabulary.ensures c.pattern.ensures c.print_from.ensures).0
