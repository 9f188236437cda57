-- `lexicon::name_why` meets its contract.
use Rattle.faults.specs.Reasons.{number_of}
use Rattle.lexicon.proofs.Whys.{spelt_long}
use Rattle.lexicon.proofs.name_why.Goals as goal

pub returns-then-end-at-gt32 : goal.returns-then-end-at-gt32
returns-then-end-at-gt32 c =
    spelt_long c.args.text.now c.args.at _ (number_of c.args.due) c.is_identifier.ensures c.if-not-is_identifier.false c.end.ensures c.if-end-at-gt32.true
