-- `lexicon::place_why` meets its contract.
use Rattle.lexicon.proofs.Whys.{spelt_long}
use Rattle.lexicon.proofs.place_why.Goals as goal

pub returns-then-end-at-gt32 : goal.returns-then-end-at-gt32
returns-then-end-at-gt32 c =
    spelt_long c.args.text.now c.args.at _ 9 c.is_identifier.ensures c.if-not-is_identifier.false c.end.ensures c.if-end-at-gt32.true
