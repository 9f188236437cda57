-- `verdicts::Tokens::skip_places` meets its contract.
use Rattle.verdicts.proofs.Skipping.{places_some}
use Rattle.verdicts.proofs.Tokens.skip_places.Goals as goal

pub returns : goal.returns
returns c = places_some c.args.self.now.text.now c.args.at c.args.self.now.end c.start-s.ensures c.stands.ensures c.if-not-stands.false c.is_mark.ensures c.if-not-is_mark.false c.end.ensures c.close.ensures
