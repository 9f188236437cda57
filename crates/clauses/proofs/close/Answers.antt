-- `clauses::close` meets its contract.
use mathlib.Core.Path.{sym, ◌∙◌}
use Rattle.clauses.proofs.AtPlaces.{closes_mark}
use Rattle.clauses.proofs.close.Goals as goal

pub returns : goal.returns
returns c = closes_mark c.args.text.now c.args.at c.args.i c.args.f c.args.to c.args.seen c.requires c.start-s.result c.start-s.ensures c.if-i-eq0.false c.end.result (sym c.is_mark.ensures ∙ c.if-not-is_mark.false) c.end.ensures
