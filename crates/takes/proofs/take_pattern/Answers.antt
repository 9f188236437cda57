-- `takes::take_pattern` meets its contract.
use mathlib.Core.Path.{sym, ◌∙◌}
use Rattle.takes.proofs.Taking.{struck_taken, left_taken}
use Rattle.takes.proofs.take_pattern.Goals as goal

pub returns-then-is_fruitful : goal.returns-then-is_fruitful
returns-then-is_fruitful c =
    struck_taken c.args.to.now _ c.strike.result
    (sym c.is_fruitful.ensures ∙ c.if-is_fruitful.true) c.strike.ensures

pub returns : goal.returns
returns c =
    left_taken c.args.to.now _ c.leave.result
    (sym c.is_fruitful.ensures ∙ c.if-is_fruitful.false) c.leave.ensures
