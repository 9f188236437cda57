-- `pheasantry::pheasantry_match` meets its contract.
use Rattle.pheasantry.proofs.Replies.{match_replied}
use Rattle.pheasantry.proofs.pheasantry_match.Goals as goal

pub returns-clause-cases : goal.returns-clause-cases
returns-clause-cases c = (match_replied c.match_pattern.result c.match_numbers.ensures (c.match_pattern.ensures.cases, c.match_pattern.ensures.has_effect)).0
