-- `lexer::same_token` meets its contract.
use Rattle.std.proofs.Common.{ap₂, ◌∙◌}
use Rattle.texts.specs.Names.{same}
use Rattle.lexer.proofs.Tokens.{equal_same}
use Rattle.lexer.proofs.same_token.Goals as goal

pub returns : goal.returns
returns c = equal_same _ _ _ c.equal.ensures ∙ ap₂ same c.token.ensures c.token-2.ensures
