-- `lexer::token` meets its contract: its end lies in the text.
use Rattle.std.proofs.Common.{arith}
use Rattle.std.proofs.lemmas.Grind.{common_steps}
use Rattle.lexer.proofs.Tokens.{token-part}
use Rattle.texts.proofs.Scanning.{end-within, token_none}
use Rattle.lexer.proofs.token.Goals as goal

pub returns : goal.returns
returns c = grind (arith, common_steps, token-part, end-within, token_none)
