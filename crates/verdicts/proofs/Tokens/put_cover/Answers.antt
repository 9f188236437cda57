-- `verdicts::Tokens::put_cover` meets its contract.
use Rattle.texts.specs.Lexemes.{token_at}
use Rattle.pages.proofs.Pages.{adds_is, adds_then}
use Rattle.verdicts.specs.Steps.{tokens_in}
use Rattle.verdicts.proofs.Covering.{cover_some}
use Rattle.verdicts.proofs.Tokens.put_cover.Goals as goal

pub returns : goal.returns
returns c = let text = c.args.self.now.text.now in
    adds_is (cover_some (token_at text c.args.due) (tokens_in text c.args.from c.args.self.now.end) c.is_variable.ensures c.if-not-is_variable.false)
    (adds_then c.put.ensures (adds_then c.put_token.ensures (adds_then c.put-2.ensures (adds_then c.put_tokens.ensures c.put-3.ensures))))
