-- `verdicts::Tokens::put_no` meets its contract.
use Rattle.texts.specs.Lexemes.{token_at}
use Rattle.pages.proofs.Pages.{adds_is, adds_then}
use Rattle.verdicts.specs.Steps.{tokens_in}
use Rattle.verdicts.proofs.Drawing.{no_text_lem}
use Rattle.verdicts.proofs.Tokens.put_no.Goals as goal

pub returns : goal.returns
returns c = let text = c.args.self.now.text.now in
    adds_is (no_text_lem (token_at text c.args.label) (tokens_in text c.args.at c.args.difference.here) (token_at text c.args.difference.due))
    (adds_then c.put.ensures (adds_then c.put_name.ensures (adds_then c.put-2.ensures (adds_then c.put_tokens.ensures (adds_then c.put-3.ensures (adds_then c.put_token.ensures c.put-4.ensures))))))
