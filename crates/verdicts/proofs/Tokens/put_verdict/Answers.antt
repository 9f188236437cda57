-- `verdicts::Tokens::put_verdict` meets its contract.
use Rattle.texts.specs.Lexemes.{token_at}
use Rattle.pages.proofs.Pages.{adds_then_is}
use Rattle.verdicts.proofs.Covering.{fits-text}
use Rattle.verdicts.proofs.Tokens.put_verdict.Goals as goal

pub returns-in-None : goal.returns-in-None
returns-in-None c =
    adds_then_is c.put.ensures c.put_covers.ensures (fits-text c.args.self.now.text.now c.args.from c.args.at c.args.self.now.end (token_at c.args.self.now.text.now c.args.label) c.in-None.ensures)
