-- `verdicts::put_spelled` meets its contract.
use Rattle.texts.specs.Lexemes.{token_at}
use Rattle.pages.proofs.Pages.{adds_then_is}
use Rattle.verdicts.proofs.Drawing.{spelled-some}
use Rattle.verdicts.proofs.put_spelled.Goals as goal

pub returns-then-is_spaced : goal.returns-then-is_spaced
returns-then-is_spaced c =
    adds_then_is c.put_name.ensures c.put.ensures (spelled-some c.args.ink (token_at c.args.text.now c.args.s) c.is_spaced.ensures c.if-is_spaced.true)
