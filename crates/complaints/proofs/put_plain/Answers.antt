-- `complaints::put_plain` meets its contract: what stands in the tables is what the definitions have.
use mathlib.Core.Path.{◌≡◌, ap}
use lib.ListN.{get_or}
use mathlib.Core.List.{[]}
use Rattle.texts.specs.Lexemes.{token_at}
use Rattle.texts.specs.Complaints.{reasons, endings, token_then}
use Rattle.pages.proofs.Pages.{adds_is, adds_then}
use Rattle.complaints.proofs.put_plain.Goals as goal

pub returns : goal.returns
returns c = let s = c.args in
    let reason : c.message.result.now ≡ get_or reasons s.why [] = c.message.ensures in
    let ending : c.message-2.result.now ≡ get_or endings s.why [] = c.message-2.ensures in
    adds_then (adds_is reason c.put.ensures) (adds_is (ap (token_then (token_at s.text.now s.at)) ending) c.put_behind.ensures)
