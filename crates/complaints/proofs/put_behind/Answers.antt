-- `complaints::put_behind` meets its contract.
use Rattle.std.proofs.Common.{◌≡◌, length, rules, tests}
use Rattle.texts.specs.Lexemes.{token_at}
use Rattle.pages.proofs.Pages.{adds_is, adds_then}
use Rattle.complaints.proofs.Said.{then_some}
use Rattle.complaints.proofs.put_behind.Goals as goal

pub returns : goal.returns
returns c = let s = c.args in
    let some : length s.ending.now ≡ 0 → ⊥ = search (rules, tests) in
    adds_is (then_some (token_at s.text.now s.at) s.ending.now some) (adds_then c.put_token.ensures c.put.ensures)
