-- `complaints::put_other` meets its contract.
use native.Mathlib.Omega.{arith}
use Rattle.texts.specs.Lexemes.{token_at}
use Rattle.texts.specs.Complaints.{token_behind}
use Rattle.pages.proofs.Pages.{adds_is}
use Rattle.complaints.proofs.Told.{other-marked}
use Rattle.complaints.proofs.put_other.Goals as goal

pub returns-in_default : goal.returns-in_default
returns-in_default c = let s = c.args in
    adds_is (other-marked (token_at s.text.now s.at) (token_behind s.text.now s.at) s.why (λ e. omega arith) (λ e. omega arith) c.is_marked.ensures c.if-is_marked.true) c.put.ensures
