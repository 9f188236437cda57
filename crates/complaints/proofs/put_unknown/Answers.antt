-- `complaints::put_unknown` meets its contract.
use Rattle.texts.specs.Lexemes.{token_at}
use Rattle.pages.proofs.Pages.{adds_is, adds_then}
use Rattle.complaints.proofs.Told.{behind_is, unknown_question, unknown-blank, unknown-plain}
use Rattle.complaints.proofs.put_unknown.Goals as goal

pub returns-then-is_mark : goal.returns-then-is_mark
returns-then-is_mark c = let s = c.args in
    adds_is (unknown_question (token_at s.text.now s.at) (behind_is s.text.now s.at c.end.ensures c.start-behind.ensures) c.is_mark.ensures c.if-is_mark.true) c.put.ensures

pub returns-then-is_variable : goal.returns-then-is_variable
returns-then-is_variable c = let s = c.args in
    adds_is (unknown-blank (token_at s.text.now s.at) (behind_is s.text.now s.at c.end.ensures c.start-behind.ensures) c.is_mark.ensures c.if-is_mark.false c.is_variable.ensures c.if-is_variable.true) (adds_then c.put-2.ensures (adds_then c.put_token.ensures (adds_then c.put-3.ensures c.put-then-is_variable.ensures)))

pub returns-else-is_variable : goal.returns-else-is_variable
returns-else-is_variable c = let s = c.args in
    adds_is (unknown-plain (token_at s.text.now s.at) (behind_is s.text.now s.at c.end.ensures c.start-behind.ensures) c.is_mark.ensures c.if-is_mark.false c.is_variable.ensures c.if-is_variable.false) (adds_then c.put-2.ensures (adds_then c.put_token.ensures c.put-3.ensures))
