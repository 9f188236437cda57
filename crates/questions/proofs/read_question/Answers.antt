-- `questions::read_question` meets its contract.
use mathlib.Core.Path.{sym, ◌∙◌}
use Rattle.questions.proofs.Situations.{question_read}
use Rattle.questions.proofs.read_question.Goals as goal

pub returns : goal.returns
returns c = let a = c.args in let g = a.glossary.now in
    question_read g.text.now g.words.now g.records.now a.at c.start-s.result a.label a.kind g.n c.start-s.ensures c.end.result c.start-asks.result c.end-from.result c.read_situation.result (sym c.same_token.ensures ∙ c.if-not-same_token.false) c.end.ensures c.start-asks.ensures c.end-from.ensures c.read_situation.ensures
