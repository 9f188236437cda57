-- `questions::read_all` meets its contract. The loop's invariant: what is read of the questions from here on is read of all.
use lib.ListN.{length}
use Rattle.texts.specs.Lexemes.{lexemes_from}
use Rattle.questions.proofs.Rounds.{Turned}
use Rattle.questions.proofs.read_all.Given as goal

abbrev pub invariant-loop-from : goal.invariant-loop-from
invariant-loop-from l = Turned l.glossary.text.now l.glossary.words.now l.glossary.records.now l.at l.label l.kind l.glossary.n l.from

abbrev pub decreases-loop-from : goal.decreases-loop-from
decreases-loop-from l = length (lexemes_from l.glossary.text.now l.from)
