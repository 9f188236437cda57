-- `paragraphs::put_questions` meets its contract.
use lib.ListN.{length}
use Rattle.texts.specs.Lexemes.{lexemes_from}
use Rattle.paragraphs.proofs.Asking.{Asks}
use Rattle.paragraphs.proofs.put_questions.Given as goal

abbrev pub invariant-loop-page : goal.invariant-loop-page
invariant-loop-page l = Asks l.glossary.text.now l.s l.label l.kind l.glossary.words.now l.glossary.n l.glossary.records.now l.from l.initial.page.bytes l.initial.page.end l.at l.page.end l.page.bytes

abbrev pub decreases-loop-page : goal.decreases-loop-page
decreases-loop-page l = length (lexemes_from l.glossary.text.now l.at)
