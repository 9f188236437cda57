-- `paragraphs::check_all` meets its contract.
use lib.ListN.{length}
use Rattle.texts.specs.Lexemes.{lexemes_from}
use Rattle.gatherings.specs.Courses.{Readable}
use Rattle.paragraphs.proofs.Checking.{Checking}
use Rattle.paragraphs.proofs.check_all.Given as goal

abbrev pub invariant-loop-s : goal.invariant-loop-s
invariant-loop-s l = (fits : Readable l.glossary.text.now l.from l.k l.glossary.n) → Checking l.glossary.text.now l.kinds l.k l.glossary.words.now l.glossary.n l.glossary.records.now l.from fits l.count l.at l.s

abbrev pub decreases-loop-s : goal.decreases-loop-s
decreases-loop-s l = length (lexemes_from l.glossary.text.now l.at)
