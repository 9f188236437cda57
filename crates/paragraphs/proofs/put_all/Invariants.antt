-- `paragraphs::put_all` meets its contract.
use Rattle.paragraphs.proofs.Putting.{Going}
use Rattle.paragraphs.proofs.put_all.Given as goal

abbrev pub invariant-loop-i : goal.invariant-loop-i
invariant-loop-i l = Going l.glossary.text.now l.from l.kinds l.k l.glossary.words.now l.glossary.n l.glossary.records.now l.places l.vocabulary l.m l.initial.page.bytes l.initial.page.end l._i l.at l.page.end l.page.bytes
