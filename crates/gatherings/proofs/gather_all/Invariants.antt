-- `gatherings::gather_all` meets its contract. The loop's invariant: so many paragraphs were read and their patterns gathered, and the others stand from the offset on.
use Rattle.gatherings.proofs.Gathering.{Going}
use Rattle.gatherings.proofs.gather_all.Given as goal

abbrev pub invariant-loop : goal.invariant-loop
invariant-loop l =
    Going l.glossary.text.now l.from l.kinds l.k l.glossary.words.now l.glossary.n l.glossary.records.now l.m l.s l.counter l.at l.gathered.count l.gathered.size l.book
