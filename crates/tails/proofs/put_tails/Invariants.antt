-- `tails::put_tails` meets its contract.
use Rattle.tails.proofs.Tailing.{Tailing}
use Rattle.tails.proofs.put_tails.Given as goal

abbrev pub invariant-loop-s : goal.invariant-loop-s
invariant-loop-s l =
    Tailing l.glossary.text.now l.from l.kinds l.k l.glossary.words.now l.glossary.n l.glossary.records.now l.places l.vocabulary l.m l.initial.page.bytes l.initial.page.end l.s l.page.end l.page.bytes
