-- `encoder::put_words` meets its contract. The loop's invariant: the words before f are written.
use Rattle.encoder.proofs.Words.{PutTo}
use Rattle.encoder.proofs.put_words.Given as goal

abbrev pub invariant-loop-f : goal.invariant-loop-f
invariant-loop-f l = PutTo l.k l.n l.records l.f l.at l.out
