-- `reader::pair::read_parts` meets its contract.
use Rattle.reader.proofs.Pairs.{PartsTo}
use Rattle.reader.proofs.pair.read_parts.Given as goal

abbrev pub invariant-loop-n : goal.invariant-loop-n
invariant-loop-n l = PartsTo l.w.v.now l.s l.names l.spans l.deepest l.n
