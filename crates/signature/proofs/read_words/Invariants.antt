-- `signature::read_words` meets its contract. The loop's invariant: the records passed stand in the tables, which are as before
-- behind them. The measure is the number of records left.
--
--   cast-offsets to loop-again    a record in order goes into the four tables, and the next one is due
--   the returns                   a record that ends too soon or names no kind, bytes behind the last one, and no more records
--
use Rattle.signature.proofs.RecordsRead.{Tabled}
use Rattle.signature.proofs.read_words.Given as goal

abbrev pub invariant-loop-w : goal.invariant-loop-w
invariant-loop-w l =
    Tabled l.v l.words l.w l.at l.initial.offsets l.initial.results l.initial.maps l.initial.counts l.offsets l.results l.maps l.counts
