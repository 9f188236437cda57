-- `signature::read_words` meets its contract. The loop's invariant: the records passed stand in the tables, which are as before
-- behind them. The measure is the number of records left.
--
--   cast-offsets to loop-again    a record in order goes into the four tables, and the next one is due
--   the returns                   a record that ends too soon or names no kind, bytes behind the last one, and no more records
--
use mathlib.Core.Path.{refl}
use Rattle.std.proofs.lemmas.Result.{err_from_is_err_and}
use Rattle.signature.proofs.RecordsRead.{record_as, tabled-next, tabled-stops, tabled_continues, tabled-filled}
use Rattle.signature.proofs.read_words.Goals as goal

pub loop-w-preserved : goal.loop-w-preserved
loop-w-preserved c =
    tabled-next _ _ _ _ _ _ _ _ _ _ _ _ c.loop-w.invariant c.requires.words_bound c.requires.sized c.loop-w-test.true _
    (record_as c.in_ok-places.ensures refl c.requires.kinds_value) _
    c.read.ensures

pub returns-in_err-places-clause-words_loaded : goal.returns-in_err-places-clause-words_loaded
returns-in_err-places-clause-words_loaded c =
    let p = err_from_is_err_and c.from_residual.result c.from_residual.ensures.1 in
    rw (p.1, p.2) (tabled-stops _ _ _ _ _ _ _ _ _ _ _ _ c.loop-w.invariant c.loop-w-test.true _
    (record_as c.in_err-places.ensures refl c.requires.kinds_value)).0

pub returns-in_err-places-clause-words_counted : goal.returns-in_err-places-clause-words_counted
returns-in_err-places-clause-words_counted c =
    (tabled-stops _ _ _ _ _ _ _ _ _ _ _ _ c.loop-w.invariant c.loop-w-test.true _
    (record_as c.in_err-places.ensures refl c.requires.kinds_value)).1

pub returns-then-at-v-clause-words_loaded : goal.returns-then-at-v-clause-words_loaded
returns-then-at-v-clause-words_loaded c = (tabled_continues _ _ _ _ _ _ _ _ _ _ _ _ c.loop-w.invariant c.loop-w-test.false c.if-at-v.true).0

pub returns-then-at-v-clause-words_counted : goal.returns-then-at-v-clause-words_counted
returns-then-at-v-clause-words_counted c = (tabled_continues _ _ _ _ _ _ _ _ _ _ _ _ c.loop-w.invariant c.loop-w-test.false c.if-at-v.true).1

pub returns-clause-words_loaded : goal.returns-clause-words_loaded
returns-clause-words_loaded c = (tabled-filled _ _ _ _ _ _ _ _ _ _ _ _ c.loop-w.invariant c.loop-w-test.false c.if-at-v.false).0

pub returns-clause-words_counted : goal.returns-clause-words_counted
returns-clause-words_counted c = (tabled-filled _ _ _ _ _ _ _ _ _ _ _ _ c.loop-w.invariant c.loop-w-test.false c.if-at-v.false).1
