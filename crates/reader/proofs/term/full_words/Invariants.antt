-- `reader::term::full_words` meets its contract. The loop's invariant: reading on from the cursor gives what it gave from the
-- first cursor on. The measure is a bound on the turns that are left.
--
--   word-turn     the turn at a full word, up to where its place is passed
--   known         the word's number is one of the tables'
--   past, below   the cursor behind the word, and at its places
--
use Rattle.reader.proofs.Turns.{Turned}
use Rattle.reader.proofs.Turns.{turns_left}
use Rattle.reader.proofs.term.full_words.Given as goal

abbrev pub invariant-loop-c : goal.invariant-loop-c
invariant-loop-c l = Turned l.w.v.now l.t l.initial.frames l.initial.c l.frames l.c

abbrev pub decreases-loop-c : goal.decreases-loop-c
decreases-loop-c l = turns_left l.t l.frames l.c
