-- `reader::book::read` meets its contract. The loop's invariant: reading on gives the reply of the book.
use Prim.Native.Nat.{◌-◌}
use Rattle.signature.specs.Tables.{vocabulary_in}
use Rattle.reader.proofs.Books.{BookTo}
use Rattle.reader.proofs.book.read.Given as goal

abbrev pub invariant-loop-i : goal.invariant-loop-i
invariant-loop-i l = BookTo (vocabulary_in l.w.v.now) l.b (l.patterns - l._i) l.at
