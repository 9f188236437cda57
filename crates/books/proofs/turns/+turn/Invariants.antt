-- `books::turns::turn` meets its contract. The rest of the book gets shorter.
use lib.ListN.{length}
use Rattle.books.proofs.turns.+turn.Given as goal

abbrev pub decreases-turn : goal.decreases-turn
decreases-turn l = length l.book.now
