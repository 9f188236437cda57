-- `books::turns::list_in` meets its contract.
use native.Mathlib.Omega.{arith}
use Rattle.books.proofs.Beginning.{book_length, first_turn, first-listed}
use Rattle.books.proofs.turns.list_in.Goals as goal

pub bounds-book-1 : goal.bounds-book-1
bounds-book-1 c =
    let b = book_length c.requires.read_at in omega arith

pub turn-requires : goal.turn-requires
turn-requires c =
    first_turn c.requires.read_at c.args.near.now c.requires.areas_for c.whole-entries.ensures

pub returns : goal.returns
returns c =
    λ h. first-listed h c.args.near.now c.requires.areas_for c.whole-entries.ensures c.args.out.now _ c.turn.result c.turn.ensures
