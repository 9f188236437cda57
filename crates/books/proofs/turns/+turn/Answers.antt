-- `books::turns::turn` meets its contract: of the book that is left, the first pattern is taken from the entries, and the rest follows.
use mathlib.Core.Path.{refl, sym}
use mir.Facts.{Fits-below}
use lib.Seq.{length-take-le}
use Rattle.books.proofs.Turning.{turn_ends, turn_size, turn_less, turn_short, turn_past, turn_next, turn_goes}
use Rattle.books.proofs.turns.+turn.Goals as goal

pub returns-then-book-eq0 : goal.returns-then-book-eq0
returns-then-book-eq0 t c = λ h. turn_ends h c.if-book-eq0.true c.args.out.now _ c.finish.result c.finish.ensures

pub overflow_add-size : goal.overflow_add-size
overflow_add-size t c = Fits-below tt (turn_short c.requires c.if-book-eq0.false _ c.term_size-size.ensures)

pub slice_bounds-take_pattern-end-3 : goal.slice_bounds-take_pattern-end-3
slice_bounds-take_pattern-end-3 t c =
    sym (length-take-le _ c.args.book.now (turn_size c.requires c.if-book-eq0.false _ c.term_size-size.ensures))

pub slice_bounds-turn-count : goal.slice_bounds-turn-count
slice_bounds-turn-count t c = turn_size c.requires c.if-book-eq0.false _ c.term_size-size.ensures

pub slice_bounds-turn-start : goal.slice_bounds-turn-start
slice_bounds-turn-start t c = turn_size c.requires c.if-book-eq0.false _ c.term_size-size.ensures

pub turn-requires : goal.turn-requires
turn-requires t c = (
  turn_less c.requires c.if-book-eq0.false _ c.term_size-size.ensures t c.decreases,
  turn_next c.requires c.if-book-eq0.false _ c.term_size-size.ensures c.args.to.now _ refl c.take_pattern.result c.take_pattern.ensures c.in-Ok.is
      _ _ c.take_pattern.auto.copy c.take_pattern.auto.marks,
)

pub returns-in-Err : goal.returns-in-Err
returns-in-Err t c = λ h.
    turn_past h c.if-book-eq0.false _ c.term_size-size.ensures c.args.to.now _ refl c.take_pattern.result c.take_pattern.ensures c.in-Err.is c.args.out.now

pub returns-in-Ok : goal.returns-in-Ok
returns-in-Ok t c = λ h.
    turn_goes h c.if-book-eq0.false _ c.term_size-size.ensures c.args.to.now _ refl c.take_pattern.result c.take_pattern.ensures c.in-Ok.is
    _ _ c.take_pattern.auto.copy c.take_pattern.auto.marks c.args.out.now _ c.turn.result c.turn.ensures
