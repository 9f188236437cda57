-- `books::list_read` meets its contract.
use mathlib.Core.Path.{refl, ap, subst, ◌∙◌}
use Rattle.std.specs.Prelude as std
use native.Mathlib.Omega.{arith}
use Rattle.books.proofs.Rooms.{large-listed, small-listed, past-listed}
use Rattle.books.specs.Turning.{ListsIn}
use Rattle.books.specs.declared.turns.TurnRefusal.TheVariants.{NoRoom}
use Rattle.books.proofs.list_read.Goals as goal

pub returns-then-book-gt256 : goal.returns-then-book-gt256
returns-then-book-gt256 c =
    large-listed _ c.siblings-siblings.ensures c.args.out.now _ c.list_large.result c.list_large.ensures

pub returns-in-Err-Past : goal.returns-in-Err-Past
returns-in-Err-Past c =
    past-listed _ c.siblings-siblings.ensures c.args.out.now _ c.list_large-in-Err-Past.result _ c.list_small.result 1024 c.list_small.ensures (c.in-Err-Past.is ∙ ap std.Err c.in-Err-Past.field-0-is) c.list_large-in-Err-Past.ensures

pub returns-in-Ok : goal.returns-in-Ok
returns-in-Ok c =
    small-listed _ c.siblings-siblings.ensures c.args.out.now _ (std.Ok c.in-Ok.size) 1024 c.in-Ok.ensures (omega arith) refl

pub returns-in-Err-NoRoom : goal.returns-in-Err-NoRoom
returns-in-Err-NoRoom c =
    let a = c.args in
    let lists = subst (ListsIn a.book.now c.siblings-siblings.result a.settled.now a.words a.missing 1024 a.out.now c.list_small.new.out)
    (ap std.Err c.in-Err-NoRoom.field-0-is) c.in-Err-NoRoom.ensures in
    small-listed _ c.siblings-siblings.ensures c.args.out.now _ (std.Err (NoRoom c.in-Err-NoRoom.bytes)) 1024 lists (omega arith) refl
