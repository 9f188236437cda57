-- `together::put_together` meets its contract.
use Rattle.std.proofs.Common.{refl}
use Rattle.together.proofs.Together.{alone-puts, many-puts, listed-puts, past-puts}
use Rattle.together.proofs.put_together.Goals as goal

pub returns-then-n-lt2 : goal.returns-then-n-lt2
returns-then-n-lt2 c = alone-puts _ _ _ _ _ _ _ _ _ _ c.if-n-lt2.true

pub returns-then-n-gt64 : goal.returns-then-n-gt64
returns-then-n-gt64 c = many-puts _ _ _ _ _ _ _ _ _ _ c.if-n-gt64.true c.put_many.ensures

pub returns-then-said-eq0 : goal.returns-then-said-eq0
returns-then-said-eq0 c = listed-puts _ _ _ _ _ _ _ _ _ _ c.if-n-lt2.false c.if-n-gt64.false c.list_book.ensures c.book_numbers-said.ensures _ c.if-said-eq0.true c.put_listed.ensures

pub returns-else-said-eq0 : goal.returns-else-said-eq0
returns-else-said-eq0 c = past-puts _ _ _ _ _ _ _ _ _ _ c.if-n-lt2.false c.if-n-gt64.false c.list_book.ensures c.book_numbers-said.ensures c.if-said-eq0.false refl c.put_past.ensures
