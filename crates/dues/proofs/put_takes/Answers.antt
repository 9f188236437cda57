-- `dues::put_takes` meets its contract.
use mathlib.Core.Path.{sym, ap}
use borrow.Author.Tests.{eq-eqb, ne_eqb}
use Rattle.wire.specs.Text.{decimal}
use Rattle.wire.proofs.Cond.{cond_true, cond_false}
use Rattle.pages.proofs.Pages.{adds_is, adds_then}
use Rattle.dues.proofs.put_takes.Goals as goal

pub returns-then-n-eq1 : goal.returns-then-n-eq1
returns-then-n-eq1 c =
    adds_then c.put.ensures (adds_then (adds_is (ap decimal c.from.ensures) c.put_number.ensures) (adds_is (sym (cond_true _ _ _ (eq-eqb _ _ c.if-n-eq1.true))) c.put-then-n-eq1.ensures))

pub returns-else-n-eq1 : goal.returns-else-n-eq1
returns-else-n-eq1 c =
    adds_then c.put.ensures (adds_then (adds_is (ap decimal c.from.ensures) c.put_number.ensures) (adds_is (sym (cond_false _ _ _ (ne_eqb _ _ c.if-n-eq1.false))) c.put-else-n-eq1.ensures))
