-- `dues::put_over` meets its contract.
use mathlib.Core.Path.{sym, ap, ap₂, ◌∙◌}
use Prim.Native.Nat.{◌+◌}
use borrow.Author.Tests.{eq-eqb, ne_eqb}
use Rattle.wire.specs.Text.{decimal}
use Rattle.wire.proofs.Cond.{cond_true, cond_false}
use Rattle.pages.proofs.Pages.{adds_is, adds_then}
use Rattle.dues.proofs.put_over.Goals as goal

pub returns-then-more-eq0 : goal.returns-then-more-eq0
returns-then-more-eq0 c = adds_is (sym (cond_true _ _ _ (sym c.is_mark.ensures ∙ c.if-not-is_mark.false) ∙ cond_true _ _ _ (eq-eqb _ 0 (sym c.count_commas-more.ensures.value ∙ c.if-more-eq0.true)))) c.put-then-more-eq0.ensures

pub returns : goal.returns
returns c =
    let said = ap decimal (ap₂ (λ a b. a + b) c.from.ensures c.count_commas-more.ensures.value) in
    adds_is (sym (cond_true _ _ _ (sym c.is_mark.ensures ∙ c.if-not-is_mark.false) ∙ cond_false _ _ _ (ne_eqb _ 0 (λ e. c.if-more-eq0.false (c.count_commas-more.ensures.value ∙ e))))) (adds_then c.put-2.ensures (adds_then (adds_is said c.put_number.ensures) c.put-3.ensures))
