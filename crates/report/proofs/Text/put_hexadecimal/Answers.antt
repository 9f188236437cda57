-- `report::Text::put_hexadecimal` meets its contract.
use mathlib.Core.Path.{ap₂}
use mathlib.Core.List.{List, [], ◌∷◌}
use Prim.Native.Nat.{ℕ}
use Rattle.report.proofs.Putting.{puts_is, printing_turn}
use Rattle.report.proofs.Lines.{digits-next}
use Rattle.report.proofs.Text.put_hexadecimal.Goals as goal

pub loop-b-preserved : goal.loop-b-preserved
loop-b-preserved c =
    printing_turn c.loop-b.invariant (digits-next c.args.bytes.now c.loop-b.b-index c.loop-b-test.true)
    (puts_is (ap₂ {C = List ℕ} (λ h l. h ∷ l ∷ []) c.high.ensures c.low.ensures) c.put.ensures)
