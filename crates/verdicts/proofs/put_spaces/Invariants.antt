-- `verdicts::put_spaces` meets its contract.
use Rattle.std.proofs.Common.{ℕ, ◌-◌, replicate}
use Rattle.pages.proofs.Turns.{Left}
use Rattle.verdicts.proofs.put_spaces.Given as goal

abbrev pub invariant-loop-i : goal.invariant-loop-i
invariant-loop-i l =
    Left l.initial.page.bytes l.initial.page.end l.page.bytes l.page.end (replicate {A = ℕ} (l.n - l._i) 32) (replicate {A = ℕ} l.n 32)
