-- `spans::walk` meets its contract.
use Rattle.spans.proofs.Root.{root-covered}
use Rattle.spans.proofs.walk.Goals as goal

pub returns-then-root : goal.returns-then-root
returns-then-root c =
    let paused = rw c.in-Some.is at c.requires.paused in
    λ a. root-covered _ _ _ (paused.root c.if-root-lt128.false) c.if-root-lt128.false c.if-root.true a c.from.ensures c.note.ensures
