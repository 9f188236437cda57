-- `signature::covered` meets its contract.
use native.Mathlib.Omega.{arith}
use Rattle.signature.proofs.Marking.{covers_true, covers_false}
use Rattle.signature.proofs.covered.Goals as goal

pub returns-then-not-marked-v : goal.returns-then-not-marked-v
returns-then-not-marked-v c =
    covers_false _ _ _ c.requires.n_in_bounds c.requires.markable c.args.marked.now _ c.loop-i-test.true c.if-not-marked-v.true

pub returns : goal.returns
returns c =
    covers_true _ _ _ c.requires.n_in_bounds c.requires.markable c.args.marked.now (λ j h. c.loop-i.invariant j (omega arith))
