-- `phrases::read_leaf` meets its contract.
use native.Mathlib.Omega.{arith}
use Rattle.std.proofs.lemmas.Result.{err_from_is_err_and}
use Rattle.phrases.proofs.Roots.{leaf_refused, leaf_read}
use Rattle.phrases.proofs.read_leaf.Goals as goal

pub returns-in_err-kind : goal.returns-in_err-kind
returns-in_err-kind c = let a = c.args in
    let z = err_from_is_err_and c.from_residual.result c.from_residual.ensures.1 in
    rw (z.1, z.2) (leaf_refused a.text.now a.kinds.now a.out.now a.at a.k a.byte a.seen _ c.in_err-kind.ensures)

pub returns : goal.returns
returns c = let a = c.args in
    leaf_read a.text.now a.kinds.now a.out.now a.at a.k a.byte a.seen c.in_ok-kind.kind c.in_ok-kind.end c.in_ok-kind.ensures (omega (arith, c.told-out)) c.requires.seen_bound
