-- `paragraphs::check_all` meets its contract.
use native.Mathlib.Omega.{arith}
use mathlib.Core.Path.{refl}
use Rattle.std.proofs.lemmas.Result.{err_from_is_err_and}
use Rattle.paragraphs.proofs.Checking.{checking_none, checking_readable, checking_all, checking_bad, checking_count, checking_less, checking_turn}
use Rattle.paragraphs.proofs.check_all.Goals as goal

pub loop-s-init : goal.loop-s-init
loop-s-init c = λ fits. checking_none _ _ _ _ _ _ _ fits c.start-s.ensures

pub read_paragraph-requires : goal.read_paragraph-requires
read_paragraph-requires c = checking_readable _ _ _ _ _ _ _ c.requires (c.loop-s.invariant c.requires)

pub returns-in_err-at : goal.returns-in_err-at
returns-in_err-at c =
    let z = err_from_is_err_and c.from_residual.result c.from_residual.ensures.1 in
    rw (z.1, z.2) (checking_bad _ _ _ _ _ _ _ c.requires (c.loop-s.invariant c.requires) c.loop-s-test.true _ c.in_err-at.ensures refl)

pub overflow_add-count : goal.overflow_add-count
overflow_add-count c = record { fits = omega (arith, checking_count _ _ _ _ _ _ _ c.requires (c.loop-s.invariant c.requires) c.loop-s-test.true _ c.in_ok-at.ensures refl) }

pub loop-s-smaller : goal.loop-s-smaller
loop-s-smaller c = checking_less _ _ _ _ _ _ _ c.requires (c.loop-s.invariant c.requires) c.loop-s-test.true _ c.in_ok-at.ensures refl

pub loop-s-preserved : goal.loop-s-preserved
loop-s-preserved c = λ fits. checking_turn _ _ _ _ _ _ _ fits (c.loop-s.invariant fits) c.loop-s-test.true _ c.in_ok-at.ensures refl c.start-s-in-loop-s.ensures

pub returns : goal.returns
returns c = checking_all _ _ _ _ _ _ _ c.requires (c.loop-s.invariant c.requires) c.loop-s-test.false
