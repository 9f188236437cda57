-- `sizes::sibling_count` meets its contract.
use mathlib.Core.Path.{refl}
use native.Mathlib.Omega.{arith}
use Rattle.kinds.proofs.Others.{siblings-here}
use Rattle.sizes.proofs.sibling_count.Goals as goal

pub overflow_sub-result : goal.overflow_sub-result
overflow_sub-result c =
    omega (arith, siblings-here _ _ c.requires.tallied c.requires.f_lt_words refl)

pub returns : goal.returns
returns c =
    omega (arith, siblings-here _ _ c.requires.tallied c.requires.f_lt_words refl)
