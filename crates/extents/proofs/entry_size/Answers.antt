-- `extents::entry_size` meets its contract.
use native.Mathlib.Omega.{arith}
use Rattle.extents.proofs.Extents.{sized-within}
use Rattle.extents.proofs.entry_size.Goals as goal

pub overflow_add-result : goal.overflow_add-result
overflow_add-result c =
    record { fits = omega (arith, sized-within c.args.listing.now (omega arith) c.front_size.ensures) }
