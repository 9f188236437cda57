-- `strikes::entry_end` meets its contract.
use native.Mathlib.Nat.{lt_of_le_of_lt}
use Rattle.strikes.proofs.Area.{entry-ends}
use Rattle.strikes.proofs.entry_end.Goals as goal

pub overflow_add-result-2 : goal.overflow_add-result-2
overflow_add-result-2 c =
    record { fits = lt_of_le_of_lt (entry-ends c.args.area.now _ _ c.requires c.term_size.ensures).inside c.well_formed.0.0 }

pub returns : goal.returns
returns c =
    entry-ends c.args.area.now _ _ c.requires c.term_size.ensures
