-- `signature::first_missing` meets its contract.
use mathlib.Core.Path.{sym, subst}
use mathlib.Core.Bool.{not}
use lib.ListN.{take}
use borrow.Author.Rules.{rules}
use Rattle.std.proofs.Common.{tests}
use Rattle.std.proofs.lemmas.Iterator.{YieldsList-from_slice}
use Rattle.std.proofs.lemmas.Iterator.Search.{position_from_yields_List}
use Rattle.signature.specs.Loading.{FirstMissing}
use Rattle.signature.proofs.Marking.{missing_place}
use Rattle.signature.proofs.first_missing.Goals as goal

pub returns : goal.returns
returns c =
    let marked = c.args.marked.now in
    let found = position_from_yields_List not _ _ c.position.result c.position.ensures.ran (YieldsList-from_slice (take c.args.kinds marked) cc) (λ x b q k. search (rules, tests)) in
    subst (FirstMissing c.args.kinds marked) (sym found) (missing_place c.args.kinds c.requires marked c.told-marked)
