-- `complement::list_in` meets its contract.
use mathlib.Core.Path.{◌∙◌}
use native.Mathlib.Omega.{arith}
use Rattle.slices.proofs.Copying.{copied-whole}
use Rattle.complement.proofs.Linear.{root-term, root-listed}
use Rattle.complement.proofs.list_in.Goals as goal

pub list_term-requires : goal.list_term-requires
list_term-requires c =
    let h = c.requires.patterned in
    root-term h c.chain-chains.ensures c.args.copy.now (c.copy.ensures ∙ copied-whole c.args.pattern.now c.args.copy.now (omega arith)) (omega arith) c.args.out.now (c.requires.has_room h)

pub returns : goal.returns
returns c =
    λ h.
    let copied = c.copy.ensures ∙ copied-whole c.args.pattern.now c.args.copy.now (omega arith) in
    let room = c.requires.has_room h in
    root-listed h c.chain-chains.ensures c.args.copy.now copied (omega arith) c.args.out.now room
    (c.list_term.ensures (root-term h c.chain-chains.ensures c.args.copy.now copied (omega arith) c.args.out.now room))
