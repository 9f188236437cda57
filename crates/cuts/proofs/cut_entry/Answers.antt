-- `cuts::cut_entry` meets its contract.
use mathlib.Core.Path.{refl, subst}
use Rattle.others.proofs.Entries.{full_is}
use Rattle.cuts.specs.Calls.{CutOf}
use Rattle.cuts.specs.declared.own.Walk.{Walk}
use Rattle.cuts.proofs.Starting.{cut-full, cut-done}
use Rattle.cuts.proofs.cut_entry.Goals as goal

pub returns-in_err-end : goal.returns-in_err-end
returns-in_err-end c =
    let w : Walk = record { at = 1; entry = c.beginning.result; pattern = 1; written = c.args.n; todo = c.args.todo } in
    let done = c.cut_node in
    λ h room.
    subst (CutOf _ c.args.n c.args.out.now done.new.out) (full_is c.from_residual.result c.from_residual.ensures.0)
    (cut-full h c.args.copy.now refl _ refl w refl c.beginning.ensures refl refl c.args.out.now room done.new.copy
    done.new.out done.result done.ensures.cuts_word c.in_err-end.was)

pub returns : goal.returns
returns c =
    let w : Walk = record { at = 1; entry = c.beginning.result; pattern = 1; written = c.args.n; todo = c.args.todo } in
    let done = c.cut_node in
    λ h room.
    cut-done h c.args.copy.now refl _ refl w refl c.beginning.ensures refl refl c.args.out.now room done.new.copy
    done.new.out done.result done.ensures.cuts_word c.in_ok-end.was
