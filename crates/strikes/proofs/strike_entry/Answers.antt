-- `strikes::strike_entry` meets its contract.
use mathlib.Core.Path.{subst}
use Rattle.others.proofs.Entries.{full_is}
use Rattle.strikes.specs.Calls.{LeftOf}
use Rattle.strikes.proofs.Striking.{entry-short, struck_by_all, struck_kept, struck_full, struck_put}
use Rattle.strikes.proofs.strike_entry.Goals as goal

pub returns-then-pattern-gt127 : goal.returns-then-pattern-gt127
returns-then-pattern-gt127 c =
    λ h room. struck_by_all h c.if-pattern-gt127.true _ c.args.out.now room

pub returns-in-None : goal.returns-in-None
returns-in-None c =
    λ h room. struck_kept h c.meet.result c.meet.ensures c.args.n c.args.out.now _ c.keep.result c.in-None.is (c.keep.ensures (entry-short h))

pub returns-in_err-bytes-in-Some : goal.returns-in_err-bytes-in-Some
returns-in_err-bytes-in-Some c =
    λ h room.
    subst (LeftOf _ c.args.n c.args.out.now c.cut_entry.new.out) (full_is c.from_residual.result c.from_residual.ensures.0)
    (struck_full h c.meet.result c.meet.ensures c.in-Some.is c.if-pattern-gt127.false c.args.n c.args.out.now _ room c.cut_entry.result c.cut_entry.ensures c.in_err-bytes-in-Some.was)

pub returns-in_ok-bytes-in-Some : goal.returns-in_ok-bytes-in-Some
returns-in_ok-bytes-in-Some c =
    λ h room. struck_put h c.meet.result c.meet.ensures c.in-Some.is c.if-pattern-gt127.false c.args.n c.args.out.now _ room c.cut_entry.result c.cut_entry.ensures c.in_ok-bytes-in-Some.was
