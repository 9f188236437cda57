-- `strikes::strike_area` meets its contract. The loop's invariant: the entries before the offset are taken, and what remains of them
-- is put. The measure is what is left of the area.
use mathlib.Core.Path.{subst, ◌∙◌}
use Rattle.others.proofs.Entries.{full_is}
use Rattle.strikes.specs.Calls.{LeftOf}
use Rattle.strikes.proofs.Area.{more-few, walked_more, walked-full, walked-over, walked_all}
use Rattle.strikes.proofs.strike_area.Goals as goal

pub returns-in_err-left : goal.returns-in_err-left
returns-in_err-left c =
    λ h.
    subst (LeftOf _ 0 c.args.out.now c.strike_entry.new.out) (full_is c.from_residual.result c.from_residual.ensures.0)
    (walked-full h (c.loop-at.invariant.walked h) c.loop-at-test.true c.entry_end-end.ensures _ c.loop-at.invariant.copy_length _ c.strike_entry.result c.strike_entry.ensures c.in_err-left.was)

pub returns-then-out-entries : goal.returns-then-out-entries
returns-then-out-entries c =
    λ h. walked-over h (c.loop-at.invariant.walked h) c.loop-at-test.true c.entry_end-end.ensures _ c.loop-at.invariant.copy_length _ c.strike_entry.result c.strike_entry.ensures c.in_ok-left.was c.if-out-entries.true

pub loop-at-preserved : goal.loop-at-preserved
loop-at-preserved c =
    record {
      copy_length = c.strike_entry.auto.copy ∙ c.loop-at.invariant.copy_length;
      out_length = c.strike_entry.auto.out ∙ c.loop-at.invariant.out_length;
      few = more-few _ _ _ _ _ c.loop-at.invariant.few c.loop-at.invariant.out_length c.strike_entry.auto.out c.if-out-entries.false;
      walked = λ h. walked_more {area = c.args.area.now} h (c.loop-at.invariant.walked h) c.loop-at-test.true c.entry_end-end.ensures _ c.loop-at.invariant.copy_length _ c.strike_entry.result c.strike_entry.ensures c.in_ok-left.was;
    }

pub returns : goal.returns
returns c = λ h. walked_all h (c.loop-at.invariant.walked h) c.loop-at-test.false
