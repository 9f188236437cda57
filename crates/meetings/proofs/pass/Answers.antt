-- `meetings::pass` meets its contract.
use Rattle.meetings.proofs.Passing.{passed-one, passed-end, passed_none, passed-fits}
use Rattle.meetings.proofs.pass.Goals as goal
use Rattle.meetings.proofs.pass.Goals.{else-bit-eq1-via-then-bit-eq1+else-at-bytes, else-bit-eq1-via-else-bit-eq1}

pub overflow_add-result : goal.overflow_add-result
overflow_add-result c =
    record { fits = passed-fits c.args.bytes.now c.args.at c.if-at-bytes.true c.well_formed.0.0 c.term_size.ensures }

pub returns-then-at-bytes : goal.returns-then-at-bytes
returns-then-at-bytes c = let a = c.args in passed-one a.bytes.now a.at a.bit c.if-bit-eq1.true c.term_size.ensures

pub returns : goal.returns
returns c =
    let a = c.args in
    elim c.else-bit-eq1.branch [
      | else-bit-eq1-via-then-bit-eq1+else-at-bytes w ↦ passed-end a.bytes.now a.at a.bit w.if-bit-eq1.true w.if-at-bytes.false
      | else-bit-eq1-via-else-bit-eq1 w ↦ passed_none a.bytes.now a.at a.bit w.if-bit-eq1.false
    ]
