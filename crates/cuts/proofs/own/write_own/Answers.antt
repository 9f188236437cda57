-- `cuts::own::write_own` meets its contract.
use Rattle.slices.proofs.Writing.{part_is}
use Rattle.cuts.proofs.OwnEntries.{own_reach, own_at, own-cut, own-ends}
use Rattle.cuts.proofs.own.write_own.Goals as goal

pub returns-then-blank-clause-lists_own : goal.returns-then-blank-clause-lists_own
returns-then-blank-clause-lists_own c =
    let a = c.args in
    let done = c.write_others-answer in
    let after = done.new.out in λ o.
    own-ends o a.size a.out.now after done.result c.behind.ensures
    (own-cut o a.out.now after done.result c.if-blank.true (part_is a.w.entry a.entry.now)
    (done.ensures.writes_siblings (own_reach a.w.entry a.entry.now c.requires.at_in_bounds c.requires.copy_len_bound c.requires.len_bound c.requires.written_in_bounds) (own_at o c.if-blank.true)))
