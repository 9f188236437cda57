-- `lexicon::read_names` meets its contract.
use Rattle.faults.proofs.Numbers.{none-number, some-number}
use Rattle.lexicon.proofs.Names.{names-passed, names-room, names_more, names-other}
use Rattle.lexicon.proofs.read_names.Goals as goal

pub bounds-kinds-k : goal.bounds-kinds-k
bounds-kinds-k c =
    names-room c.loop-at.invariant c.start-s.ensures c.end-at.ensures c.is_word.ensures c.if-is_word.true c.start-name.ensures c.name_why.ensures (none-number _ c.if-is_none.ensures)

pub loop-at-preserved-then-is_none : goal.loop-at-preserved-then-is_none
loop-at-preserved-then-is_none c =
    names_more c.loop-at.invariant c.start-s.ensures c.end-at.ensures c.is_word.ensures c.if-is_word.true c.start-name.ensures c.name_why.ensures (none-number _ c.if-is_none.ensures)

pub loop-at-preserved-else-is_none : goal.loop-at-preserved-else-is_none
loop-at-preserved-else-is_none c =
    names-other c.loop-at.invariant c.start-s.ensures c.end-at.ensures c.is_word.ensures c.if-is_word.true c.start-name.ensures c.name_why.ensures (some-number _ c.if-is_none.ensures)

pub loop-at-preserved : goal.loop-at-preserved
loop-at-preserved c =
    names-passed c.loop-at.invariant c.start-s.ensures c.end-at.ensures c.is_word.ensures c.if-is_word.false
