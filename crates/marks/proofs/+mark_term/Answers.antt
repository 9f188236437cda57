-- `marks::mark_term` meets its contract. The levels left bound it.
use Rattle.marks.proofs.Noting.{notes_none, noting-begins, noting-clear, noting-term, noting-all}
use Rattle.marks.proofs.+mark_term.Goals as goal

pub returns-then-left-eq0 : goal.returns-then-left-eq0
returns-then-left-eq0 t c =
    let a = c.args in notes_none a.left a.siblings.now a.term.now a.word a.marks.now c.requires.word_in_bounds c.if-left-eq0.true

pub loop-bits-init : goal.loop-bits-init
loop-bits-init t c =
    let a = c.args in
    noting-begins a.left a.siblings.now a.term.now a.word a.marks.now c.requires.word_in_bounds c.if-left-eq0.false c.byte.ensures c.sibling_count-entries.ensures c.map_below-bits.ensures c.head.ensures

pub loop-bits-preserved-then-bit-eq1 : goal.loop-bits-preserved-then-bit-eq1
loop-bits-preserved-then-bit-eq1 t c = noting-term c.loop-bits.invariant c.loop-bits-test.true c.if-bit-eq1.true c.mark_term-here.ensures

pub loop-bits-preserved : goal.loop-bits-preserved
loop-bits-preserved t c = noting-clear c.loop-bits.invariant c.loop-bits-test.true c.if-bit-eq1.false

pub returns : goal.returns
returns t c = noting-all c.loop-bits.invariant c.loop-bits-test.false c.note.ensures
