-- `spans::walk_word` meets its contract. The loop's invariant: what the frames say is due at i and j. The measure is the
-- number of turns that the frames and the rest of the situation can take.
--
--   read                       the inputs, as they are known at a turn
--   turn, written              what is known of the place that a turn takes off the frame
--
use mathlib.Core.Path.{sym, ◌∙◌}
use Rattle.spans.specs.Walking.{InputsRead}
use Rattle.spans.proofs.Offsets.{offset-fits, offset-low}
use Rattle.spans.proofs.Going.{shared-situation}
use Rattle.spans.proofs.Framing.{framing_begins, framing_ends, framing_rest, turn_leave}
use Rattle.spans.proofs.Framing.{Turn, turn_gap, open_part, turn_opened}
use Rattle.spans.proofs.Framing.{Written, place-stands, word_room, turn_stopped, word-later, turn_leaf, turn_pushed, turn_named}
use Rattle.spans.proofs.Left.{left_word}
use Rattle.spans.proofs.walk_word.Goals as goal

pub map_at-requires-2 : goal.map_at-requires-2
map_at-requires-2 c =
    offset-low (shared-situation c.requires.at_shared_word c.requires.inputs_read) c.requires.inputs_read.held.situation.limits.most

pub overflow_add-j : goal.overflow_add-j
overflow_add-j c =
    offset-fits (shared-situation c.requires.at_shared_word c.requires.inputs_read) c.requires.inputs_read.held.situation.limits.most

pub loop-depth-init : goal.loop-depth-init
loop-depth-init c =
    framing_begins c.requires.at_shared_word (rw (c.map_at.ensures, c.map_at-2.ensures) at c.frame-due.ensures)

pub loop-depth-preserved-then-places-eq0 : goal.loop-depth-preserved-then-places-eq0
loop-depth-preserved-then-places-eq0 c =
    turn_leave c.loop-depth.invariant c.loop-depth-test.true c.if-places-eq0.true

pub end_of-j-requires : goal.end_of-j-requires
end_of-j-requires c =
    let read : let a = c.args in InputsRead a.p.now a.s.now = c.requires.inputs_read in
    let turn : let a = c.args in let l = c.loop-depth in Turn a.p.now a.s.now l.frames l.spans a.from l.due l.depth l.i l.j c.passed-due.result = record { inv = c.loop-depth.invariant; some = c.loop-depth-test.true; shifted = c.passed-due.ensures } in
    ((open_part (turn) c.if-places-eq1.true c.if-written-eq0.true (read)).inside, (read).held.situation.limits.most)

pub loop-depth-preserved-then-written-eq0 : goal.loop-depth-preserved-then-written-eq0
loop-depth-preserved-then-written-eq0 c =
    let turn : let a = c.args in let l = c.loop-depth in Turn a.p.now a.s.now l.frames l.spans a.from l.due l.depth l.i l.j c.passed-due.result = record { inv = c.loop-depth.invariant; some = c.loop-depth-test.true; shifted = c.passed-due.ensures } in
    turn_opened (turn) c.if-places-eq1.true c.if-written-eq0.true _ c.end_of-j.ensures.1

pub pass_place-requires : goal.pass_place-requires
pass_place-requires c =
    let read : let a = c.args in InputsRead a.p.now a.s.now = c.requires.inputs_read in
    let turn : let a = c.args in let l = c.loop-depth in Turn a.p.now a.s.now l.frames l.spans a.from l.due l.depth l.i l.j c.passed-due.result = record { inv = c.loop-depth.invariant; some = c.loop-depth-test.true; shifted = c.passed-due.ensures } in
    let written : let a = c.args in let l = c.loop-depth in Written a.p.now a.s.now l.frames l.spans a.from l.due l.depth l.i l.j c.passed-due.result = record { turn = turn; place = c.if-places-eq1.true; bit = c.if-written-eq0.false } in
    place-stands (written) (read)

pub returns-in_err-next : goal.returns-in_err-next
returns-in_err-next c =
    let turn : let a = c.args in let l = c.loop-depth in Turn a.p.now a.s.now l.frames l.spans a.from l.due l.depth l.i l.j c.passed-due.result = record { inv = c.loop-depth.invariant; some = c.loop-depth-test.true; shifted = c.passed-due.ensures } in
    let written : let a = c.args in let l = c.loop-depth in Written a.p.now a.s.now l.frames l.spans a.from l.due l.depth l.i l.j c.passed-due.result = record { turn = turn; place = c.if-places-eq1.true; bit = c.if-written-eq0.false } in
    rw c.from_residual.ensures (turn_stopped (written) c.in_err-next.ensures)

pub map_at-map-requires : goal.map_at-map-requires
map_at-map-requires c =
    let read : let a = c.args in InputsRead a.p.now a.s.now = c.requires.inputs_read in
    let turn : let a = c.args in let l = c.loop-depth in Turn a.p.now a.s.now l.frames l.spans a.from l.due l.depth l.i l.j c.passed-due.result = record { inv = c.loop-depth.invariant; some = c.loop-depth-test.true; shifted = c.passed-due.ensures } in
    let written : let a = c.args in let l = c.loop-depth in Written a.p.now a.s.now l.frames l.spans a.from l.due l.depth l.i l.j c.passed-due.result = record { turn = turn; place = c.if-places-eq1.true; bit = c.if-written-eq0.false } in
    offset-low ((place-stands (written) (read)).nodes c.if-p-i-lt128.true).1 (read).held.situation.limits.most

pub bounds-frames-depth-then-map-ne0 : goal.bounds-frames-depth-then-map-ne0
bounds-frames-depth-then-map-ne0 c =
    let read : let a = c.args in InputsRead a.p.now a.s.now = c.requires.inputs_read in
    let turn : let a = c.args in let l = c.loop-depth in Turn a.p.now a.s.now l.frames l.spans a.from l.due l.depth l.i l.j c.passed-due.result = record { inv = c.loop-depth.invariant; some = c.loop-depth-test.true; shifted = c.passed-due.ensures } in
    let written : let a = c.args in let l = c.loop-depth in Written a.p.now a.s.now l.frames l.spans a.from l.due l.depth l.i l.j c.passed-due.result = record { turn = turn; place = c.if-places-eq1.true; bit = c.if-written-eq0.false } in
    word_room (written) c.if-p-i-lt128.true (read)

pub loop-depth-smaller-then-map-ne0 : goal.loop-depth-smaller-then-map-ne0
loop-depth-smaller-then-map-ne0 c =
    let read : let a = c.args in InputsRead a.p.now a.s.now = c.requires.inputs_read in
    let turn : let a = c.args in let l = c.loop-depth in Turn a.p.now a.s.now l.frames l.spans a.from l.due l.depth l.i l.j c.passed-due.result = record { inv = c.loop-depth.invariant; some = c.loop-depth-test.true; shifted = c.passed-due.ensures } in
    let written : let a = c.args in let l = c.loop-depth in Written a.p.now a.s.now l.frames l.spans a.from l.due l.depth l.i l.j c.passed-due.result = record { turn = turn; place = c.if-places-eq1.true; bit = c.if-written-eq0.false } in
    let low = c.if-p-i-lt128.true in
    let here = written in
    left_word (turn) c.if-places-eq0.false _ _ (word_room here low (read)) ((place-stands here (read)).nodes low).1
    (word-later here c.in_ok-next.ensures low)

pub loop-depth-preserved-then-map-ne0 : goal.loop-depth-preserved-then-map-ne0
loop-depth-preserved-then-map-ne0 c =
    let read : let a = c.args in InputsRead a.p.now a.s.now = c.requires.inputs_read in
    let turn : let a = c.args in let l = c.loop-depth in Turn a.p.now a.s.now l.frames l.spans a.from l.due l.depth l.i l.j c.passed-due.result = record { inv = c.loop-depth.invariant; some = c.loop-depth-test.true; shifted = c.passed-due.ensures } in
    let written : let a = c.args in let l = c.loop-depth in Written a.p.now a.s.now l.frames l.spans a.from l.due l.depth l.i l.j c.passed-due.result = record { turn = turn; place = c.if-places-eq1.true; bit = c.if-written-eq0.false } in
    turn_pushed (written) c.in_ok-next.ensures c.if-p-i-lt128.true (read) _
    (rw (c.map_at-map.ensures, c.map_at-then-map-ne0.ensures) at c.frame-due-then-map-ne0.ensures)

pub loop-depth-preserved-else-map-ne0 : goal.loop-depth-preserved-else-map-ne0
loop-depth-preserved-else-map-ne0 c =
    let turn : let a = c.args in let l = c.loop-depth in Turn a.p.now a.s.now l.frames l.spans a.from l.due l.depth l.i l.j c.passed-due.result = record { inv = c.loop-depth.invariant; some = c.loop-depth-test.true; shifted = c.passed-due.ensures } in
    let written : let a = c.args in let l = c.loop-depth in Written a.p.now a.s.now l.frames l.spans a.from l.due l.depth l.i l.j c.passed-due.result = record { turn = turn; place = c.if-places-eq1.true; bit = c.if-written-eq0.false } in
    turn_leaf (written) c.in_ok-next.ensures c.if-p-i-lt128.true (sym c.map_at-map.ensures ∙ c.if-map-ne0.false)

pub loop-depth-preserved-else-p-i-lt128 : goal.loop-depth-preserved-else-p-i-lt128
loop-depth-preserved-else-p-i-lt128 c =
    let turn : let a = c.args in let l = c.loop-depth in Turn a.p.now a.s.now l.frames l.spans a.from l.due l.depth l.i l.j c.passed-due.result = record { inv = c.loop-depth.invariant; some = c.loop-depth-test.true; shifted = c.passed-due.ensures } in
    let written : let a = c.args in let l = c.loop-depth in Written a.p.now a.s.now l.frames l.spans a.from l.due l.depth l.i l.j c.passed-due.result = record { turn = turn; place = c.if-places-eq1.true; bit = c.if-written-eq0.false } in
    turn_named (written) c.in_ok-next.ensures c.if-p-i-lt128.false

pub loop-depth-preserved : goal.loop-depth-preserved
loop-depth-preserved c =
    let turn : let a = c.args in let l = c.loop-depth in Turn a.p.now a.s.now l.frames l.spans a.from l.due l.depth l.i l.j c.passed-due.result = record { inv = c.loop-depth.invariant; some = c.loop-depth-test.true; shifted = c.passed-due.ensures } in
    turn_gap (turn) c.if-places-eq1.false

pub returns-else-i-p : goal.returns-else-i-p
returns-else-i-p c =
    framing_rest c.loop-depth.invariant c.if-i-p.false

pub returns-after-loop-depth : goal.returns-after-loop-depth
returns-after-loop-depth c =
    framing_ends c.loop-depth.invariant c.loop-depth-test.false
