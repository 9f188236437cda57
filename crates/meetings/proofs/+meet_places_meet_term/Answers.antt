-- `meetings::meet_places` and `meetings::meet_term` meet their contracts.
use Rattle.meetings.specs.Walking.{meet_term}
use Rattle.meetings.proofs.Coming.{met_none, met_open, met_name, met_apart, met_word, coming_begins, coming_all, coming_ours, coming_theirs, coming_both, some_levels}
use Rattle.meetings.proofs.+meet_places_meet_term.Goals as goal

-- ---- meet_places

pub meet_places-loop-ours-init : goal.meet_places-loop-ours-init
meet_places-loop-ours-init t c =
    let a = c.args in
    coming_begins (meet_term a.left a.entry.now a.pattern.now a.marks.now) a.entry.now a.pattern.now a.marks.now a.left a.i a.j
    c.requires.i_in_bounds c.requires.walks.near c.map-ours.ensures c.map-theirs.ensures

-- .. where the pattern has not written the place
pub meet_places-loop-ours-preserved-then-there-eq0 : goal.meet_places-loop-ours-preserved-then-there-eq0
meet_places-loop-ours-preserved-then-there-eq0 t c = coming_ours c.loop-ours.invariant c.loop-ours-test.true c.if-there-eq0.true c.pass-at.ensures

-- .. where the pattern has, and the entry has not
pub meet_places-loop-ours-preserved-then-here-eq0 : goal.meet_places-loop-ours-preserved-then-here-eq0
meet_places-loop-ours-preserved-then-here-eq0 t c =
    coming_theirs c.loop-ours.invariant c.loop-ours-test.true c.if-there-eq0.false c.mark_at-mark.ensures c.if-here-eq0.true

-- .. where the entry has too
pub meet_places-loop-ours-preserved : goal.meet_places-loop-ours-preserved
meet_places-loop-ours-preserved t c =
    coming_both c.loop-ours.invariant c.loop-ours-test.true c.if-there-eq0.false c.mark_at-mark.ensures c.if-here-eq0.false c.meet_term.ensures c.in_ok-below.was

pub meet_places-returns : goal.meet_places-returns
meet_places-returns t c = coming_all c.loop-ours.invariant c.loop-ours-test.false

-- ---- meet_term

pub meet_term-returns-then-left-eq0 : goal.meet_term-returns-then-left-eq0
meet_term-returns-then-left-eq0 t c =
    let a = c.args in met_none a.left a.entry.now a.pattern.now a.marks.now a.i a.j c.requires.in_entry c.if-left-eq0.true

pub meet_term-returns-then-p-gt127 : goal.meet_term-returns-then-p-gt127
meet_term-returns-then-p-gt127 t c =
    let a = c.args in
    met_open a.left a.entry.now a.pattern.now a.marks.now a.i a.j c.requires.in_entry (some_levels c.if-left-eq0.false) c.byte-p.ensures c.if-p-gt127.true c.pass.ensures

pub meet_term-returns-then-e-gt127 : goal.meet_term-returns-then-e-gt127
meet_term-returns-then-e-gt127 t c =
    let a = c.args in
    met_name a.left a.entry.now a.pattern.now a.marks.now a.i a.j c.requires.in_entry (some_levels c.if-left-eq0.false) c.byte-p.ensures c.if-p-gt127.false
    c.byte-e.ensures c.if-e-gt127.true c.pass-then-e-gt127.ensures c.mark_at.ensures

pub meet_term-returns-then-e-p : goal.meet_term-returns-then-e-p
meet_term-returns-then-e-p t c =
    let a = c.args in
    met_apart a.left a.entry.now a.pattern.now a.marks.now a.i a.j c.requires.in_entry (some_levels c.if-left-eq0.false) c.byte-p.ensures c.if-p-gt127.false
    c.byte-e.ensures c.if-e-gt127.false c.if-e-p.true

pub meet_term-returns : goal.meet_term-returns
meet_term-returns t c =
    let a = c.args in
    met_word a.left a.entry.now a.pattern.now a.marks.now a.i a.j c.requires.in_entry (some_levels c.if-left-eq0.false) c.byte-p.ensures c.if-p-gt127.false
    c.byte-e.ensures c.if-e-gt127.false c.if-e-p.false c.meet_places.ensures
