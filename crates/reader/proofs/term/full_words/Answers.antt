-- `reader::term::full_words` meets its contract. The loop's invariant: reading on from the cursor gives what it gave from the
-- first cursor on. The measure is a bound on the turns that are left.
--
--   word-turn     the turn at a full word, up to where its place is passed
--   known         the word's number is one of the tables'
--   past, below   the cursor behind the word, and at its places
--
use mathlib.Core.Path.{◌≡◌, refl, sym, ap, subst, ◌∙◌}
use mathlib.Core.Bool.{true}
use mathlib.Core.Logic.{inl, inr}
use Prim.Native.Nat.{◌<◌}
use native.Mathlib.Omega.{arith}
use native.Mathlib.Nat.{lt_of_lt_of_le}
use lib.ListN.{get_or, drop}
use Rattle.signature.specs.Tables.{vocabulary_in}
use Rattle.reader.specs.Full.{NotFull}
use Rattle.cursors.specs.Cursors.{past_word, went_down, at_frame}
use Rattle.reader.proofs.Tables.{few_words}
use Rattle.reader.proofs.Turns.{turned_none, turned_as, turned-ends, turned_up, turned_advanced, turned-bare, turned_down}
use Rattle.reader.proofs.Full.{FullHere, full-here, not_full}
use Rattle.reader.proofs.Turns.{WordTurn, less_up, less_advanced, less_down, less_as}
use Rattle.reader.proofs.Turns.{first-due, none_due, advance_asks, pass_asks, kind-inside, word_asks}
use Rattle.reader.proofs.term.full_words.Goals as goal

pub loop-c-init : goal.loop-c-init
loop-c-init c = turned_none c.requires

pub loop-c-smaller-then-written-eq0 : goal.loop-c-smaller-then-written-eq0
loop-c-smaller-then-written-eq0 c =
    let t = c.args.t.now in
    less_as t c.loop-c.frames c.up-c.ensures (less_up t c.loop-c.frames c.loop-c.c c.loop-c-test.true)

pub loop-c-preserved-then-written-eq0 : goal.loop-c-preserved-then-written-eq0
loop-c-preserved-then-written-eq0 c =
    turned_as c.up-c.ensures
    (turned_up c.loop-c.invariant c.loop-c-test.true (none_due _ c.if-due-eq0.true) (sym c.written.ensures ∙ c.if-written-eq0.true))

pub loop-c-smaller-else-written-eq0 : goal.loop-c-smaller-else-written-eq0
loop-c-smaller-else-written-eq0 c =
    let t = c.args.t.now in
    let asks = advance_asks c.loop-c.invariant.going.due in
    less_as t c.loop-c.frames c.onto-c.ensures
    (less_advanced t c.loop-c.frames c.loop-c.c (c.advanced.ensures asks.0 asks.1 asks.2) (none_due _ c.if-due-eq0.true)
    (λ e. c.if-written-eq0.false (c.written.ensures ∙ e)))

pub loop-c-preserved-else-written-eq0 : goal.loop-c-preserved-else-written-eq0
loop-c-preserved-else-written-eq0 c =
    let asks = advance_asks c.loop-c.invariant.going.due in
    turned_as c.onto-c.ensures
    (turned_advanced c.loop-c.invariant c.loop-c-test.true (c.advanced.ensures asks.0 asks.1 asks.2) (none_due _ c.if-due-eq0.true))

pub bounds-w-kinds : goal.bounds-w-kinds
bounds-w-kinds c =
    kind-inside c.loop-c.invariant.going.due (first-due c.loop-c.c.due c.if-due-eq0.false) c.kinds.ensures

pub returns-then-depth-gt31 : goal.returns-then-depth-gt31
returns-then-depth-gt31 c =
    turned-ends c.loop-c.invariant (λ low. first-due c.loop-c.c.due c.if-due-eq0.false) (λ low. inl c.if-depth-gt31.true)

pub full_word-requires : goal.full_word-requires
full_word-requires c =
    few_words c.args.w.tables c.args.w.bytes

pub returns-then-not-full_word : goal.returns-then-not-full_word
returns-then-not-full_word c =
    let v = c.args.w.v.now in
    let t = c.args.t.now in
    turned-ends c.loop-c.invariant (λ low. first-due c.loop-c.c.due c.if-due-eq0.false)
    (λ low. inr
    (subst (λ j. NotFull (vocabulary_in v) (get_or v j 0) (drop c.loop-c.c.at t)) c.kinds.ensures
    (not_full c.args.w.tables t c.loop-c.c.at (c.full_word.ensures.other c.if-not-full_word.true))))

pub bounds-maps-f : goal.bounds-maps-f
bounds-maps-f c =
    let word-turn : let a = c.args in WordTurn a.w.v.now a.t.now a.frames.now c.loop-c.frames a.from c.loop-c.c a.w.count a.w.offsets.now a.w.results.now a.w.maps.now (get_or c.args.t.now c.loop-c.c.at 0) c.passed-rest.result = let a = c.args in
    let first = first-due c.loop-c.c.due c.if-due-eq0.false in
    let asks = pass_asks c.loop-c.invariant.going.due first in
    record {
      turned = c.loop-c.invariant;
      low = c.loop-c-test.true;
      first = first;
      behind = c.passed-rest.ensures asks.0 asks.1 asks.2;
      room = c.if-depth-gt31.false;
      tables = c.args.w.tables;
      bytes = c.args.w.bytes;
      here =
          subst (λ j. FullHere a.w.v.now a.t.now a.w.count c.loop-c.c.at (get_or a.w.v.now j 0) (get_or c.args.t.now c.loop-c.c.at 0)) c.kinds.ensures
          (full-here c.args.w.tables (c.full_word.ensures.stands c.if-not-full_word.false) refl);
    } in
    let known : (get_or c.args.t.now c.loop-c.c.at 0) < 96 = lt_of_lt_of_le (word-turn).here.known (few_words (word-turn).tables (word-turn).bytes) in
    known

pub loop-c-smaller-then-maps-f-ne0 : goal.loop-c-smaller-then-maps-f-ne0
loop-c-smaller-then-maps-f-ne0 c =
    let word-turn : let a = c.args in WordTurn a.w.v.now a.t.now a.frames.now c.loop-c.frames a.from c.loop-c.c a.w.count a.w.offsets.now a.w.results.now a.w.maps.now (get_or c.args.t.now c.loop-c.c.at 0) c.passed-rest.result = let a = c.args in
    let first = first-due c.loop-c.c.due c.if-due-eq0.false in
    let asks = pass_asks c.loop-c.invariant.going.due first in
    record {
      turned = c.loop-c.invariant;
      low = c.loop-c-test.true;
      first = first;
      behind = c.passed-rest.ensures asks.0 asks.1 asks.2;
      room = c.if-depth-gt31.false;
      tables = c.args.w.tables;
      bytes = c.args.w.bytes;
      here =
          subst (λ j. FullHere a.w.v.now a.t.now a.w.count c.loop-c.c.at (get_or a.w.v.now j 0) (get_or c.args.t.now c.loop-c.c.at 0)) c.kinds.ensures
          (full-here c.args.w.tables (c.full_word.ensures.stands c.if-not-full_word.false) refl);
    } in
    let past : c.whole_word-c.result ≡ past_word true (at_frame c.passed-rest.result c.loop-c.c) = let onto = c.onto in
    let turn = word-turn in
    let asks =
    word_asks onto.result turn.turned.going (ap (λ d. d.at) onto.ensures) (ap (λ d. d.words) onto.ensures) turn.here.long c.well_formed.1.0.0 in
    c.whole_word-c.ensures asks.0 asks.1 ∙ ap (past_word true) onto.ensures in
    let below : c.down-c.result ≡ went_down c.full.result (past_word true (at_frame c.passed-rest.result c.loop-c.c)) = let depth = ap (λ d. d.depth) (past) in
    let room = (word-turn).room in
    c.down-c.ensures (omega arith) ∙ ap (went_down c.full.result) (past) in
    less_as c.args.t.now _ (below)
    (less_down (word-turn) c.full.result c.full.ensures)

pub loop-c-preserved-then-maps-f-ne0 : goal.loop-c-preserved-then-maps-f-ne0
loop-c-preserved-then-maps-f-ne0 c =
    let word-turn : let a = c.args in WordTurn a.w.v.now a.t.now a.frames.now c.loop-c.frames a.from c.loop-c.c a.w.count a.w.offsets.now a.w.results.now a.w.maps.now (get_or c.args.t.now c.loop-c.c.at 0) c.passed-rest.result = let a = c.args in
    let first = first-due c.loop-c.c.due c.if-due-eq0.false in
    let asks = pass_asks c.loop-c.invariant.going.due first in
    record {
      turned = c.loop-c.invariant;
      low = c.loop-c-test.true;
      first = first;
      behind = c.passed-rest.ensures asks.0 asks.1 asks.2;
      room = c.if-depth-gt31.false;
      tables = c.args.w.tables;
      bytes = c.args.w.bytes;
      here =
          subst (λ j. FullHere a.w.v.now a.t.now a.w.count c.loop-c.c.at (get_or a.w.v.now j 0) (get_or c.args.t.now c.loop-c.c.at 0)) c.kinds.ensures
          (full-here c.args.w.tables (c.full_word.ensures.stands c.if-not-full_word.false) refl);
    } in
    let past : c.whole_word-c.result ≡ past_word true (at_frame c.passed-rest.result c.loop-c.c) = let onto = c.onto in
    let turn = word-turn in
    let asks =
    word_asks onto.result turn.turned.going (ap (λ d. d.at) onto.ensures) (ap (λ d. d.words) onto.ensures) turn.here.long c.well_formed.1.0.0 in
    c.whole_word-c.ensures asks.0 asks.1 ∙ ap (past_word true) onto.ensures in
    let below : c.down-c.result ≡ went_down c.full.result (past_word true (at_frame c.passed-rest.result c.loop-c.c)) = let depth = ap (λ d. d.depth) (past) in
    let room = (word-turn).room in
    c.down-c.ensures (omega arith) ∙ ap (went_down c.full.result) (past) in
    turned_as (below)
    (turned_down (word-turn) c.if-maps-f-ne0.true c.full.ensures)

pub loop-c-preserved : goal.loop-c-preserved
loop-c-preserved c =
    let word-turn : let a = c.args in WordTurn a.w.v.now a.t.now a.frames.now c.loop-c.frames a.from c.loop-c.c a.w.count a.w.offsets.now a.w.results.now a.w.maps.now (get_or c.args.t.now c.loop-c.c.at 0) c.passed-rest.result = let a = c.args in
    let first = first-due c.loop-c.c.due c.if-due-eq0.false in
    let asks = pass_asks c.loop-c.invariant.going.due first in
    record {
      turned = c.loop-c.invariant;
      low = c.loop-c-test.true;
      first = first;
      behind = c.passed-rest.ensures asks.0 asks.1 asks.2;
      room = c.if-depth-gt31.false;
      tables = c.args.w.tables;
      bytes = c.args.w.bytes;
      here =
          subst (λ j. FullHere a.w.v.now a.t.now a.w.count c.loop-c.c.at (get_or a.w.v.now j 0) (get_or c.args.t.now c.loop-c.c.at 0)) c.kinds.ensures
          (full-here c.args.w.tables (c.full_word.ensures.stands c.if-not-full_word.false) refl);
    } in
    let past : c.whole_word-c.result ≡ past_word true (at_frame c.passed-rest.result c.loop-c.c) = let onto = c.onto in
    let turn = word-turn in
    let asks =
    word_asks onto.result turn.turned.going (ap (λ d. d.at) onto.ensures) (ap (λ d. d.words) onto.ensures) turn.here.long c.well_formed.1.0.0 in
    c.whole_word-c.ensures asks.0 asks.1 ∙ ap (past_word true) onto.ensures in
    turned_as (past) (turned-bare (word-turn) c.if-maps-f-ne0.false)
