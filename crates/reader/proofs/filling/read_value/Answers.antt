-- `reader::filling::read_value` meets its contract.
--
--   at-word       a full word stands where the value begins
--   known         its number is one of the tables'
--   past          the cursor behind it
--   came-first    what reading came to at its places
--   bare_ends, down_ends    the value that was read, of one word and of more
--
use Rattle.reader.proofs.Tables.{few_words, in_order}
use Rattle.reader.proofs.Full.{full-here}
use Rattle.reader.proofs.FullSteps.{FullNode}
use Rattle.reader.proofs.Places.{root-going, positive}
use Rattle.reader.proofs.Turns.{word_asks}
use Rattle.reader.proofs.Values.{Came, came_bare, came_down, came_as, came_passed, came_ends, came_stuck}
use Rattle.cursors.specs.Cursors.{started, past_word, went_down}
use Rattle.reader.specs.Fillings.{FaultAt, ValueEnds}
use Rattle.reader.proofs.Faults.{lent_fits}
use mathlib.Core.Bool.{true}
use Prim.Native.Nat.{◌-◌, ◌<◌}
use native.Mathlib.Nat.{lt_of_lt_of_le}
use native.Mathlib.Omega.{arith}
use mathlib.Core.Path.{◌≡◌, refl, ap, subst, ◌∙◌}
use lib.ListN.{length, get_or, take, drop, replicate}
use borrow.Author.Rules.{rules}
use Rattle.reader.proofs.filling.read_value.Goals as goal

pub full_word-requires : goal.full_word-requires
full_word-requires c = few_words c.args.w.tables c.args.w.bytes

pub fault_at-requires : goal.fault_at-requires
fault_at-requires c = (search rules, few_words c.args.w.tables c.args.w.bytes)

pub bounds-maps-f : goal.bounds-maps-f
bounds-maps-f c =
    let at-word : let a = c.args in FullNode a.w.v.now a.b.now (replicate 32 0) (started a.from) a.w.count a.w.offsets.now a.w.results.now a.w.maps.now a.kind (get_or c.args.b.now c.args.from 0) = let a = c.args in
    record {
      going = root-going a.w.v.now a.b.now a.from a.kind c.requires;
      room = omega arith;
      tables = c.args.w.tables;
      bytes = c.args.w.bytes;
      here = full-here c.args.w.tables (c.full_word.ensures.stands c.if-not-full_word.false) refl;
    } in
    let known : (get_or c.args.b.now c.args.from 0) < 96 = lt_of_lt_of_le (at-word).here.known (few_words (at-word).tables (at-word).bytes) in
    known

pub returns-then-maps-f-eq0 : goal.returns-then-maps-f-eq0
returns-then-maps-f-eq0 c =
    let at-word : let a = c.args in FullNode a.w.v.now a.b.now (replicate 32 0) (started a.from) a.w.count a.w.offsets.now a.w.results.now a.w.maps.now a.kind (get_or c.args.b.now c.args.from 0) = let a = c.args in
    record {
      going = root-going a.w.v.now a.b.now a.from a.kind c.requires;
      room = omega arith;
      tables = c.args.w.tables;
      bytes = c.args.w.bytes;
      here = full-here c.args.w.tables (c.full_word.ensures.stands c.if-not-full_word.false) refl;
    } in
    let past : let a = c.args in c.whole_word-past.result ≡ past_word true (started a.from) = let node = at-word in
    let begun = c.start in
    let asks =
    word_asks begun.result node.going (ap (λ d. d.at) begun.ensures) (ap (λ d. d.words) begun.ensures) node.here.long
    c.well_formed.1.0.0 in
    c.whole_word-past.ensures asks.0 asks.1 ∙ ap (past_word true) begun.ensures in
    let bare_ends : get_or c.args.w.maps.now (get_or c.args.b.now c.args.from 0) 0 ≡ 0 → ValueEnds c.args.w.v.now c.args.b.now c.args.from c.args.kind c.whole_word-past.result.at c.whole_word-past.result.deepest = λ e. let node = at-word in
    came_ends (in_order node.tables node.bytes) (came_as (past) (came_bare node e)) c.requires (ap (λ d. d.depth) (past)) in
    bare_ends c.if-maps-f-eq0.true

pub full_words-c-requires : goal.full_words-c-requires
full_words-c-requires c =
    let at-word : let a = c.args in FullNode a.w.v.now a.b.now (replicate 32 0) (started a.from) a.w.count a.w.offsets.now a.w.results.now a.w.maps.now a.kind (get_or c.args.b.now c.args.from 0) = let a = c.args in
    record {
      going = root-going a.w.v.now a.b.now a.from a.kind c.requires;
      room = omega arith;
      tables = c.args.w.tables;
      bytes = c.args.w.bytes;
      here = full-here c.args.w.tables (c.full_word.ensures.stands c.if-not-full_word.false) refl;
    } in
    let past : let a = c.args in c.whole_word-past.result ≡ past_word true (started a.from) = let node = at-word in
    let begun = c.start in
    let asks =
    word_asks begun.result node.going (ap (λ d. d.at) begun.ensures) (ap (λ d. d.words) begun.ensures) node.here.long
    c.well_formed.1.0.0 in
    c.whole_word-past.ensures asks.0 asks.1 ∙ ap (past_word true) begun.ensures in
    let came-first : let a = c.args in Came a.w.v.now a.b.now a.from a.kind (replicate 32 0) c.down-first.result = let depth = ap (λ d. d.depth) (past) in
    came_as (c.down-first.ensures (omega arith) ∙ ap (went_down c.full.result) (past))
    (came_down (at-word) c.if-maps-f-eq0.false c.full.ensures) in
    (came-first).going

pub overflow_cast-result-then-depth-eq0 : goal.overflow_cast-result-then-depth-eq0
overflow_cast-result-then-depth-eq0 c =
    let at-word : let a = c.args in FullNode a.w.v.now a.b.now (replicate 32 0) (started a.from) a.w.count a.w.offsets.now a.w.results.now a.w.maps.now a.kind (get_or c.args.b.now c.args.from 0) = let a = c.args in
    record {
      going = root-going a.w.v.now a.b.now a.from a.kind c.requires;
      room = omega arith;
      tables = c.args.w.tables;
      bytes = c.args.w.bytes;
      here = full-here c.args.w.tables (c.full_word.ensures.stands c.if-not-full_word.false) refl;
    } in
    let past : let a = c.args in c.whole_word-past.result ≡ past_word true (started a.from) = let node = at-word in
    let begun = c.start in
    let asks =
    word_asks begun.result node.going (ap (λ d. d.at) begun.ensures) (ap (λ d. d.words) begun.ensures) node.here.long
    c.well_formed.1.0.0 in
    c.whole_word-past.ensures asks.0 asks.1 ∙ ap (past_word true) begun.ensures in
    let came-first : let a = c.args in Came a.w.v.now a.b.now a.from a.kind (replicate 32 0) c.down-first.result = let depth = ap (λ d. d.depth) (past) in
    came_as (c.down-first.ensures (omega arith) ∙ ap (went_down c.full.result) (past))
    (came_down (at-word) c.if-maps-f-eq0.false c.full.ensures) in
    let down_ends : c.full_words-c.result.depth ≡ 0 → ValueEnds c.args.w.v.now c.args.b.now c.args.from c.args.kind c.full_words-c.result.at c.full_words-c.result.deepest = λ e. let node = at-word in
    came_ends (in_order node.tables node.bytes) (came_passed (came-first) c.full_words-c.ensures) c.requires e in
    let x = (down_ends c.if-depth-eq0.true).shallow in omega arith

pub returns-then-depth-eq0 : goal.returns-then-depth-eq0
returns-then-depth-eq0 c =
    let at-word : let a = c.args in FullNode a.w.v.now a.b.now (replicate 32 0) (started a.from) a.w.count a.w.offsets.now a.w.results.now a.w.maps.now a.kind (get_or c.args.b.now c.args.from 0) = let a = c.args in
    record {
      going = root-going a.w.v.now a.b.now a.from a.kind c.requires;
      room = omega arith;
      tables = c.args.w.tables;
      bytes = c.args.w.bytes;
      here = full-here c.args.w.tables (c.full_word.ensures.stands c.if-not-full_word.false) refl;
    } in
    let past : let a = c.args in c.whole_word-past.result ≡ past_word true (started a.from) = let node = at-word in
    let begun = c.start in
    let asks =
    word_asks begun.result node.going (ap (λ d. d.at) begun.ensures) (ap (λ d. d.words) begun.ensures) node.here.long
    c.well_formed.1.0.0 in
    c.whole_word-past.ensures asks.0 asks.1 ∙ ap (past_word true) begun.ensures in
    let came-first : let a = c.args in Came a.w.v.now a.b.now a.from a.kind (replicate 32 0) c.down-first.result = let depth = ap (λ d. d.depth) (past) in
    came_as (c.down-first.ensures (omega arith) ∙ ap (went_down c.full.result) (past))
    (came_down (at-word) c.if-maps-f-eq0.false c.full.ensures) in
    let down_ends : c.full_words-c.result.depth ≡ 0 → ValueEnds c.args.w.v.now c.args.b.now c.args.from c.args.kind c.full_words-c.result.at c.full_words-c.result.deepest = λ e. let node = at-word in
    came_ends (in_order node.tables node.bytes) (came_passed (came-first) c.full_words-c.ensures) c.requires e in
    down_ends c.if-depth-eq0.true

pub fault_at-requires-2 : goal.fault_at-requires-2
fault_at-requires-2 c = (lent_fits c.args.b.now c.full_words-c.result.at c.full_words-c.ensures.going.inside c.well_formed.1.0.0, few_words c.args.w.tables c.args.w.bytes)

pub returns : goal.returns
returns c =
    let at-word : let a = c.args in FullNode a.w.v.now a.b.now (replicate 32 0) (started a.from) a.w.count a.w.offsets.now a.w.results.now a.w.maps.now a.kind (get_or c.args.b.now c.args.from 0) = let a = c.args in
    record {
      going = root-going a.w.v.now a.b.now a.from a.kind c.requires;
      room = omega arith;
      tables = c.args.w.tables;
      bytes = c.args.w.bytes;
      here = full-here c.args.w.tables (c.full_word.ensures.stands c.if-not-full_word.false) refl;
    } in
    let past : let a = c.args in c.whole_word-past.result ≡ past_word true (started a.from) = let node = at-word in
    let begun = c.start in
    let asks =
    word_asks begun.result node.going (ap (λ d. d.at) begun.ensures) (ap (λ d. d.words) begun.ensures) node.here.long
    c.well_formed.1.0.0 in
    c.whole_word-past.ensures asks.0 asks.1 ∙ ap (past_word true) begun.ensures in
    let came-first : let a = c.args in Came a.w.v.now a.b.now a.from a.kind (replicate 32 0) c.down-first.result = let depth = ap (λ d. d.depth) (past) in
    came_as (c.down-first.ensures (omega arith) ∙ ap (went_down c.full.result) (past))
    (came_down (at-word) c.if-maps-f-eq0.false c.full.ensures) in
    let a = c.args in
    let b = a.b.now in
    let v = a.w.v.now in
    let p = c.full_words-c.ensures in
    let low = positive _ c.if-depth-eq0.false in
    let x = c.full_words-c.result in
    came_stuck c.args.w.tables.tabled (came_passed (came-first) p) (p.due low) (p.stuck low)
    (subst (λ j. FaultAt (take (length b - x.at) (drop x.at b)) x.at x.depth (get_or v j 0) a.w.count a.w.results.now c.fault_at-2.result) c.kinds.ensures c.fault_at-2.ensures)
