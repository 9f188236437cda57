-- `cuts::walk::cut_node`, `cuts::walk::cut_place` and `cuts::walk::cut_places` meet their contracts.
use mathlib.Core.Path.{refl, subst, ◌∙◌}
use lib.ListN.{length}
use Rattle.std.specs.Prelude.{Ok}
use Rattle.others.proofs.Entries.{full_is}
use Rattle.cuts.specs.Cutting.{TermsEnd, PlacesEnd}
use Rattle.cuts.proofs.Walking.{stays_as, stays-told, moved_told}
use Rattle.cuts.proofs.Places.{places-last, places-full, places_early}
use Rattle.cuts.proofs.Turns.{reached-on}
use Rattle.cuts.proofs.Terms.{over-cut, closed-cut, node_early, node-full, node-on}
use Rattle.cuts.proofs.walk.+cut_node_cut_place_cut_places.Goals as goal

-- ---- cut_node, at a word

pub cut_node-returns-then-next-eq0-clause-cuts_word : goal.cut_node-returns-then-next-eq0-clause-cuts_word
cut_node-returns-then-next-eq0-clause-cuts_word t c =
    let node = c.in-Some.ensures.1 in
    λ h low. node_early c.args.out.now h refl low node c.write_own.new.out c.in_ok-next.was c.write_own.ensures.lists_own c.if-next-eq0.true c.args.copy.now

pub cut_node-returns-in_err-next-clause-cuts_word : goal.cut_node-returns-in_err-next-clause-cuts_word
cut_node-returns-in_err-next-clause-cuts_word t c =
    let node = c.in-Some.ensures.1 in
    λ h low.
    subst (TermsEnd h c.args.out.now c.args.copy.now c.write_own.new.out) (full_is c.from_residual.result c.from_residual.ensures.0)
    (node-full c.args.out.now h refl low node c.write_own.new.out c.in_err-next.was c.write_own.ensures.lists_own c.args.copy.now)

pub cut_node-returns-clause-cuts_word : goal.cut_node-returns-clause-cuts_word
cut_node-returns-clause-cuts_word t c =
    let node = c.in-Some.ensures.1 in
    let done = c.cut_places in
    λ h low.
    node-on c.args.out.now h refl low node c.write_own.new.out c.in_ok-next.was c.write_own.ensures.lists_own
    (moved_told _ _ c.in_ok-next.was c.write_own.ensures.moves) done.new.copy done.new.out done.result done.ensures.cuts_places

-- ---- cut_place, at a term

pub cut_place-returns-in-Some-clause-cuts_terms : goal.cut_place-returns-in-Some-clause-cuts_terms
cut_place-returns-in-Some-clause-cuts_terms t c =
    let over = c.take_over in
    λ h. over-cut c.args.out.now h c.wordless.ensures c.in-Some.is over.new.copy over.result over.ensures.stays_over over.ensures.takes_over

pub cut_place-returns-clause-cuts_terms : goal.cut_place-returns-clause-cuts_terms
cut_place-returns-clause-cuts_terms t c =
    let done = c.cut_node in
    λ h. closed-cut c.args.out.now h c.wordless.ensures c.in_default.is done.new.copy done.new.out done.result done.ensures.cuts_word

-- ---- cut_places, at the next place

pub cut_places-returns-then-last-clause-cuts_places : goal.cut_places-returns-then-last-clause-cuts_places
cut_places-returns-then-last-clause-cuts_places t c =
    let turn = c.loop-bits in
    turn.invariant.ends c.put_map.new.copy turn.out (Ok turn.w) (λ h. places-last turn.out h c.last.ensures c.if-last.true c.put_map.ensures)

pub cut_places-returns-in_err-next-clause-cuts_places : goal.cut_places-returns-in_err-next-clause-cuts_places
cut_places-returns-in_err-next-clause-cuts_places t c =
    let turn = c.loop-bits in
    let cut = c.cut_place in
    let some = c.last.ensures.no c.if-last.false in
    turn.invariant.ends cut.new.copy cut.new.out c.from_residual.result
    (λ h.
    subst (PlacesEnd h turn.out cut.new.copy cut.new.out) (full_is c.from_residual.result c.from_residual.ensures.0)
    (places-full turn.out h some.0 c.put_map.ensures cut.new.copy cut.new.out c.in_err-next.was cut.ensures.cuts_terms))

pub cut_places-returns-then-next-eq0-clause-cuts_places : goal.cut_places-returns-then-next-eq0-clause-cuts_places
cut_places-returns-then-next-eq0-clause-cuts_places t c =
    let turn = c.loop-bits in
    let cut = c.cut_place in
    let some = c.last.ensures.no c.if-last.false in
    turn.invariant.ends cut.new.copy cut.new.out (Ok c.in_ok-next.next)
    (λ h. places_early turn.out h some.0 c.put_map.ensures cut.new.copy cut.new.out c.in_ok-next.was cut.ensures.cuts_terms c.if-next-eq0.true)

pub cut_places-loop-bits-preserved : goal.cut_places-loop-bits-preserved
cut_places-loop-bits-preserved t c =
    let cut = c.cut_place in
    let some = c.last.ensures.no c.if-last.false in
    reached-on c.loop-bits.invariant some.0 c.put_map.ensures c.put_map.auto.copy cut.new.copy cut.new.out c.in_ok-next.was cut.ensures.cuts_terms c.if-next-eq0.false
    cut.auto.copy cut.auto.out
    (stays-told (length c.args.copy.now) (length c.args.entry.now) (length c.args.pattern.now) (length c.args.out.now) c.in_ok-next.was
    (stays_as (length c.args.entry.now) (length c.args.pattern.now) cut.result (c.put_map.auto.copy ∙ c.loop-bits.invariant.copy_length)
    c.loop-bits.invariant.out_length cut.ensures.stays_inside))
    c.above-bits.ensures.value c.above-bits.ensures.in_map_2
