-- `namemaps::first_difference` meets its contract. The invariant: map and table are the same below byte i.
use Rattle.namemaps.proofs.Comparing.{alike_turn, alike-found}
use Rattle.namemaps.proofs.first_difference.Goals as goal

pub returns-then-written-named : goal.returns-then-written-named
returns-then-written-named c =
    alike-found c.loop-i.invariant c.loop-i-test.true c.byte_at-written.ensures
    c.byte_from-named.ensures c.lowest_apart.ensures

pub loop-i-preserved : goal.loop-i-preserved
loop-i-preserved c =
    alike_turn c.loop-i.invariant c.loop-i-test.true c.byte_at-written.ensures
    c.byte_from-named.ensures c.if-written-named.false
