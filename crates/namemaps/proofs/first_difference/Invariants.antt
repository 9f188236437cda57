-- `namemaps::first_difference` meets its contract. The invariant: map and table are the same below byte i.
use Rattle.namemaps.proofs.Comparing.{Alike}
use Rattle.namemaps.proofs.first_difference.Given as goal

abbrev pub invariant-loop-i : goal.invariant-loop-i
invariant-loop-i l = Alike l.map l.names l.i
