-- `wording::Tables::write_term` and `write_behind` meet their contracts. The loop's invariant: the places before i are on the page. The
-- measure is 2 for each level that is left.
use Prim.Native.Nat.{◌+◌, ◌*◌}
use Rattle.wire.specs.Map.{read_map}
use Rattle.texts.specs.Saying.{say_term, say_behind}
use Rattle.wording.specs.Tables.{tables_of}
use Rattle.wording.proofs.Placing.{Placing}
use Rattle.wording.proofs.Tables.+terms.Given as goal

abbrev pub decreases-write_behind : goal.decreases-write_behind
decreases-write_behind l = 2 * l.left + 1

abbrev pub decreases-write_term : goal.decreases-write_term
decreases-write_term l = 2 * l.left

abbrev pub invariant-write_behind-loop-i : goal.invariant-write_behind-loop-i
invariant-write_behind-loop-i l =
    Placing (say_term (tables_of l.self) l.left) l.n (say_behind (say_term (tables_of l.self) l.left) l.n (read_map l.bytes)) l.initial.page l.i l.map l.rest l.page
