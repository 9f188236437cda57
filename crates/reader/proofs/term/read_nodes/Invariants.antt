-- `reader::term::read_nodes` meets its contract. The loop's invariant: reading the node that is due at the cursor, and all that
-- is due behind it, gives what it gave from the first node on. The measure is the number of bytes left.
use Prim.Native.Nat.{◌-◌}
use mathlib.Core.Bool.{false}
use lib.ListN.{length, replicate}
use Rattle.signature.specs.Tables.{vocabulary_in}
use Rattle.reader.specs.Terms.{node_run}
use Rattle.reader.proofs.Places.{AtNode}
use Rattle.reader.proofs.term.read_nodes.Given as goal

abbrev pub invariant-loop-x : goal.invariant-loop-x
invariant-loop-x l =
    AtNode l.w.v.now l.t l.initial.names (λ seen. node_run (vocabulary_in l.w.v.now) l.w.v.now l.t (replicate 32 0) seen false l.initial.kind l.initial.c) l.names l.frames l.c l.kind

abbrev pub decreases-loop-x : goal.decreases-loop-x
decreases-loop-x l = length l.t - l.c.at
