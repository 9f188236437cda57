-- `extents::front_size` meets its contract. The loop's invariant: the terms that are due from `at` on end where the term does. The measure
-- is the number of bytes left.
use mathlib.Core.Path.{subst, ◌∙◌}
use Rattle.wire.proofs.Ones.{no_ones}
use Rattle.extents.proofs.Nodes.{DueFrom, from-begins, from_none, from-node, from-below, beside_ones, joined-ones, bare-ones}
use Rattle.extents.proofs.front_size.Goals as goal

pub loop-at-init : goal.loop-at-init
loop-at-init c = from-begins _

pub returns-then-due-eq0 : goal.returns-then-due-eq0
returns-then-due-eq0 c = from_none c.loop-at.invariant (no_ones _ c.if-due-eq0.true)

pub loop-at-preserved-then-due-eq0-2 : goal.loop-at-preserved-then-due-eq0-2
loop-at-preserved-then-due-eq0-2 c = subst (DueFrom _ _ _) (beside_ones _ _ c.if-due-eq0-2.true c.node_at-node.ensures.small) (from-node c.loop-at.invariant c.node_at-node.ensures _ c.passed-due.ensures)

pub pass_terms-requires-else-due-lt-ROOM : goal.pass_terms-requires-else-due-lt-ROOM
pass_terms-requires-else-due-lt-ROOM c = (from-below _ _ (from-node c.loop-at.invariant c.node_at-node.ensures _ c.passed-due.ensures) c.pass_terms.ensures).inside

pub returns-else-due-lt-ROOM : goal.returns-else-due-lt-ROOM
returns-else-due-lt-ROOM c = c.pass_terms-else-due-lt-ROOM.ensures ∙ (from-below _ _ (from-node c.loop-at.invariant c.node_at-node.ensures _ c.passed-due.ensures) c.pass_terms.ensures).left

pub loop-at-preserved-then-due-lt-ROOM : goal.loop-at-preserved-then-due-lt-ROOM
loop-at-preserved-then-due-lt-ROOM c = subst (DueFrom _ _ _) (joined-ones _ _ c.node_at-node.ensures.small) (from-node c.loop-at.invariant c.node_at-node.ensures _ c.passed-due.ensures)

pub loop-at-preserved : goal.loop-at-preserved
loop-at-preserved c = subst (DueFrom _ _ _) (bare-ones _ _ c.if-map-ne0.false) (from-node c.loop-at.invariant c.node_at-node.ensures _ c.passed-due.ensures)
