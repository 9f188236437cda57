-- `extents::pass_terms` meets its contract: behind each node the terms of its map are due, and those that were due besides.
use mathlib.Core.Path.{subst}
use native.Mathlib.Omega.{arith}
use Rattle.wire.proofs.Ones.{no_ones}
use Rattle.extents.proofs.Nodes.{DueFrom, from_none, from-node, from-below, bare-ones}
use Rattle.extents.proofs.+pass_terms.Goals as goal

pub loop-due-preserved-then-map-ne0 : goal.loop-due-preserved-then-map-ne0
loop-due-preserved-then-map-ne0 t c = (
  from-below _ _ (from-node c.loop-due.invariant.0 c.node_at-node.ensures _ c.passed-due.ensures) c.pass_terms-at.ensures,
  omega (arith, c.loop-due.invariant.1, c.node_at-node.ensures.forth, c.pass_terms-at.ensures),
)

pub loop-due-preserved : goal.loop-due-preserved
loop-due-preserved t c = (
  subst (DueFrom _ _ _) (bare-ones _ _ c.if-map-ne0.false) (from-node c.loop-due.invariant.0 c.node_at-node.ensures _ c.passed-due.ensures),
  omega (arith, c.loop-due.invariant.1, c.node_at-node.ensures.forth),
)

pub returns : goal.returns
returns t c = from_none c.loop-due.invariant.0 (no_ones _ c.loop-due-test.false)
