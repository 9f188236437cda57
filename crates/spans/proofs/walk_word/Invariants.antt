-- `spans::walk_word` meets its contract. The loop's invariant: what the frames say is due at i and j. The measure is the
-- number of turns that the frames and the rest of the situation can take.
--
--   read                       the inputs, as they are known at a turn
--   turn, written              what is known of the place that a turn takes off the frame
--
use Rattle.spans.proofs.Framing.{Framing}
use Rattle.spans.proofs.Left.{left_of}
use Rattle.spans.proofs.walk_word.Given as goal

abbrev pub invariant-loop-depth : goal.invariant-loop-depth
invariant-loop-depth l = Framing l.p l.s l.frames l.spans l.from l.due l.depth l.i l.j

abbrev pub decreases-loop-depth : goal.decreases-loop-depth
decreases-loop-depth l = left_of l.s l.due l.frames l.depth l.j
