-- `sizes::measure_front` meets its contract. The loop's invariant: what is summed, and what is left to sum. The measure is the number of bytes left.
use mathlib.Core.Path.{refl}
use native.Mathlib.Omega.{arith}
use Rattle.sizes.proofs.Measuring.{summed-room, summed-word}
use Rattle.sizes.proofs.measure_front.Goals as goal

pub overflow_add-entries : goal.overflow_add-entries
overflow_add-entries c =
    record { fits = omega (arith, (summed-room c.requires.words_bound c.requires.p_len_bound c.loop-at.invariant c.loop-at-test.true refl c.sibling_count-n.ensures).1, c.loop-at.invariant.low) }

pub overflow_mul-bytes : goal.overflow_mul-bytes
overflow_mul-bytes c =
    record { fits = omega (arith, (summed-room c.requires.words_bound c.requires.p_len_bound c.loop-at.invariant c.loop-at-test.true refl c.sibling_count-n.ensures).0) }

pub overflow_add-bytes-then-f-words : goal.overflow_add-bytes-then-f-words
overflow_add-bytes-then-f-words c =
    record { fits = omega (arith, (summed-room c.requires.words_bound c.requires.p_len_bound c.loop-at.invariant c.loop-at-test.true refl c.sibling_count-n.ensures).2, c.loop-at.invariant.low) }

pub loop-at-preserved-then-f-words : goal.loop-at-preserved-then-f-words
loop-at-preserved-then-f-words c =
    summed-word c.requires.words_bound c.requires.p_len_bound c.loop-at.invariant c.loop-at-test.true refl c.sibling_count-n.ensures c.if-f-words.true
