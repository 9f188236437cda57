-- `repeats::first_repeat` meets its contract. The loop's invariant: the names before the offset are marked. The measure is the number of bytes left.
use Rattle.repeats.proofs.Repeating.{searched_none, searched_word, searched_name}
use Rattle.repeats.proofs.first_repeat.Goals as goal

pub loop-at-init : goal.loop-at-init
loop-at-init c = searched_none

pub loop-at-preserved-then-b-words : goal.loop-at-preserved-then-b-words
loop-at-preserved-then-b-words c = searched_word c.loop-at.invariant c.loop-at-test.true c.if-b-words.true

pub loop-at-preserved-then-b-lt192 : goal.loop-at-preserved-then-b-lt192
loop-at-preserved-then-b-lt192 c =
    searched_name c.loop-at.invariant c.loop-at-test.true c.if-b-words.false c.if-b-ge128.true c.if-b-lt192.true c.if-seen-b.false
