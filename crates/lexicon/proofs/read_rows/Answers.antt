-- `lexicon::read_rows` meets its contract. The loop's invariant: what is read and what is left make up the vocabulary. The measure is what is left of the text.
use native.Mathlib.Omega.{arith}
use Rattle.lexicon.proofs.Reading.{reading_few, reading_on_lem, reading_over, reading_fails, told}
use Rattle.texts.proofs.Fronts.{start-inside}
use Rattle.lexicon.proofs.read_rows.Goals as goal

pub step-requires-clause-at_le_most_text : goal.step-requires-clause-at_le_most_text
step-requires-clause-at_le_most_text c = (omega (arith, start-inside c.args.text.now c.loop-next.at c.loop-next.invariant.within c.start-s.ensures, c.requires.text_len_bound), c.requires.kinds_known.few, reading_few c.loop-next.invariant)

pub loop-next-preserved : goal.loop-next-preserved
loop-next-preserved c =
    reading_on_lem c.loop-next.invariant c.start-s.ensures (told c.step.ensures c.in-On.is) c.end-at.ensures

pub returns-in-Over : goal.returns-in-Over
returns-in-Over c =
    reading_over c.loop-next.invariant c.start-s.ensures (told c.step.ensures c.in-Over.is) c.ended.ensures

pub returns-in-Fails : goal.returns-in-Fails
returns-in-Fails c = reading_fails c.loop-next.invariant c.start-s.ensures (told c.step.ensures c.in-Fails.is)
