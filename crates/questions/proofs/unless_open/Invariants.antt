-- `questions::unless_open` meets its contract. The loop's invariant: what stands open from here on before e is what does from the beginning on.
use mathlib.Core.Path.{◌≡◌}
use Prim.Native.Nat.{◌-◌}
use lib.ListN.{length}
use Rattle.texts.specs.Lexemes.{lexemes_from}
use Rattle.texts.specs.QuestionReading.{open_before}
use Rattle.questions.proofs.unless_open.Given as goal

abbrev pub invariant-loop-at : goal.invariant-loop-at
invariant-loop-at l = open_before l.e (lexemes_from l.text l.at) ≡ open_before l.e (lexemes_from l.text l.from)

abbrev pub decreases-loop-at : goal.decreases-loop-at
decreases-loop-at l = length l.text - l.at
