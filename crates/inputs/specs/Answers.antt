-- Answers: document 01's number and values for each case of judging the inputs of match.
--
--   inputs_refused why        the reply that refuses the inputs of match
--   inputs_numbers a          the reply of judging the inputs of match
--   InputsAnswersDiffer      different answers have different numbers or values
--
use Rattle.std.specs.Prelude.{◌≡◌, [], Result, Ok, Err}
use Rattle.wire.specs.Reply.{Reply, accepted, refused}
use Rattle.signature.specs.Answers.{vocabulary_refused}
use Rattle.reader.specs.Answers.{term_refused}
use Rattle.inputs.specs.declared.InputsRefusal.{InputsRefusal}
use Rattle.inputs.specs.declared.InputsRefusal.TheVariants.{Vocabulary, Pattern, Situation, Incomplete, KindsDiffer}

-- Lines 1 to 5 and 7 to 17. The vocabulary is input 0, the pattern 1, the situation 2.
abbrev pub inputs_refused : InputsRefusal → Reply
inputs_refused (Vocabulary why) = vocabulary_refused why
inputs_refused (Pattern why) = term_refused 1 why
inputs_refused (Situation why) = term_refused 2 why
inputs_refused (Incomplete q) = refused 16 2 q
inputs_refused KindsDiffer = refused 17 2 0

abbrev pub inputs_numbers : Result (Unit {0}) InputsRefusal → Reply
inputs_numbers (Ok done) = accepted []
inputs_numbers (Err why) = inputs_refused why

abbrev pub InputsAnswersDiffer : Type 0
InputsAnswersDiffer = (a b : Result (Unit {0}) InputsRefusal) → inputs_numbers a ≡ inputs_numbers b → a ≡ b
