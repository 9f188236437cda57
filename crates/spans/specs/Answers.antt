-- Answers: document 01's number and values for each case of the answer of finding the spans of a pattern.
--
--   spans_numbers a        the reply of match that it stands for
--   SpansAnswersDiffer    different answers have different numbers or values
--
use Rattle.std.specs.Prelude.{◌≡◌, Bool, true, false, Result, Ok, Err}
use Rattle.wire.specs.Reply.{Reply}
use Rattle.wire.specs.Matching.{yes, no}
use Rattle.inputs.specs.Answers.{inputs_refused}
use Rattle.inputs.specs.declared.InputsRefusal.{InputsRefusal}

-- Lines 1 to 5 and 7 to 17.
abbrev pub spans_numbers : Result Bool InputsRefusal → Reply
spans_numbers (Ok true) = yes
spans_numbers (Ok false) = no
spans_numbers (Err why) = inputs_refused why

abbrev pub SpansAnswersDiffer : Type 0
SpansAnswersDiffer = (a b : Result Bool InputsRefusal) → spans_numbers a ≡ spans_numbers b → a ≡ b
