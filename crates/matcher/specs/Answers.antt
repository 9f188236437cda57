-- Answers: document 01's number and values for each case of match's answer.
--
--   match_numbers a        the reply of match
--   MatchAnswersDiffer    different answers have different numbers or values
--
use Rattle.std.specs.Prelude.{◌≡◌, Bool, true, false, Result, Ok, Err}
use Rattle.wire.specs.Reply.{Reply, refused}
use Rattle.wire.specs.Matching.{yes, no}
use Rattle.inputs.specs.Answers.{inputs_refused}
use Rattle.matcher.specs.declared.MatchRefusal.{MatchRefusal}
use Rattle.matcher.specs.declared.MatchRefusal.TheVariants.{Inputs, TableLength}

-- Lines 1 to 5 and 7 to 17, and 19: the table is input 3.
abbrev pub match_numbers : Result Bool MatchRefusal → Reply
match_numbers (Ok true) = yes
match_numbers (Ok false) = no
match_numbers (Err (Inputs why)) = inputs_refused why
match_numbers (Err TableLength) = refused 19 3 0

abbrev pub MatchAnswersDiffer : Type 0
MatchAnswersDiffer = (a b : Result Bool MatchRefusal) → match_numbers a ≡ match_numbers b → a ≡ b
