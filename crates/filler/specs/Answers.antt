-- Answers: document 02's numbers and values for each case of filling a pattern.
--
--   fill_numbers a        the reply of fill
--   FillAnswersDiffer    different answers have different numbers or values
--
use Rattle.std.specs.Prelude.{◌≡◌, ℕ, [], ◌∷◌, Result, Ok, Err}
use Rattle.wire.specs.Reply.{Reply, accepted, refused}
use Rattle.reader.specs.Answers.{filling_refused}
use Rattle.filler.specs.declared.FillRefusal.{FillRefusal}
use Rattle.filler.specs.declared.FillRefusal.TheVariants.{Inputs, TooLarge, NoRoom}

-- The filling file is input 4, the lent slice input 3.
abbrev pub fill_numbers : Result ℕ FillRefusal → Reply
fill_numbers (Ok bytes) = accepted (bytes ∷ [])
fill_numbers (Err (Inputs why)) = filling_refused why
fill_numbers (Err TooLarge) = refused 23 4 0
fill_numbers (Err (NoRoom bytes)) = refused 20 3 bytes

abbrev pub FillAnswersDiffer : Type 0
FillAnswersDiffer = (a b : Result ℕ FillRefusal) → fill_numbers a ≡ fill_numbers b → a ≡ b
