-- Answers: document 01's numbers and values for each case of listing a pattern's leftovers.
--
--   refusal_of why        the refusal of list where the check of the pattern refuses
--   list_numbers a        the reply of list
--   ListAnswersDiffer    different answers have different numbers or values
--
use Rattle.std.specs.Prelude.{◌≡◌, [], ◌∷◌, Result, Ok, Err}
use Rattle.wire.specs.Reply.{Reply, accepted, refused}
use Rattle.signature.specs.Answers.{vocabulary_refused}
use Rattle.reader.specs.Answers.{term_refused}
use Rattle.reader.specs.declared.CheckRefusal.{CheckRefusal}
use Rattle.reader.specs.declared.CheckRefusal.TheVariants as C
use Rattle.sizes.specs.declared.Size.{Size}
use Rattle.complement.specs.declared.ListRefusal.{ListRefusal}
use Rattle.complement.specs.declared.ListRefusal.TheVariants.{Vocabulary, Pattern, Repeated, NoRoom}

abbrev pub refusal_of : CheckRefusal → ListRefusal
refusal_of (C.Vocabulary why) = Vocabulary why
refusal_of (C.Term why) = Pattern why

-- The pattern is input 1, the lent slice input 3.
abbrev pub list_numbers : Result Size ListRefusal → Reply
list_numbers (Ok size) = accepted (size.entries ∷ size.bytes ∷ [])
list_numbers (Err (Vocabulary why)) = vocabulary_refused why
list_numbers (Err (Pattern why)) = term_refused 1 why
list_numbers (Err (Repeated q)) = refused 18 1 q
list_numbers (Err (NoRoom bytes)) = refused 20 3 bytes

abbrev pub ListAnswersDiffer : Type 0
ListAnswersDiffer = (a b : Result Size ListRefusal) → list_numbers a ≡ list_numbers b → a ≡ b
