-- Answers: document 01's number and values for each case of checking a vocabulary.
--
--   vocabulary_refused why      the reply that refuses a vocabulary
--   vocabulary_numbers a        the reply of checking a vocabulary
--   VocabularyAnswersDiffer    different answers have different numbers or values
--
use Rattle.std.specs.Prelude.{◌≡◌, [], ⊤, Result, Ok, Err}
use Rattle.wire.specs.Reply.{Reply, accepted, refused}
use Rattle.signature.specs.declared.VocabularyRefusal.{VocabularyRefusal}
use Rattle.signature.specs.declared.VocabularyRefusal.TheVariants.{Head, WordCount, Ends, NoSuchKind, Continues}

-- Lines 1 to 5. The vocabulary is input 0.
abbrev pub vocabulary_refused : VocabularyRefusal → Reply
vocabulary_refused Head = refused 1 0 0
vocabulary_refused WordCount = refused 2 0 1
vocabulary_refused (Ends q) = refused 3 0 q
vocabulary_refused (NoSuchKind q) = refused 4 0 q
vocabulary_refused (Continues q) = refused 5 0 q

abbrev pub vocabulary_numbers : Result ⊤ VocabularyRefusal → Reply
vocabulary_numbers (Ok u) = accepted []
vocabulary_numbers (Err why) = vocabulary_refused why

abbrev pub VocabularyAnswersDiffer : Type 0
VocabularyAnswersDiffer = (a b : Result ⊤ VocabularyRefusal) → vocabulary_numbers a ≡ vocabulary_numbers b → a ≡ b
