-- Answers: different answers have different numbers or values. Each answer can be read off its reply.
use mathlib.Core.Path.{◌≡◌, refl, sym, ap, ◌∙◌}
use mathlib.Core.Bool.{cond}
use Prim.Native.Nat.{ℕ}
use lib.Dec.{eqb}
use Rattle.wire.specs.Reply.{Reply, accepted, refused}
use Rattle.signature.specs.Answers.{vocabulary_numbers, VocabularyAnswersDiffer}
use Rattle.signature.specs.declared.VocabularyRefusal.{VocabularyRefusal}
use Rattle.signature.specs.declared.VocabularyRefusal.TheVariants.{Head, WordCount, Ends, NoSuchKind, Continues}
use Rattle.std.specs.Prelude.{⊤, Result, Ok, Err}

-- The refusal of a number and a place.
abbrev pub vocabulary_refusal_of : ℕ → ℕ → VocabularyRefusal
vocabulary_refusal_of n q =
    cond (eqb n 1) Head (cond (eqb n 2) WordCount (cond (eqb n 3) (Ends q)
    (cond (eqb n 4) (NoSuchKind q) (Continues q))))

abbrev vocabulary_answer_of : Reply → Result ⊤ VocabularyRefusal
vocabulary_answer_of (accepted l) = Ok tt
vocabulary_answer_of (refused n i q) = Err (vocabulary_refusal_of n q)

vocabulary_back : (a : Result ⊤ VocabularyRefusal) → vocabulary_answer_of (vocabulary_numbers a) ≡ a
vocabulary_back (Ok u) = refl
vocabulary_back (Err Head) = refl
vocabulary_back (Err WordCount) = refl
vocabulary_back (Err (Ends q)) = refl
vocabulary_back (Err (NoSuchKind q)) = refl
vocabulary_back (Err (Continues q)) = refl

pub vocabulary_answers_differ : VocabularyAnswersDiffer
vocabulary_answers_differ a b e = sym (vocabulary_back a) ∙ ap vocabulary_answer_of e ∙ vocabulary_back b
