-- Answers: different answers have different numbers or values. Each answer can be read off its reply.
use mathlib.Core.Path.{◌≡◌, refl, sym, ap, ◌∙◌}
use mathlib.Core.Bool.{cond}
use Rattle.std.specs.Prelude.{Result, Ok, Err}
use Prim.Native.Nat.{ℕ}
use lib.Dec.{eqb, ltb}
use Rattle.wire.specs.Reply.{Reply, accepted, refused}
use Rattle.signature.specs.declared.VocabularyRefusal.TheVariants.{Head, WordCount, Ends, NoSuchKind, Continues}
use Rattle.signature.proofs.Answers.{vocabulary_refusal_of}
use Rattle.reader.specs.declared.refusal.TermRefusal.TheVariants as T
use Rattle.reader.proofs.Answers.{term_refusal_of}
use Rattle.inputs.specs.Answers.{inputs_numbers, InputsAnswersDiffer}
use Rattle.inputs.specs.declared.InputsRefusal.{InputsRefusal}
use Rattle.inputs.specs.declared.InputsRefusal.TheVariants.{Vocabulary, Pattern, Situation, Incomplete, KindsDiffer}

-- A term is refused as the pattern or as the situation, by its input.
abbrev inputs_refusal_of : ℕ → ℕ → ℕ → InputsRefusal
inputs_refusal_of n i q =
    cond (ltb n 7) (Vocabulary (vocabulary_refusal_of n q)) (cond (eqb n 16) (Incomplete q) (cond (eqb n 17) KindsDiffer
    (cond (eqb i 1) (Pattern (term_refusal_of n q)) (Situation (term_refusal_of n q)))))

abbrev inputs_answer_of : Reply → Result (Unit {0}) InputsRefusal
inputs_answer_of (accepted l) = Ok tt
inputs_answer_of (refused n i q) = Err (inputs_refusal_of n i q)

inputs_back : (a : Result (Unit {0}) InputsRefusal) → inputs_answer_of (inputs_numbers a) ≡ a
inputs_back (Ok done) = refl
inputs_back (Err (Vocabulary Head)) = refl
inputs_back (Err (Vocabulary WordCount)) = refl
inputs_back (Err (Vocabulary (Ends q))) = refl
inputs_back (Err (Vocabulary (NoSuchKind q))) = refl
inputs_back (Err (Vocabulary (Continues q))) = refl
inputs_back (Err (Pattern T.Size)) = refl
inputs_back (Err (Pattern T.NoSuchKind)) = refl
inputs_back (Err (Pattern (T.Ends q))) = refl
inputs_back (Err (Pattern (T.TooDeep q))) = refl
inputs_back (Err (Pattern (T.NoWordOrName q))) = refl
inputs_back (Err (Pattern (T.WrongKind q))) = refl
inputs_back (Err (Pattern (T.Clashes q))) = refl
inputs_back (Err (Pattern (T.StrayBit q))) = refl
inputs_back (Err (Pattern (T.Continues q))) = refl
inputs_back (Err (Situation T.Size)) = refl
inputs_back (Err (Situation T.NoSuchKind)) = refl
inputs_back (Err (Situation (T.Ends q))) = refl
inputs_back (Err (Situation (T.TooDeep q))) = refl
inputs_back (Err (Situation (T.NoWordOrName q))) = refl
inputs_back (Err (Situation (T.WrongKind q))) = refl
inputs_back (Err (Situation (T.Clashes q))) = refl
inputs_back (Err (Situation (T.StrayBit q))) = refl
inputs_back (Err (Situation (T.Continues q))) = refl
inputs_back (Err (Incomplete q)) = refl
inputs_back (Err KindsDiffer) = refl

pub inputs_answers_differ : InputsAnswersDiffer
inputs_answers_differ a b e = sym (inputs_back a) ∙ ap inputs_answer_of e ∙ inputs_back b
