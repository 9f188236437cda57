-- Answers: different answers have different numbers or values. Each answer can be read off its reply.
use mathlib.Core.Path.{◌≡◌, refl, sym, ap, ◌∙◌}
use mathlib.Core.Bool.{cond}
use Prim.Native.Nat.{ℕ}
use lib.Dec.{eqb, ltb}
use lib.ListN.{get_or}
use Rattle.std.specs.Prelude.{Result, Ok, Err}
use Rattle.wire.specs.Reply.{Reply, accepted, refused}
use Rattle.signature.specs.declared.VocabularyRefusal.TheVariants.{Head, WordCount, Ends, NoSuchKind, Continues}
use Rattle.signature.proofs.Answers.{vocabulary_refusal_of}
use Rattle.reader.specs.declared.refusal.TermRefusal.TheVariants as T
use Rattle.reader.specs.declared.filling.FillingRefusal.{FillingRefusal}
use Rattle.reader.specs.declared.filling.FillingRefusal.TheVariants.{Vocabulary, Pattern, Names, Value}
use Rattle.reader.proofs.Answers.{term_refusal_of}
use Rattle.filler.specs.Answers.{fill_numbers, FillAnswersDiffer}
use Rattle.filler.specs.declared.FillRefusal.{FillRefusal}
use Rattle.filler.specs.declared.FillRefusal.TheVariants.{Inputs, TooLarge, NoRoom}

abbrev filling_refusal_of : ℕ → ℕ → FillingRefusal
filling_refusal_of n q =
    cond (ltb n 7) (Vocabulary (vocabulary_refusal_of n q))
    (cond (ltb n 16) (Pattern (term_refusal_of n q)) (cond (eqb n 21) (Names q) (Value q)))

abbrev fill_answer_of : Reply → Result ℕ FillRefusal
fill_answer_of (accepted l) = Ok (get_or l 0 0)
fill_answer_of (refused n i q) = Err (cond (eqb n 23) TooLarge (cond (eqb n 20) (NoRoom q) (Inputs (filling_refusal_of n q))))

fill_back : (a : Result ℕ FillRefusal) → fill_answer_of (fill_numbers a) ≡ a
fill_back (Ok n) = refl
fill_back (Err (Inputs (Vocabulary Head))) = refl
fill_back (Err (Inputs (Vocabulary WordCount))) = refl
fill_back (Err (Inputs (Vocabulary (Ends q)))) = refl
fill_back (Err (Inputs (Vocabulary (NoSuchKind q)))) = refl
fill_back (Err (Inputs (Vocabulary (Continues q)))) = refl
fill_back (Err (Inputs (Pattern T.Size))) = refl
fill_back (Err (Inputs (Pattern T.NoSuchKind))) = refl
fill_back (Err (Inputs (Pattern (T.Ends q)))) = refl
fill_back (Err (Inputs (Pattern (T.TooDeep q)))) = refl
fill_back (Err (Inputs (Pattern (T.NoWordOrName q)))) = refl
fill_back (Err (Inputs (Pattern (T.WrongKind q)))) = refl
fill_back (Err (Inputs (Pattern (T.Clashes q)))) = refl
fill_back (Err (Inputs (Pattern (T.StrayBit q)))) = refl
fill_back (Err (Inputs (Pattern (T.Continues q)))) = refl
fill_back (Err (Inputs (Names n))) = refl
fill_back (Err (Inputs (Value q))) = refl
fill_back (Err TooLarge) = refl
fill_back (Err (NoRoom n)) = refl

pub fill_answers_differ : FillAnswersDiffer
fill_answers_differ a b e = sym (fill_back a) ∙ ap fill_answer_of e ∙ fill_back b
