-- Answers: different answers have different numbers or values. Each answer can be read off its reply.
use mathlib.Core.Path.{◌≡◌, refl, sym, ap, ◌∙◌}
use mathlib.Core.Bool.{cond}
use lib.Dec.{eqb, ltb}
use lib.ListN.{get_or}
use Rattle.wire.specs.Reply.{Reply, accepted, refused}
use Rattle.signature.specs.declared.VocabularyRefusal.TheVariants.{Head, WordCount, Ends, NoSuchKind, Continues}
use Rattle.signature.proofs.Answers.{vocabulary_refusal_of}
use Rattle.reader.specs.declared.refusal.TermRefusal.TheVariants as T
use Rattle.reader.proofs.Answers.{term_refusal_of}
use Rattle.complement.specs.Answers.{list_numbers, ListAnswersDiffer}
use Rattle.std.specs.Prelude.{Result, Ok, Err}
use Rattle.sizes.specs.declared.Size.{Size}
use Rattle.complement.specs.declared.ListRefusal.{ListRefusal}
use Rattle.complement.specs.declared.ListRefusal.TheVariants.{Vocabulary, Pattern, Repeated, NoRoom}

abbrev list_answer_of : Reply → Result Size ListRefusal
list_answer_of (accepted l) = Ok (record { entries = get_or l 0 0; bytes = get_or l 1 0 })
list_answer_of (refused n i q) =
    Err
    (cond (ltb n 7) (Vocabulary (vocabulary_refusal_of n q))
    (cond (ltb n 16) (Pattern (term_refusal_of n q)) (cond (eqb n 18) (Repeated q) (NoRoom q))))

list_back : (a : Result Size ListRefusal) → list_answer_of (list_numbers a) ≡ a
list_back (Ok size) = refl
list_back (Err (Vocabulary Head)) = refl
list_back (Err (Vocabulary WordCount)) = refl
list_back (Err (Vocabulary (Ends q))) = refl
list_back (Err (Vocabulary (NoSuchKind q))) = refl
list_back (Err (Vocabulary (Continues q))) = refl
list_back (Err (Pattern T.Size)) = refl
list_back (Err (Pattern T.NoSuchKind)) = refl
list_back (Err (Pattern (T.Ends q))) = refl
list_back (Err (Pattern (T.TooDeep q))) = refl
list_back (Err (Pattern (T.NoWordOrName q))) = refl
list_back (Err (Pattern (T.WrongKind q))) = refl
list_back (Err (Pattern (T.Clashes q))) = refl
list_back (Err (Pattern (T.StrayBit q))) = refl
list_back (Err (Pattern (T.Continues q))) = refl
list_back (Err (Repeated q)) = refl
list_back (Err (NoRoom m)) = refl

pub list_answers_differ : ListAnswersDiffer
list_answers_differ a b e = sym (list_back a) ∙ ap list_answer_of e ∙ list_back b
