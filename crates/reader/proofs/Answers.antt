-- Answers: different answers have different numbers or values. Each answer can be read off its reply.
use mathlib.Core.Path.{◌≡◌, refl, sym, ap, ◌∙◌}
use mathlib.Core.Bool.{Bool, true, false, cond}
use Prim.Native.Nat.{ℕ}
use lib.Dec.{eqb, ltb}
use lib.ListN.{get_or}
use Rattle.wire.specs.Map.{bit}
use Rattle.wire.specs.Reply.{Reply, accepted, refused}
use Rattle.signature.specs.declared.VocabularyRefusal.TheVariants.{Head, WordCount, Ends, NoSuchKind, Continues}
use Rattle.signature.proofs.Answers.{vocabulary_refusal_of}
use Rattle.reader.specs.Answers.{term_numbers, TermAnswersDiffer}
use Rattle.reader.specs.declared.refusal.TermRefusal.{TermRefusal}
use Rattle.reader.specs.declared.refusal.TermRefusal.TheVariants as T
use Rattle.std.specs.Prelude.{Result, Ok, Err}
use Rattle.reader.specs.declared.CheckedTerm.{CheckedTerm}
use Rattle.reader.specs.declared.CheckRefusal.{CheckRefusal}
use Rattle.reader.specs.declared.CheckRefusal.TheVariants as A

-- The refusal of a number and a place.
abbrev pub term_refusal_of : ℕ → ℕ → TermRefusal
term_refusal_of n q =
    cond (eqb n 7) T.Size (cond (eqb n 8) T.NoSuchKind (cond (eqb n 9) (T.Ends q) (cond (eqb n 10) (T.TooDeep q)
    (cond (eqb n 11) (T.NoWordOrName q) (cond (eqb n 12) (T.WrongKind q) (cond (eqb n 13) (T.Clashes q)
    (cond (eqb n 14) (T.StrayBit q) (T.Continues q))))))))

abbrev term_answer_of : Reply → Result CheckedTerm CheckRefusal
term_answer_of (accepted l) = Ok (record { words = get_or l 0 0; deepest = get_or l 1 0; complete = eqb (get_or l 2 0) 1; gap = get_or l 3 0 })
term_answer_of (refused n i q) = cond (ltb n 7) (Err (A.Vocabulary (vocabulary_refusal_of n q))) (Err (A.Term (term_refusal_of n q)))

bit_back : (b : Bool) → eqb (bit b) 1 ≡ b
bit_back true = refl
bit_back false = refl

term_back : (a : Result CheckedTerm CheckRefusal) → term_answer_of (term_numbers a) ≡ a
term_back (Ok x) = ap (λ b. Ok (record { words = x.words; deepest = x.deepest; complete = b; gap = x.gap })) (bit_back x.complete)
term_back (Err (A.Vocabulary Head)) = refl
term_back (Err (A.Vocabulary WordCount)) = refl
term_back (Err (A.Vocabulary (Ends q))) = refl
term_back (Err (A.Vocabulary (NoSuchKind q))) = refl
term_back (Err (A.Vocabulary (Continues q))) = refl
term_back (Err (A.Term T.Size)) = refl
term_back (Err (A.Term T.NoSuchKind)) = refl
term_back (Err (A.Term (T.Ends q))) = refl
term_back (Err (A.Term (T.TooDeep q))) = refl
term_back (Err (A.Term (T.NoWordOrName q))) = refl
term_back (Err (A.Term (T.WrongKind q))) = refl
term_back (Err (A.Term (T.Clashes q))) = refl
term_back (Err (A.Term (T.StrayBit q))) = refl
term_back (Err (A.Term (T.Continues q))) = refl

pub term_answers_differ : TermAnswersDiffer
term_answers_differ a b e = sym (term_back a) ∙ ap term_answer_of e ∙ term_back b
