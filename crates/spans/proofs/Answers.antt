-- Answers: different answers of finding the spans have different numbers or values.
--
--   line_of r              the line of a refusal
--   Lined r               it is one of those that refuse inputs
--   inputs-line           inputs are refused by such a line
--   not_accepted          .. and so not accepted
--   spans_answers_differ
--
use mathlib.Core.Path.{◌≡◌, refl, sym, ap}
use mathlib.Core.List.{List}
use Prim.Native.Nat.{ℕ, ◌≤◌}
use native.Mathlib.Omega.{arith}
use mathlib.Core.Bool.{true, false}
use Rattle.std.specs.Prelude.{Result, Ok, Err}
use Rattle.wire.specs.Reply.{Reply, accepted, refused}
use Rattle.signature.specs.Answers.{vocabulary_refused}
use Rattle.signature.specs.declared.VocabularyRefusal.{VocabularyRefusal}
use Rattle.signature.specs.declared.VocabularyRefusal.TheVariants as Voc
use Rattle.reader.specs.Answers.{term_refused}
use Rattle.reader.specs.declared.refusal.TermRefusal.{TermRefusal}
use Rattle.reader.specs.declared.refusal.TermRefusal.TheVariants as T
use Rattle.inputs.specs.Answers.{inputs_refused}
use Rattle.inputs.specs.declared.InputsRefusal.{InputsRefusal}
use Rattle.inputs.specs.declared.InputsRefusal.TheVariants as I
use Rattle.inputs.proofs.Answers.{inputs_answers_differ}
use Rattle.spans.specs.Answers.{SpansAnswersDiffer}

-- The line of a refusal: 0 where there is none.
abbrev pub line_of : Reply → ℕ
line_of (accepted l) = 0
line_of (refused n i q) = n

-- Lines 1 to 5 and 7 to 17.
pub record Lined (r : Reply) : Type 0 where
  pub some : 1 ≤ line_of r
  pub few : line_of r ≤ 17

vocabulary-line : (why : VocabularyRefusal) → Lined (vocabulary_refused why)
vocabulary-line Voc.Head = record { some = omega arith; few = omega arith }
vocabulary-line Voc.WordCount = record { some = omega arith; few = omega arith }
vocabulary-line (Voc.Ends q) = record { some = omega arith; few = omega arith }
vocabulary-line (Voc.NoSuchKind q) = record { some = omega arith; few = omega arith }
vocabulary-line (Voc.Continues q) = record { some = omega arith; few = omega arith }

term-line : (i : ℕ) (why : TermRefusal) → Lined (term_refused i why)
term-line i T.Size = record { some = omega arith; few = omega arith }
term-line i T.NoSuchKind = record { some = omega arith; few = omega arith }
term-line i (T.Ends q) = record { some = omega arith; few = omega arith }
term-line i (T.TooDeep q) = record { some = omega arith; few = omega arith }
term-line i (T.NoWordOrName q) = record { some = omega arith; few = omega arith }
term-line i (T.WrongKind q) = record { some = omega arith; few = omega arith }
term-line i (T.Clashes q) = record { some = omega arith; few = omega arith }
term-line i (T.StrayBit q) = record { some = omega arith; few = omega arith }
term-line i (T.Continues q) = record { some = omega arith; few = omega arith }

pub inputs-line : (why : InputsRefusal) → Lined (inputs_refused why)
inputs-line (I.Vocabulary why) = vocabulary-line why
inputs-line (I.Pattern why) = term-line 1 why
inputs-line (I.Situation why) = term-line 2 why
inputs-line (I.Incomplete q) = record { some = omega arith; few = omega arith }
inputs-line I.KindsDiffer = record { some = omega arith; few = omega arith }

pub not_accepted : (why : InputsRefusal) (l : List ℕ) → inputs_refused why ≡ accepted l → ⊥
not_accepted why l e = let line : line_of (inputs_refused why) ≡ 0 = ap line_of e in omega (arith, (inputs-line why).some)

pub spans_answers_differ : SpansAnswersDiffer
spans_answers_differ (Ok true) (Ok true) e = refl
spans_answers_differ (Ok true) (Ok false) e = absurd (let z : ◌≡◌ {A = ℕ} 0 1 = cc in omega arith)
spans_answers_differ (Ok true) (Err why) e = absurd (not_accepted why _ (sym e))
spans_answers_differ (Ok false) (Ok true) e = absurd (let z : ◌≡◌ {A = ℕ} 0 1 = cc in omega arith)
spans_answers_differ (Ok false) (Ok false) e = refl
spans_answers_differ (Ok false) (Err why) e = absurd (not_accepted why _ (sym e))
spans_answers_differ (Err why) (Ok true) e = absurd (not_accepted why _ e)
spans_answers_differ (Err why) (Ok false) e = absurd (not_accepted why _ e)
spans_answers_differ (Err why) (Err other) e = let same : ◌≡◌ {A = Result (Unit {0}) InputsRefusal} (Err why) (Err other) = inputs_answers_differ (Err why) (Err other) e in cc
