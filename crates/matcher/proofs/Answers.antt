-- Answers: different answers of match have different numbers or values.
use mathlib.Core.Path.{◌≡◌, refl, sym, ap}
use Prim.Native.Nat.{ℕ}
use native.Mathlib.Omega.{arith}
use mathlib.Core.Bool.{true, false}
use Rattle.std.specs.Prelude.{Result, Ok, Err}
use Rattle.wire.specs.Reply.{refused}
use Rattle.inputs.specs.Answers.{inputs_refused}
use Rattle.inputs.specs.declared.InputsRefusal.{InputsRefusal}
use Rattle.inputs.proofs.Answers.{inputs_answers_differ}
use Rattle.spans.proofs.Answers.{line_of, inputs-line, not_accepted}
use Rattle.matcher.specs.Answers.{MatchAnswersDiffer}
use Rattle.matcher.specs.declared.MatchRefusal.TheVariants.{Inputs, TableLength}

not_length : (why : InputsRefusal) → inputs_refused why ≡ refused 19 3 0 → ⊥
not_length why e = let line : line_of (inputs_refused why) ≡ 19 = ap line_of e in omega (arith, (inputs-line why).few)

pub match_answers_differ : MatchAnswersDiffer
match_answers_differ (Ok true) (Ok true) e = refl
match_answers_differ (Ok true) (Ok false) e = absurd (let z : ◌≡◌ {A = ℕ} 0 1 = cc in omega arith)
match_answers_differ (Ok true) (Err (Inputs why)) e = absurd (not_accepted why _ (sym e))
match_answers_differ (Ok true) (Err TableLength) e = absurd (let z : ◌≡◌ {A = ℕ} 0 1 = cc in omega arith)
match_answers_differ (Ok false) (Ok true) e = absurd (let z : ◌≡◌ {A = ℕ} 0 1 = cc in omega arith)
match_answers_differ (Ok false) (Ok false) e = refl
match_answers_differ (Ok false) (Err (Inputs why)) e = absurd (not_accepted why _ (sym e))
match_answers_differ (Ok false) (Err TableLength) e = absurd (let z : ◌≡◌ {A = ℕ} 0 1 = cc in omega arith)
match_answers_differ (Err (Inputs why)) (Ok true) e = absurd (not_accepted why _ e)
match_answers_differ (Err (Inputs why)) (Ok false) e = absurd (not_accepted why _ e)
match_answers_differ (Err (Inputs why)) (Err (Inputs other)) e = let same : ◌≡◌ {A = Result (Unit {0}) InputsRefusal} (Err why) (Err other) = inputs_answers_differ (Err why) (Err other) e in cc
match_answers_differ (Err (Inputs why)) (Err TableLength) e = absurd (not_length why e)
match_answers_differ (Err TableLength) (Ok true) e = absurd (let z : ◌≡◌ {A = ℕ} 0 1 = cc in omega arith)
match_answers_differ (Err TableLength) (Ok false) e = absurd (let z : ◌≡◌ {A = ℕ} 0 1 = cc in omega arith)
match_answers_differ (Err TableLength) (Err (Inputs why)) e = absurd (not_length why (sym e))
match_answers_differ (Err TableLength) (Err TableLength) e = refl
