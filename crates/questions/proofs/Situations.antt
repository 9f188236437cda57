-- Situations: a situation and a question, read.
--
--   or_open_lem                             an answer that holds where nothing stands open
--   situation-refused, situation-read   a situation
--   question_other, question_read       a question
--
use mathlib.Core.Path.{◌≡◌, refl, sym, ap, ap₂, subst, ◌∙◌}
use mathlib.Core.Bool.{true, false, cond}
use mathlib.Core.List.{List, []}
use mathlib.Core.Option.{Option, some, none}
use Prim.Native.Nat.{ℕ, ◌+◌}
use native.Mathlib.Omega.{arith}
use lib.ListN.{take, drop}
use Rattle.terms.specs.Term.{Ground}
use Rattle.wire.proofs.Cond.{cond_true, cond_false}
use Rattle.texts.specs.Lexemes.{Token, Lexeme, blanks, token_size, lexemes_from, token_at}
use Rattle.texts.specs.Names.{same}
use Rattle.texts.specs.Phrases.{Phrase}
use Rattle.texts.specs.Faults.{Parsed, parsed, bad, place, rest, other_label}
use Rattle.texts.specs.PhraseReading.{TermRead, fault_at, parse_term}
use Rattle.texts.specs.QuestionReading.{open_before, or_open, completed, read_situation, read_question}
use Rattle.texts.specs.Tabled.{names_in, tabled_vocabulary}
use Rattle.clauses.specs.Reading.{Answer, Within, Reads, TermTo, ReadsTerm}
use Rattle.faults.specs.declared.Fault.{Fault}
use Rattle.faults.specs.declared.Reason.TheVariants.{OtherLabel}
use Rattle.clauses.specs.declared.Reached.{Reached}
use Rattle.std.specs.Prelude.{Ok, Err}
use Rattle.clauses.proofs.Fronts.{front-token, front-place}
use Rattle.questions.specs.Asking.{QuestionAnswer, ReadsTo, QuestionPromise, SituationPromise, unless_open}
use Rattle.questions.proofs.Openings.{question_behind}

pub or_open_lem : {A : Type 0} (b : List ℕ) (o : Option ℕ) (g : Parsed A) (a : QuestionAnswer) → ReadsTo b g a → ReadsTo b (or_open o g) (unless_open o a)
or_open_lem b (some q) g a h = refl
or_open_lem b none g a h = h

-- ---- a situation

module _ (b q r o v o' v' : List ℕ) (at n kind : ℕ) where
  abbrev l : List Lexeme
  l = lexemes_from b at

  abbrev term : ℕ → Parsed TermRead
  term k = parse_term (names_in b (take n q)) (tabled_vocabulary k n r) 32 kind (record { variables = []; used = 1 }) l

  abbrev TermIs : Answer → Type 0
  TermIs y = Within b at n 1 0 → ReadsTerm b at 32 kind q n r o 1 v 0 o' v' y

  pub situation-refused : (x : Fault) (e : ℕ) (a : QuestionAnswer) → TermIs (Err x) → e ≡ x.at → a ≡ unless_open (open_before e l) (Err x) → SituationPromise b at kind q n r a
  situation-refused x e a read at-is gives w k = go (term k) (read w k)
    where
      go : (g : Parsed TermRead) → Reads (TermTo (tabled_vocabulary k n r) b o 1 o' v') g (Err x) → ReadsTo b (completed l g) a
      go (parsed t m) h = absurd h
      go (bad f) h =
          subst (ReadsTo b (completed l (bad f)))
          (ap (λ (i : ℕ). unless_open (open_before i l) (Err x)) (ap (λ f. f.at) h ∙ sym at-is) ∙ sym gives)
          (or_open_lem b (open_before f.at l) (bad f) (Err x) h)

  pub situation-read : (p : Reached) (e : ℕ) (a : QuestionAnswer) → TermIs (Ok p) → e ≡ p.at + blanks (drop p.at b) →
      a ≡ unless_open (open_before e l) (Ok p.at) → SituationPromise b at kind q n r a
  situation-read p e a read next gives w k = go (term k) (read w k)
    where
      go : (g : Parsed TermRead) → Reads (TermTo (tabled_vocabulary k n r) b o 1 o' v') g (Ok p) → ReadsTo b (completed l g) a
      go (parsed t m) h =
          subst (ReadsTo b (completed l (parsed t m)))
          (ap (λ (i : ℕ). unless_open (open_before i l) (Ok p.at)) (ap place h.behind ∙ front-place b p.at e next) ∙ sym gives)
          (or_open_lem b (open_before (place m) l) _ (Ok p.at) (h.behind, h.inside))
      go (bad f) h = absurd h

-- ---- a question

module _ (b q r : List ℕ) (at s label kind n : ℕ) (start : s ≡ at + blanks (drop at b)) where
  module _ (k : ℕ) (p : Phrase) (labelled : p.label ≡ token_at b label) (kinded : p.kind ≡ kind) where
    abbrev situation : ℕ → List Lexeme → Parsed Ground
    situation i m = read_situation (names_in b (take n q)) (tabled_vocabulary k n r) i m

    abbrev m : List Lexeme
    m = lexemes_from b at

    question_is : read_question (names_in b (take n q)) (tabled_vocabulary k n r) p m ≡ cond (same (token_at b s) (token_at b label)) (situation kind (rest (rest m))) (fault_at other_label 0 m)
    question_is =
        ap₂ (λ (u v : Token). cond (same u v) (situation p.kind (rest (rest m))) (fault_at other_label 0 m)) (front-token b at s start) labelled
        ∙ ap (λ (i : ℕ). cond (same (token_at b s) (token_at b label)) (situation i (rest (rest m))) (fault_at other_label 0 m)) kinded

  pub question_other : same (token_at b s) (token_at b label) ≡ false → QuestionPromise b at label kind q n r (Err (record { why = OtherLabel; at = s; of = 0 }))
  question_other h short inside words begun k p labelled kinded =
      subst (λ (g : Parsed Ground). ReadsTo b g (Err (record { why = OtherLabel; at = s; of = 0 })))
      (sym (question_is k p labelled kinded ∙ cond_false (same (token_at b s) (token_at b label)) _ _ h))
      (ap (λ (i : ℕ). record { why = other_label; at = i; of = 0 }) (front-place b at s start))

  pub question_read : (e c f : ℕ) (a : QuestionAnswer) → same (token_at b s) (token_at b label) ≡ true → e ≡ s + token_size (drop s b) → c ≡ e + blanks (drop e b) →
      f ≡ c + token_size (drop c b) → SituationPromise b f kind q n r a → QuestionPromise b at label kind q n r a
  question_read e c f a h end next end₂ told short inside words begun k p labelled kinded =
      let behind = question_behind b at s start e c f begun end next end₂ in
      subst (λ (g : Parsed Ground). ReadsTo b g a)
      (sym
      (question_is k p labelled kinded
      ∙ cond_true (same (token_at b s) (token_at b label)) _ _ h
      ∙ ap (situation k p labelled kinded kind) behind.0))
      (told (record { short = short; inside = behind.1; words = words; room = omega arith; few = omega arith }) k)
