-- Rounds: questions, read one behind the other.
--
--   Turned                       what is known where some questions were read
--   turned_none, turned_more     nothing was read yet, one question more
--   turned_less                  fewer lexemes stand behind a question
--   turned-over, turned-bad      no question stands there, or one at fault
--
use mathlib.Core.Path.{◌≡◌, refl, sym, ap, subst, ◌∙◌}
use mathlib.Core.Bool.{true, false}
use mathlib.Core.List.{List, [], ◌∷◌}
use Prim.Native.Nat.{ℕ, ◌<◌, ◌≤◌}
use lib.ListN.{length, take}
use Rattle.terms.specs.Term.{any, Ground}
use Rattle.texts.specs.Lexemes.{Lexeme, lexemes_from, token_at}
use Rattle.texts.specs.Phrases.{Phrase}
use Rattle.texts.specs.Faults.{Parsed, parsed, bad, parse_then}
use Rattle.texts.specs.QuestionReading.{begins_question, read_question, read_questions}
use Rattle.texts.specs.Tabled.{names_in, tabled_vocabulary}
use Rattle.texts.proofs.Passing.{Takes, question_takes}
use Rattle.texts.proofs.Course.{questions-end, questions-bad, questions-more}
use Rattle.clauses.specs.Reading.{Within}
use Rattle.faults.specs.declared.Fault.{Fault}
use Rattle.questions.specs.Asking.{QuestionAnswer, ReadsTo, QuestionPromise, AllPromise}
use Rattle.std.specs.Prelude.{Ok, Err}

-- Questions were read up to the offset `from`: whatever is read of the others is read of all.
pub record Turned (b q r : List ℕ) (at label kind n from : ℕ) : Type 0 where
  pub inside : from ≤ length b
  pub others : (a : QuestionAnswer) → AllPromise b from label kind q n r a → AllPromise b at label kind q n r a

-- One thing more before those that were read.
first_more : {A : Type 0} (b : List ℕ) (g : A) (z : Parsed (List A)) (a : QuestionAnswer) → ReadsTo b z a →
    ReadsTo b (parse_then z (λ gs r. parsed (g ∷ gs) r)) a
first_more b g (parsed gs m) (Ok e) h = h
first_more b g (parsed gs m) (Err x) h = absurd h
first_more b g (bad f) (Ok e) h = absurd h
first_more b g (bad f) (Err x) h = h

module _ (b q r : List ℕ) (at label kind n : ℕ) (within : Within b at n 1 0) where
  pub turned_none : Turned b q r at label kind n at
  turned_none = record { inside = within.inside; others = λ a h. h }

  module _ (from : ℕ) (turned : Turned b q r at label kind n from) where
    abbrev l : List Lexeme
    l = lexemes_from b from

    abbrev one : ℕ → Phrase → Parsed Ground
    one k p = read_question (names_in b (take n q)) (tabled_vocabulary k n r) p l

    abbrev all : ℕ → Phrase → List Lexeme → Parsed (List Ground)
    all k p m = read_questions (names_in b (take n q)) (tabled_vocabulary k n r) p (length m) m

    pub turned-over : begins_question l ≡ false → AllPromise b at label kind q n r (Ok from)
    turned-over over =
        turned.others (Ok from)
        (λ k p labelled kinded. subst (λ (g : Parsed (List Ground)). ReadsTo b g (Ok from)) (sym (questions-end (names_in b (take n q)) (tabled_vocabulary k n r) p l over)) (refl, turned.inside))

    module _ (begun : begins_question l ≡ true) where
      told : (a : QuestionAnswer) → QuestionPromise b from label kind q n r a → (k : ℕ) (p : Phrase) → p.label ≡ token_at b label → p.kind ≡ kind → ReadsTo b (one k p) a
      told a read k p labelled kinded = read within.short turned.inside within.words begun k p labelled kinded

      pub turned-bad : (x : Fault) → QuestionPromise b from label kind q n r (Err x) → AllPromise b at label kind q n r (Err x)
      turned-bad x read = turned.others (Err x) (λ k p labelled kinded. go k p (one k p) refl (told (Err x) read k p labelled kinded))
        where
          go : (k : ℕ) (p : Phrase) (g : Parsed Ground) → one k p ≡ g → ReadsTo b g (Err x) → ReadsTo b (all k p l) (Err x)
          go k p (parsed g m) e h = absurd h
          go k p (bad f) e h =
              subst (λ (z : Parsed (List Ground)). ReadsTo b z (Err x)) (sym (questions-bad (names_in b (take n q)) (tabled_vocabulary k n r) p l f begun e)) h

      module _ (end : ℕ) (read : QuestionPromise b from label kind q n r (Ok end)) where
        pub turned_less : (length (lexemes_from b end) < length l) × (end ≤ length b)
        turned_less = go (one 0 asks) (question_takes (names_in b (take n q)) (tabled_vocabulary 0 n r) asks l begun) (told (Ok end) read 0 asks refl refl)
          where
            asks : Phrase
            asks = record { label = token_at b label; kind = kind; term = any; variables = [] }

            go : (g : Parsed Ground) → Takes l g → ReadsTo b g (Ok end) → (length (lexemes_from b end) < length l) × (end ≤ length b)
            go (parsed g m) t h = (subst (λ (m : List Lexeme). length m < length l) h.0 t.1, h.1)
            go (bad f) t h = absurd h

        pub turned_more : Turned b q r at label kind n end
        turned_more = record {
          inside = turned_less.1;
          others = λ a h. turned.others a (λ k p labelled kinded. go k p a (h k p labelled kinded) (one k p) refl (told (Ok end) read k p labelled kinded));
        }
          where
            go : (k : ℕ) (p : Phrase) (a : QuestionAnswer) → ReadsTo b (all k p (lexemes_from b end)) a →
                (g : Parsed Ground) → one k p ≡ g → ReadsTo b g (Ok end) → ReadsTo b (all k p l) a
            go k p a t (bad f) e h = absurd h
            go k p a t (parsed g m) e h =
                subst (λ (z : Parsed (List Ground)). ReadsTo b z a)
                (sym (questions-more (names_in b (take n q)) (tabled_vocabulary k n r) p l m g begun e ∙ ap (λ (m : List Lexeme). parse_then (all k p m) (λ gs r. parsed (g ∷ gs) r)) h.0))
                (first_more b g (all k p (lexemes_from b end)) a t)
