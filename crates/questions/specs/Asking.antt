-- Asking: what reading questions promises.
--
--   QuestionAnswer              the offset behind what was read, or what is wrong
--   ReadsTo b g a               the answer a is what the reading g says, which goes on behind it in the text b
--   QuestionPromise             what read_question promises
--   QuestionsPromise            what read_questions promises
--   SituationPromise, AllPromise     what their parts promise each other; no public contract cites them
--   unless_open o a              the answer a, where o has no offset of something open
--
use Rattle.std.specs.Prelude.{◌≡◌, true, List, ℕ, ◌≤◌, length, take, Result, Ok, Err}
use Rattle.std.proofs.Math.Option.{Option, some, none}
use Rattle.wire.specs.Vocabulary.{most_words}
use Rattle.texts.specs.Lexemes.{lexemes_from, token_at}
use Rattle.texts.specs.Phrases.{Phrase}
use Rattle.texts.specs.Files.{most_text}
use Rattle.texts.specs.Faults.{Parsed, parsed, bad}
use Rattle.texts.specs.QuestionReading.{begins_question, read_situation, read_question, read_questions}
use Rattle.texts.specs.Tabled.{names_in, tabled_vocabulary}
use Rattle.faults.specs.declared.Fault.{Fault}
use Rattle.faults.specs.declared.Reason.TheVariants.{SituationOpen}
use Rattle.faults.specs.Reasons.{fault_of}
use Rattle.clauses.specs.Reading.{Within}

abbrev pub QuestionAnswer : Type 0
QuestionAnswer = Result ℕ Fault

abbrev pub ReadsTo : {A : Type 0} → List ℕ → Parsed A → QuestionAnswer → Type 0
ReadsTo b (parsed a r) (Ok e) = (r ≡ lexemes_from b e) × (e ≤ length b)
ReadsTo b (parsed a r) (Err x) = ⊥
ReadsTo b (bad f) (Ok e) = ⊥
ReadsTo b (bad f) (Err x) = f ≡ fault_of x

-- A question stands at the offset `at` of the text b; the label of the pattern that it asks stands at the offset `label`. The first n
-- of the offsets q are those of the words' names, whose records are r.
abbrev pub QuestionPromise : List ℕ → ℕ → ℕ → ℕ → List ℕ → ℕ → List ℕ → QuestionAnswer → Type 0
QuestionPromise b at label kind q n r a =
    length b ≤ most_text → at ≤ length b → n ≤ most_words → begins_question (lexemes_from b at) ≡ true →
    (k : ℕ) (p : Phrase) → p.label ≡ token_at b label → p.kind ≡ kind →
    ReadsTo b (read_question (names_in b (take n q)) (tabled_vocabulary k n r) p (lexemes_from b at)) a

-- There are no more questions than lexemes.
abbrev pub AllPromise : List ℕ → ℕ → ℕ → ℕ → List ℕ → ℕ → List ℕ → QuestionAnswer → Type 0
AllPromise b at label kind q n r a =
    (k : ℕ) (p : Phrase) → p.label ≡ token_at b label → p.kind ≡ kind →
    ReadsTo b (read_questions (names_in b (take n q)) (tabled_vocabulary k n r) p (length (lexemes_from b at)) (lexemes_from b at)) a

abbrev pub QuestionsPromise : List ℕ → ℕ → ℕ → ℕ → List ℕ → ℕ → List ℕ → QuestionAnswer → Type 0
QuestionsPromise b at label kind q n r a =
    length b ≤ most_text → at ≤ length b → n ≤ most_words → AllPromise b at label kind q n r a

-- ---- the parts

abbrev pub SituationPromise : List ℕ → ℕ → ℕ → List ℕ → ℕ → List ℕ → QuestionAnswer → Type 0
SituationPromise b at kind q n r a =
    Within b at n 1 0 → (k : ℕ) → ReadsTo b (read_situation (names_in b (take n q)) (tabled_vocabulary k n r) kind (lexemes_from b at)) a

abbrev pub unless_open : Option ℕ → QuestionAnswer → QuestionAnswer
unless_open (some q) a = Err (record { why = SituationOpen; at = q; of = 0 })
unless_open none a = a
