-- QuestionReading: questions, read off the lexemes of a text.
--
-- This file is an algorithm: QuestionsRead and QuestionsExact (Laws) fix what it accepts, QuestionFaultsAreFirst where a fault is.
--
--   is_open u                 the token u is an open place or a variable
--   open_before e l           the offset of the first such lexeme of l, where it stands before the offset e
--   ground_of t, grounds_of ts     a term without open places and variables as a ground term
--   begins_question l         a name and a ? stand at the front of l
--   open_fault q              the fault of an open place or a variable at the offset q
--   or_open o a               a, where o has no offset of something open
--   completed l a            what was read of l, where nothing open stands in it
--   read_situation N W k l    a situation of kind k
--   read_question N W p l     a question that asks the pattern p
--   read_questions N W p n l  all questions that stand there, where n are enough
--
use Rattle.std.specs.Prelude.{Bool, ◌||◌, ◌&&◌, cond, List, [], ◌∷◌, ℕ, zero, suc, ltb}
use Rattle.std.proofs.Math.Option.{Option, some, none}
use Rattle.terms.specs.Term.{Term, any, var, app, Terms, nil, cons, Ground, gapp, Grounds, gnil, gcons}
use Rattle.terms.specs.Filling.{no_ground}
use Rattle.wire.specs.Vocabulary.{Vocabulary}
use Rattle.wire.specs.TermBytes.{most_levels}
use Rattle.texts.specs.Lexemes.{Token, Lexeme, asking}
use Rattle.texts.specs.Names.{same, opened, mark, is_identifier, is_variable}
use Rattle.texts.specs.Phrases.{Phrase}
use Rattle.texts.specs.Faults.{Fault, Parsed, parsed, bad, parse_then, token, place, rest, situation_open, other_label}
use Rattle.texts.specs.PhraseReading.{TermRead, fault_at, parse_term}

abbrev pub is_open : Token → Bool
is_open u = same u opened || is_variable u

abbrev pub open_before : ℕ → List Lexeme → Option ℕ
open_before e [] = none
open_before e (x ∷ l) = cond (ltb x.at e) (cond (is_open x.token) (some x.at) (open_before e l)) none

abbrev mutual
  pub ground_of : Term → Ground
  ground_of any = no_ground
  ground_of (var n) = no_ground
  ground_of (app f ts) = gapp f (grounds_of ts)

  pub grounds_of : Terms → Grounds
  grounds_of nil = gnil
  grounds_of (cons t ts) = gcons (ground_of t) (grounds_of ts)

abbrev pub begins_question : List Lexeme → Bool
begins_question l = is_identifier (token l) && same (token (rest l)) (mark asking)

abbrev pub open_fault : ℕ → Fault
open_fault q = record { why = situation_open; at = q; of = 0 }

-- Something open is at fault where it stands, before whatever is at fault behind it.
abbrev pub or_open : {A : Type 0} → Option ℕ → Parsed A → Parsed A
or_open (some q) a = bad (open_fault q)
or_open none a = a

abbrev pub completed : List Lexeme → Parsed TermRead → Parsed Ground
completed l (parsed a r) = or_open (open_before (place r) l) (parsed (ground_of a.term) r)
completed l (bad x) = or_open (open_before x.at l) (bad x)

-- The kind byte is counted.
abbrev pub read_situation : List Token → Vocabulary → ℕ → List Lexeme → Parsed Ground
read_situation N W k l = completed l (parse_term N W most_levels k (record { variables = []; used = 1 }) l)

abbrev pub read_question : List Token → Vocabulary → Phrase → List Lexeme → Parsed Ground
read_question N W p l =
    cond (same (token l) p.label) (read_situation N W p.kind (rest (rest l))) (fault_at other_label 0 l)

abbrev pub read_questions : List Token → Vocabulary → Phrase → ℕ → List Lexeme → Parsed (List Ground)
read_questions N W p zero l = parsed [] l
read_questions N W p (suc n) l =
    cond (begins_question l)
    (parse_then (read_question N W p l) (λ g r. parse_then (read_questions N W p n r) (λ gs r'. parsed (g ∷ gs) r')))
    (parsed [] l)
