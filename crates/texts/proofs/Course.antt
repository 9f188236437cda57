-- Course: questions and paragraphs are read one behind the other, up to the end or a fault, and what a file is read as follows from
-- its parts.
--
--   questions-end, questions-bad, questions-more     where no question begins, where one is at fault, and where one is read
--   questions-run, questions-go     how questions were read, and what is passed over
--   questions-one            one more, where they are counted
--   questions_fail           how they were read up to a fault
--   paragraph_phrase, paragraph_questions, paragraph_read     where the pattern or a question is at fault, and where neither is
--   Parts, paragraph_parts   what a paragraph was read of
--   Failed, paragraph_fails  what is at fault in a paragraph
--   paragraph_takes          what is passed over
--   goes_on l, goes_some      the text does not end there
--   paragraphs-end, paragraphs-bad, paragraphs-more     where it ends, where a paragraph is at fault, and where one is read
--   paragraphs-run           how paragraphs were read
--   paragraphs-one           one more, where they are counted
--   paragraphs_fail          how they were read up to a fault
--   by_lexicon, file_long, file_lexicon, file_paragraphs, file_well     what a file is read as
--
use mathlib.Core.Path.{◌≡◌, refl, sym, ap, subst, subst₂, ◌∙◌}
use mathlib.Core.Bool.{Bool, true, false, not, cond, false≢true}
use mathlib.Core.List.{List, [], ◌∷◌}
use Prim.Native.Nat.{ℕ, zero, suc, ◌<◌, ◌≤◌}
use native.Mathlib.Omega.{arith}
use lib.Dec.{eqb}
use lib.ListN.{length}
use borrow.Author.Tests.{lt-ltb, le-ltb, ne_eqb, eq-eqb}
use Rattle.terms.specs.Term.{Ground}
use Rattle.wire.specs.Vocabulary.{Vocabulary}
use Rattle.wire.proofs.Cond.{cond_true, cond_false}
use Rattle.texts.specs.Lexemes.{Token, Lexeme, lexemes}
use Rattle.texts.specs.Phrases.{Phrase}
use Rattle.texts.specs.Files.{most_text, Paragraph}
use Rattle.texts.specs.Faults.{Fault, Parsed, parsed, bad, parse_then, token, long_text}
use Rattle.texts.specs.LexiconReading.{LexiconRead, read_lexicon}
use Rattle.texts.specs.PhraseReading.{read_phrase}
use Rattle.texts.specs.QuestionReading.{begins_question, read_question, read_questions}
use Rattle.texts.specs.Answering.{read_well, read_ill, as_paragraph, read_paragraph, read_paragraphs, vocabulary_read, known_read, known_nothing, with_paragraphs, with_lexicon, read_file}
use Rattle.texts.proofs.Passing.{Takes, Goes, goes_then, takes_then, passed_none, phrase_takes, question_takes}
use Rattle.texts.proofs.Series.{then_same, several, Run, several_goes, several_end, several_bad, several_more, several_run, several_fails}

-- ---- questions

module _ (N : List Token) (W : Vocabulary) (p : Phrase) where
  abbrev asked : List Lexeme → Parsed (List Ground)
  asked l = read_questions N W p (length l) l

  questions_several : (n : ℕ) (l : List Lexeme) → read_questions N W p n l ≡ several begins_question (read_question N W p) n l
  questions_several zero l = refl
  questions_several (suc n) l =
      ap (λ z. cond (begins_question l) z (parsed [] l))
      (then_same (read_question N W p l) _ _ (λ g r. ap (λ z. parse_then z (λ gs r'. parsed (g ∷ gs) r')) (questions_several n r)))

  pub questions-end : (l : List Lexeme) → begins_question l ≡ false → asked l ≡ parsed [] l
  questions-end l e = questions_several (length l) l ∙ several_end begins_question (read_question N W p) refl (question_takes N W p) l e

  pub questions-bad : (l : List Lexeme) (x : Fault) → begins_question l ≡ true → read_question N W p l ≡ bad x → asked l ≡ bad x
  questions-bad l x e h = questions_several (length l) l ∙ several_bad begins_question (read_question N W p) refl (question_takes N W p) l x e h

  pub questions-more : (l r : List Lexeme) (g : Ground) → begins_question l ≡ true → read_question N W p l ≡ parsed g r →
      asked l ≡ parse_then (asked r) (λ gs r'. parsed (g ∷ gs) r')
  questions-more l r g e h =
      questions_several (length l) l
      ∙ several_more begins_question (read_question N W p) refl (question_takes N W p) l r g e h
      ∙ ap (λ z. parse_then z (λ gs r'. parsed (g ∷ gs) r')) (sym (questions_several (length r) r))

  pub questions-run : (l : List Lexeme) (gs : List Ground) (r : List Lexeme) → asked l ≡ parsed gs r →
      Run begins_question (read_question N W p) l gs r
  questions-run l gs r e =
      several_run begins_question (read_question N W p) refl (question_takes N W p) (length l) l gs r (omega arith)
      (sym (questions_several (length l) l) ∙ e)

  pub questions-one : (n : ℕ) (l m r : List Lexeme) (g : Ground) (gs : List Ground) → begins_question l ≡ true → read_question N W p l ≡ parsed g m →
      read_questions N W p n m ≡ parsed gs r → read_questions N W p (suc n) l ≡ parsed (g ∷ gs) r
  questions-one n l m r g gs b e h =
      cond_true (begins_question l) _ (parsed [] l) b
      ∙ ap (λ z. parse_then z (λ g r. parse_then (read_questions N W p n r) (λ gs r'. parsed (g ∷ gs) r'))) e
      ∙ ap (λ z. parse_then z (λ gs r'. parsed (g ∷ gs) r')) h

  pub questions_fail : (P : List Lexeme → Type 0) (x : Fault) →
      ((l : List Lexeme) → begins_question l ≡ true → read_question N W p l ≡ bad x → P l) →
      ((l m : List Lexeme) (g : Ground) → begins_question l ≡ true → read_question N W p l ≡ parsed g m → P m → P l) →
      (l : List Lexeme) → asked l ≡ bad x → P l
  questions_fail P x last before l e =
      several_fails begins_question (read_question N W p) P x last before (length l) l (sym (questions_several (length l) l) ∙ e)

  questions-go : (l : List Lexeme) → Goes l (asked l)
  questions-go l =
      subst (Goes l) (sym (questions_several (length l) l))
      (several_goes begins_question (read_question N W p) refl (question_takes N W p) (length l) l)

-- ---- paragraphs

-- A text ends with an empty lexeme.
abbrev pub goes_on : List Lexeme → Bool
goes_on l = not (eqb (length (token l)) 0)

cond_not : {A : Type 0} (t : Bool) (a b : A) → cond t a b ≡ cond (not t) b a
cond_not true a b = refl
cond_not false a b = refl

goes_on_lem : (l : List Lexeme) → 0 < length (token l) → goes_on l ≡ true
goes_on_lem l h = ap not (ne_eqb (length (token l)) 0 (λ z. omega arith))

pub goes_some : (l : List Lexeme) → goes_on l ≡ true → 1 ≤ length (token l)
goes_some l e = go (token l) e
  where
    go : (u : Token) → not (eqb (length u) 0) ≡ true → 1 ≤ length u
    go [] e = absurd (false≢true e)
    go (b ∷ u) e = omega arith

module _ (K N : List Token) (W : Vocabulary) where
  abbrev behind_phrase : Phrase → List Lexeme → Parsed Paragraph
  behind_phrase p r = parse_then (read_questions N W p (length r) r) (λ gs r'. parsed (as_paragraph p gs) r')

  pub paragraph_phrase : (l : List Lexeme) (x : Fault) → read_phrase K N W l ≡ bad x → read_paragraph K N W l ≡ bad x
  paragraph_phrase l x e = ap (λ z. parse_then z behind_phrase) e

  pub paragraph_questions : (l r : List Lexeme) (p : Phrase) (x : Fault) → read_phrase K N W l ≡ parsed p r →
      read_questions N W p (length r) r ≡ bad x → read_paragraph K N W l ≡ bad x
  paragraph_questions l r p x e h =
      ap (λ z. parse_then z behind_phrase) e ∙ ap (λ z. parse_then z (λ gs r'. parsed (as_paragraph p gs) r')) h

  pub paragraph_read : (l m r : List Lexeme) (p : Phrase) (gs : List Ground) → read_phrase K N W l ≡ parsed p m →
      read_questions N W p (length m) m ≡ parsed gs r → read_paragraph K N W l ≡ parsed (as_paragraph p gs) r
  paragraph_read l m r p gs e h =
      ap (λ z. parse_then z behind_phrase) e ∙ ap (λ z. parse_then z (λ gs r'. parsed (as_paragraph p gs) r')) h

  pub record Parts (l : List Lexeme) (q : Paragraph) (r : List Lexeme) : Type 0 where
    pub between : List Lexeme
    pub phrase : read_phrase K N W l ≡ parsed q.phrase between
    pub questions : read_questions N W q.phrase (length between) between ≡ parsed q.situations r

  pub paragraph_parts : (l : List Lexeme) (q : Paragraph) (r : List Lexeme) → read_paragraph K N W l ≡ parsed q r → Parts l q r
  paragraph_parts l q r e = phrases (read_phrase K N W l) refl e
    where
      asked-parts : (p : Phrase) (m : List Lexeme) → read_phrase K N W l ≡ parsed p m → (y : Parsed (List Ground)) →
          read_questions N W p (length m) m ≡ y → parse_then y (λ gs r'. parsed (as_paragraph p gs) r') ≡ parsed q r → Parts l q r
      asked-parts p m h (bad x) k e = let z : ◌≡◌ {A = ℕ} 0 1 = cc in absurd (omega arith)
      asked-parts p m h (parsed gs r') k e =
          let same : as_paragraph p gs ≡ q = cc in
          let here : r' ≡ r = cc in
          subst₂ (Parts l) same here (record { between = m; phrase = h; questions = k })

      phrases : (y : Parsed Phrase) → read_phrase K N W l ≡ y → parse_then y behind_phrase ≡ parsed q r → Parts l q r
      phrases (bad x) h e = let z : ◌≡◌ {A = ℕ} 0 1 = cc in absurd (omega arith)
      phrases (parsed p m) h e = asked-parts p m h (read_questions N W p (length m) m) refl e

  -- The pattern or a question is at fault.
  pub data Failed (l : List Lexeme) (x : Fault) : Type 0 where
    in_pattern : read_phrase K N W l ≡ bad x → Failed l x
    in_questions : (p : Phrase) (m : List Lexeme) → read_phrase K N W l ≡ parsed p m → read_questions N W p (length m) m ≡ bad x → Failed l x

  pub paragraph_fails : (l : List Lexeme) (x : Fault) → read_paragraph K N W l ≡ bad x → Failed l x
  paragraph_fails l x e = phrases (read_phrase K N W l) refl e
    where
      questions : (p : Phrase) (m : List Lexeme) → read_phrase K N W l ≡ parsed p m → (y : Parsed (List Ground)) →
          read_questions N W p (length m) m ≡ y → parse_then y (λ gs r'. parsed (as_paragraph p gs) r') ≡ bad x → Failed l x
      questions p m h (parsed gs r) k e = let z : ◌≡◌ {A = ℕ} 0 1 = cc in absurd (omega arith)
      questions p m h (bad y) k e = let f : y ≡ x = cc in in_questions p m h (k ∙ ap bad f)

      phrases : (y : Parsed Phrase) → read_phrase K N W l ≡ y → parse_then y behind_phrase ≡ bad x → Failed l x
      phrases (bad y) h e = let f : y ≡ x = cc in in_pattern (h ∙ ap bad f)
      phrases (parsed p m) h e = questions p m h (read_questions N W p (length m) m) refl e

  pub paragraph_takes : (l : List Lexeme) → Takes l (read_paragraph K N W l)
  paragraph_takes l =
      takes_then l (read_phrase K N W l) behind_phrase (phrase_takes K N W l)
      (λ p r. goes_then r (read_questions N W p (length r) r) (λ gs r'. parsed (as_paragraph p gs) r') (questions-go N W p r) (λ gs r'. passed_none r'))

  abbrev told : List Lexeme → Parsed (List Paragraph)
  told l = read_paragraphs K N W (length l) l

  paragraphs_several : (n : ℕ) (l : List Lexeme) → read_paragraphs K N W n l ≡ several goes_on (read_paragraph K N W) n l
  paragraphs_several zero l = refl
  paragraphs_several (suc n) l =
      cond_not (eqb (length (token l)) 0) (parsed [] l) _
      ∙ ap (λ z. cond (goes_on l) z (parsed [] l))
      (then_same (read_paragraph K N W l) _ _ (λ q r. ap (λ z. parse_then z (λ qs r'. parsed (q ∷ qs) r')) (paragraphs_several n r)))

  pub paragraphs-end : (l : List Lexeme) → length (token l) ≡ 0 → told l ≡ parsed [] l
  paragraphs-end l h =
      paragraphs_several (length l) l
      ∙ several_end goes_on (read_paragraph K N W) refl (λ l e. paragraph_takes l) l (ap not (eq-eqb (length (token l)) 0 h))

  pub paragraphs-bad : (l : List Lexeme) (x : Fault) → 0 < length (token l) → read_paragraph K N W l ≡ bad x → told l ≡ bad x
  paragraphs-bad l x h e =
      paragraphs_several (length l) l ∙ several_bad goes_on (read_paragraph K N W) refl (λ l e. paragraph_takes l) l x (goes_on_lem l h) e

  pub paragraphs-more : (l r : List Lexeme) (q : Paragraph) → 0 < length (token l) → read_paragraph K N W l ≡ parsed q r →
      told l ≡ parse_then (told r) (λ qs r'. parsed (q ∷ qs) r')
  paragraphs-more l r q h e =
      paragraphs_several (length l) l
      ∙ several_more goes_on (read_paragraph K N W) refl (λ l e. paragraph_takes l) l r q (goes_on_lem l h) e
      ∙ ap (λ z. parse_then z (λ qs r'. parsed (q ∷ qs) r')) (sym (paragraphs_several (length r) r))

  pub paragraphs-run : (l : List Lexeme) (qs : List Paragraph) (r : List Lexeme) → told l ≡ parsed qs r → Run goes_on (read_paragraph K N W) l qs r
  paragraphs-run l qs r e =
      several_run goes_on (read_paragraph K N W) refl (λ l e. paragraph_takes l) (length l) l qs r (omega arith)
      (sym (paragraphs_several (length l) l) ∙ e)

  pub paragraphs-one : (n : ℕ) (l m r : List Lexeme) (q : Paragraph) (qs : List Paragraph) → goes_on l ≡ true → read_paragraph K N W l ≡ parsed q m →
      read_paragraphs K N W n m ≡ parsed qs r → read_paragraphs K N W (suc n) l ≡ parsed (q ∷ qs) r
  paragraphs-one n l m r q qs b e h =
      cond_not (eqb (length (token l)) 0) (parsed [] l) _
      ∙ cond_true (goes_on l) _ (parsed [] l) b
      ∙ ap (λ z. parse_then z (λ q r. parse_then (read_paragraphs K N W n r) (λ qs r'. parsed (q ∷ qs) r'))) e
      ∙ ap (λ z. parse_then z (λ qs r'. parsed (q ∷ qs) r')) h

  pub paragraphs_fail : (P : List Lexeme → Type 0) (x : Fault) →
      ((l : List Lexeme) → goes_on l ≡ true → read_paragraph K N W l ≡ bad x → P l) →
      ((l m : List Lexeme) (q : Paragraph) → goes_on l ≡ true → read_paragraph K N W l ≡ parsed q m → P m → P l) → (l : List Lexeme) →
      told l ≡ bad x → P l
  paragraphs_fail P x last before l e =
      several_fails goes_on (read_paragraph K N W) P x last before (length l) l (sym (paragraphs_several (length l) l) ∙ e)

-- ---- a file

module _ (b : List ℕ) where
  pub file_long : most_text < length b → read_file b ≡ read_ill (record { why = long_text; at = most_text; of = 0 }) known_nothing
  file_long h = cond_true _ _ _ (lt-ltb most_text (length b) h)

  module _ (short : length b ≤ most_text) where
    pub by_lexicon : read_file b ≡ with_lexicon (read_lexicon (lexemes b))
    by_lexicon = cond_false _ _ _ (le-ltb most_text (length b) short)

    pub file_lexicon : (x : Fault) → read_lexicon (lexemes b) ≡ bad x → read_file b ≡ read_ill x known_nothing
    file_lexicon x e = by_lexicon ∙ ap with_lexicon e

    module _ (a : LexiconRead) (r : List Lexeme) (e : read_lexicon (lexemes b) ≡ parsed a r) where
      abbrev read : Parsed (List Paragraph)
      read = read_paragraphs a.kind_names a.word_names (vocabulary_read a) (length r) r

      pub file_paragraphs : (x : Fault) → read ≡ bad x → read_file b ≡ read_ill x (known_read a)
      file_paragraphs x h = by_lexicon ∙ ap with_lexicon e ∙ ap (with_paragraphs a) h

      pub file_well : (qs : List Paragraph) (r' : List Lexeme) → read ≡ parsed qs r' → read_file b ≡ read_well a qs
      file_well qs r' h = by_lexicon ∙ ap with_lexicon e ∙ ap (with_paragraphs a) h
