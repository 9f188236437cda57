-- FilesExact: what is read as a file is one, and the text is a text of it.
--
--   lexicon-behind             what is left behind a vocabulary is the end of the text ..
--   lexicon_rises, lexicon-ended     .. so that offsets rise there, and it ends as the text does
--   ended_here, calm_end       where the text ends, and that no `kind` stands there
--   questions_so               questions that were read are good, and their tokens are those that were read
--   paragraph_so, paragraphs_so     so are paragraphs, under a good vocabulary
--   files_are_exact            the law
--
use mathlib.Core.Path.{◌≡◌, refl, sym, ◌∙◌, ap, ap₂, subst}
use mathlib.Core.Bool.{Bool, true, false, not, cond, true≢false}
use mathlib.Core.List.{List, [], ◌∷◌, ◌++◌, append_assoc}
use mathlib.Core.Logic.{inl, inr}
use Prim.Native.Nat.{ℕ, ◌≤◌}
use native.Mathlib.Omega.{arith}
use lib.Dec.{eqb, ltb}
use lib.ListN.{length}
use borrow.Author.Tests.{ltb-false, ne_eqb}
use Rattle.terms.specs.Lists.{All}
use Rattle.terms.specs.Term.{Ground}
use Rattle.terms.proofs.All.{all_unmap}
use Rattle.wire.specs.Vocabulary.{Vocabulary}
use Rattle.wire.proofs.Cond.{choice}
use Rattle.texts.specs.Lexemes.{Token, Lexeme, lexemes}
use Rattle.texts.specs.Names.{same, kind_word}
use Rattle.texts.specs.Lexicon.{Lexicon, kind_names, word_names, vocabulary_of, kinds_tokens, lexicon_tokens, GoodLexicon}
use Rattle.texts.specs.Phrases.{Phrase, label_tokens, phrase_tokens, whole_tokens, GoodWhole}
use Rattle.texts.specs.Questions.{question_tokens, questions_tokens, GoodQuestion}
use Rattle.texts.specs.Files.{most_text, Paragraph, File, paragraph_tokens, paragraphs_tokens, GoodParagraph, IsText}
use Rattle.texts.specs.Faults.{Parsed, parsed, bad, place, no_words, long_text}
use Rattle.texts.specs.LexiconReading.{names_from, Declaring, rows_of, beginning, Stepped, on, over, fails, step, LexiconRead, ended, stepped, read_rows, read_lexicon}
use Rattle.texts.specs.QuestionReading.{begins_question, read_question}
use Rattle.texts.specs.Answering.{read_well, read_ill, read_paragraph, read_paragraphs, vocabulary_read, with_paragraphs, with_lexicon, known_nothing}
use Rattle.texts.specs.Laws.{tokens_of, lexicon_read, Ascending, FilesAreExact}
use Rattle.texts.proofs.Spelling.{some_token, spelling_is_exact}
use Rattle.texts.proofs.Closing.{text_closes}
use Rattle.texts.proofs.Rising.{rises_right, lexemes_ascend}
use Rattle.texts.proofs.PhrasesExact.{phrases_exact}
use Rattle.texts.proofs.QuestionsExact.{questions-exact}
use Rattle.texts.proofs.LexiconsExact.{with_late, lexicon-before, lexicons_exact}
use Rattle.texts.proofs.FilesRead.{vocabularies_are_read}
use Rattle.texts.proofs.Passing.{Ended, ended-rest, ended_lexed, ended_closes, closes_some, text-ended, text-tokens, Calm, Passed, passed_rises, Takes, phrase_takes, question_takes}
use Rattle.texts.proofs.Series.{Run, stop, more, run-passed}
use Rattle.texts.proofs.Course.{questions-run, paragraph_parts, paragraph_takes, goes_on, paragraphs-run}

-- ---- behind the vocabulary

abbrev Behind : List Lexeme → Parsed LexiconRead → Type 0
Behind l (parsed a r) = (done : List Lexeme) × (l ≡ done ++ r)
Behind l (bad x) = Unit {0}

behind_more : (y : Lexeme) (l : List Lexeme) (g : Parsed LexiconRead) → Behind l g → Behind (y ∷ l) g
behind_more y l (parsed a r) h = (y ∷ h.0, ap (λ (z : List Lexeme). y ∷ z) h.1)
behind_more y l (bad x) h = tt

ended-behind : (K : List Token) (x : Declaring) (l : List Lexeme) → Behind l (ended K x l)
ended-behind K x l =
    choice (Behind l) (eqb (length x.names) 0) (bad (record { why = no_words; at = place l; of = 0 }))
    (parsed (record { kind_names = K; word_names = x.names; rows = rows_of x }) l) (λ e. tt) (λ e. ([], refl))

rows_behind : (K : List Token) (l : List Lexeme) (x : Declaring) → Behind l (read_rows K x l)
rows_behind K [] x = ended-behind K x []
rows_behind K (y ∷ l) x = go (rows_behind K l) (step K x y.token)
  where
    go : ((z : Declaring) → Behind l (read_rows K z l)) → (s : Stepped) → Behind (y ∷ l) (stepped (λ z. read_rows K z l) K x (y ∷ l) s)
    go ih (on z) = behind_more y l (read_rows K z l) (ih z)
    go ih over = ended-behind K x (y ∷ l)
    go ih (fails why) = tt

pub lexicon-behind : (l r : List Lexeme) (a : LexiconRead) → read_lexicon l ≡ parsed a r → (done : List Lexeme) × (l ≡ done ++ r)
lexicon-behind l r a e = subst (Behind l) e (rows_behind (names_from [] (tokens_of l)) l beginning)

pub lexicon_rises : (l r : List Lexeme) (a : LexiconRead) → Ascending l → read_lexicon l ≡ parsed a r → Ascending r
lexicon_rises l r a h e = let k = lexicon-behind l r a e in rises_right k.0 r (subst Ascending k.1 h)

pub lexicon-ended : (l r : List Lexeme) (a : LexiconRead) → Ended (tokens_of l) → read_lexicon l ≡ parsed a r → Ended (tokens_of r)
lexicon-ended l r a c e =
    let h = lexicon-before l r a (ended_lexed l c) (ended_closes l c) e in
    ended-rest (kinds_tokens (kind_names (with_late h.before h.late)) h.before) (tokens_of r) (subst Ended h.tokens c) (closes_some r h.closes)

-- ---- the end

no_more : (u : Token) → not (eqb (length u) 0) ≡ false → u ≡ []
no_more [] e = refl
no_more (b ∷ u) e = absurd (true≢false (sym (ap not (ne_eqb (length (b ∷ u)) 0 (λ z. omega arith))) ∙ e))

ended_here : (l : List Lexeme) → Ended (tokens_of l) → goes_on l ≡ false → tokens_of l ≡ [] ∷ []
ended_here [] c e = absurd c
ended_here (x ∷ l) (inl h) e = ap₂ {C = List Token} ◌∷◌ h.0 h.1
ended_here (x ∷ l) (inr h) e = absurd (some_token h.0 (no_more x.token e))

calm_end : (l : List Lexeme) → tokens_of l ≡ [] ∷ [] → Calm l
calm_end l e = all_unmap (λ u. same u kind_word ≡ false) (λ (x : Lexeme). x.token) l (subst (All (λ u. same u kind_word ≡ false)) (sym e) (refl, tt))

run_end : (one : List Lexeme → Parsed Paragraph) {l r : List Lexeme} {qs : List Paragraph} → Run goes_on one l qs r → goes_on r ≡ false
run_end one (stop l e) = e
run_end one (more l m r q qs b e run) = run_end one run

-- ---- questions and paragraphs

module _ (X : Lexicon) (lex : GoodLexicon X) where
  abbrev K : List Token
  K = kind_names X

  abbrev N : List Token
  N = word_names X

  abbrev W : Vocabulary
  W = vocabulary_of X

  pub questions_so : (p : Phrase) → GoodWhole X p → {l r : List Lexeme} {gs : List Ground} → Run begins_question (read_question N W p) l gs r →
      Ended (tokens_of l) → Ascending l → All (GoodQuestion X p) gs × (tokens_of l ≡ questions_tokens X p gs ++ tokens_of r)
  questions_so p whole (stop l e) c a = (tt, refl)
  questions_so p whole (more l m r g gs b e run) c a =
      let passed = (subst (Takes l) e (question_takes N W p l b)).0 in
      let one = questions-exact X p g l m lex whole (ended_lexed l c) (ended_closes l c) a b e in
      let others = questions_so p whole run (passed.ended c) (passed_rises passed a) in (
        (one.0, others.0),
        one.1 ∙ ap (λ (us : List Token). question_tokens X p g ++ us) others.1
            ∙ sym (append_assoc (question_tokens X p g) (questions_tokens X p gs) (tokens_of r)),
      )

  pub paragraph_so : (q : Paragraph) (l r : List Lexeme) → read_paragraph K N W l ≡ parsed q r → Ended (tokens_of l) → Ascending l →
      GoodParagraph X q × (tokens_of l ≡ paragraph_tokens X q ++ tokens_of r)
  paragraph_so q l r e c a =
      let p = q.phrase in
      let parts = paragraph_parts K N W l q r e in
      let m : List Lexeme = parts.between in
      let own : List Token = phrase_tokens X p.variables p.kind p.term in
      let asked : List Token = questions_tokens X p q.situations in
      let h = phrases_exact X l m p lex (ended_lexed l c) parts.phrase in
      let whole : GoodWhole X p = record { label = h.0; phrase = h.1 } in
      let passed = (subst (Takes l) parts.phrase (phrase_takes K N W l)).0 in
      let k = questions_so p whole (questions-run N W p m q.situations r parts.questions) (passed.ended c) (passed_rises passed a) in (
        record { phrase = whole; questions = k.0 },
        h.2 ∙ sym (append_assoc (label_tokens p.label) own (tokens_of m))
            ∙ ap (λ (us : List Token). whole_tokens X p ++ us) k.1
            ∙ sym (append_assoc (whole_tokens X p) asked (tokens_of r)),
      )

  pub paragraphs_so : {l r : List Lexeme} {qs : List Paragraph} → Run goes_on (read_paragraph K N W) l qs r → Ended (tokens_of l) → Ascending l →
      All (GoodParagraph X) qs × (tokens_of l ≡ paragraphs_tokens X qs ++ tokens_of r)
  paragraphs_so (stop l e) c a = (tt, refl)
  paragraphs_so (more l m r q qs b e run) c a =
      let passed = (subst (Takes l) e (paragraph_takes K N W l)).0 in
      let one = paragraph_so q l m e c a in
      let others = paragraphs_so run (passed.ended c) (passed_rises passed a) in (
        (one.0, others.0),
        one.1 ∙ ap (λ (us : List Token). paragraph_tokens X q ++ us) others.1
            ∙ sym (append_assoc (paragraph_tokens X q) (paragraphs_tokens X qs) (tokens_of r)),
      )

-- ---- the text as a whole

abbrev Exact : List ℕ → LexiconRead → List Paragraph → Type 0
Exact b a qs = (F : File) × IsText b F × (a ≡ lexicon_read F.lexicon) × (qs ≡ F.paragraphs)

exact : (b : List ℕ) (a : LexiconRead) (r : List Lexeme) (qs : List Paragraph) (r' : List Lexeme) → length b ≤ most_text →
    read_lexicon (lexemes b) ≡ parsed a r → read_paragraphs a.kind_names a.word_names (vocabulary_read a) (length r) r ≡ parsed qs r' → Exact b a qs
exact b a r qs r' short e h = (
  record { lexicon = X; paragraphs = qs },
  record {
    short = short;
    spells =
        (spelling_is_exact b (lexicon_tokens X ++ paragraphs_tokens X qs)).0
        (read.3
        ∙ (ap (λ (us : List Token). lexicon_tokens X ++ us) (told.1 ∙ ap (λ (us : List Token). paragraphs_tokens X qs ++ us) last)
        ∙ sym (append_assoc (lexicon_tokens X) (paragraphs_tokens X qs) ([] ∷ []))));
    lexicon = read.1;
    paragraphs = told.0;
  },
  read.2,
  refl,
)
  where
    at_end : Ended (tokens_of r)
    at_end = lexicon-ended (lexemes b) r a (text-ended b) e

    reader : List Lexeme → Parsed Paragraph
    reader = read_paragraph a.kind_names a.word_names (vocabulary_read a)

    run : Run goes_on reader r qs r'
    run = paragraphs-run a.kind_names a.word_names (vocabulary_read a) r qs r' h

    passed : Passed r r'
    passed = run-passed goes_on reader refl (λ l e. paragraph_takes a.kind_names a.word_names (vocabulary_read a) l) run

    last : tokens_of r' ≡ [] ∷ []
    last = ended_here r' (passed.ended at_end) (run_end reader run)

    read : (X : Lexicon) × GoodLexicon X × (a ≡ lexicon_read X) × (tokens_of (lexemes b) ≡ lexicon_tokens X ++ tokens_of r)
    read = lexicons_exact (lexemes b) r a (text-tokens b) (text_closes b) e (passed.calm (calm_end r' last))

    X : Lexicon
    X = read.0

    told : All (GoodParagraph X) qs × (tokens_of r ≡ paragraphs_tokens X qs ++ tokens_of r')
    told =
        paragraphs_so X read.1
        (subst (λ (W : Vocabulary). Run goes_on (read_paragraph (kind_names X) (word_names X) W) r qs r') (vocabularies_are_read X read.1)
        (subst (λ (z : LexiconRead). Run goes_on (read_paragraph z.kind_names z.word_names (vocabulary_read z)) r qs r') read.2 run))
        at_end (lexicon_rises (lexemes b) r a (lexemes_ascend b) e)

pub files_are_exact : FilesAreExact
files_are_exact b a qs e = size (ltb most_text (length b)) refl e
  where
    third : length b ≤ most_text → (c : LexiconRead) (r : List Lexeme) → read_lexicon (lexemes b) ≡ parsed c r → (y : Parsed (List Paragraph)) →
        read_paragraphs c.kind_names c.word_names (vocabulary_read c) (length r) r ≡ y → with_paragraphs c y ≡ read_well a qs → Exact b a qs
    third short c r h (bad x) k e = let z : ◌≡◌ {A = ℕ} 0 1 = cc in absurd (omega arith)
    third short c r h (parsed ps r') k e =
        let same : c ≡ a = cc in
        let these : ps ≡ qs = cc in
        subst (λ (x : LexiconRead). Exact b x qs) same (subst (Exact b c) these (exact b c r ps r' short h k))

    second : length b ≤ most_text → (y : Parsed LexiconRead) → read_lexicon (lexemes b) ≡ y → with_lexicon y ≡ read_well a qs → Exact b a qs
    second short (bad x) h e = let z : ◌≡◌ {A = ℕ} 0 1 = cc in absurd (omega arith)
    second short (parsed c r) h e =
        third short c r h (read_paragraphs c.kind_names c.word_names (vocabulary_read c) (length r) r) refl e

    size : (t : Bool) → ltb most_text (length b) ≡ t →
        cond t (read_ill (record { why = long_text; at = most_text; of = 0 }) known_nothing) (with_lexicon (read_lexicon (lexemes b))) ≡ read_well a qs →
        Exact b a qs
    size true h e = let z : ◌≡◌ {A = ℕ} 0 1 = cc in absurd (omega arith)
    size false h e = second (ltb-false most_text (length b) h) (read_lexicon (lexemes b)) refl e
