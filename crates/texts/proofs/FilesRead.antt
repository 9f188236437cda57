-- FilesRead: a text of a file is read as that file.
--
--   vocabularies_are_read      the vocabulary that is read is the one that the lexicon stands for
--   questions-walk             questions one behind the other are read
--   paragraph_walk, paragraphs-walk     a paragraph, and paragraphs one behind the other
--   paragraphs-stop            where they begin, the declarations end
--   files_are_read             the law
--
use mathlib.Core.Path.{◌≡◌, refl, sym, ◌∙◌, ap, ap₂, subst}
use mathlib.Core.Bool.{true, false, false≢true}
use mathlib.Core.List.{List, [], ◌∷◌, ◌++◌, map, append_assoc, map-append}
use Prim.Native.Nat.{ℕ, suc, ◌<◌}
use native.Mathlib.Omega.{arith}
use lib.ListN.{length, drop, length-map}
use Rattle.terms.specs.Lists.{All}
use Rattle.terms.specs.Term.{Ground}
use Rattle.terms.proofs.All.{all_append, all_unmap}
use Rattle.terms.proofs.Bools.{and_both}
use Rattle.wire.specs.Vocabulary.{Word, Vocabulary}
use Rattle.texts.specs.Lexemes.{Token, Lexeme, lexemes}
use Rattle.texts.specs.Names.{same, kind_word, mark, opening, colon, bar, equals, is_identifier}
use Rattle.texts.specs.Lexicon.{WordText, KindText, Lexicon, kind_names, word_names, as_word, records_from, vocabulary_of, lexicon_tokens, GoodLexicon}
use Rattle.texts.specs.Phrases.{Phrase, label_tokens, phrase_tokens, whole_tokens}
use Rattle.texts.specs.Questions.{question_tokens, questions_tokens, GoodQuestion}
use Rattle.texts.specs.Files.{Paragraph, paragraph_tokens, paragraphs_tokens, file_tokens, GoodParagraph}
use Rattle.texts.specs.Faults.{parsed, parse_then, token}
use Rattle.texts.specs.LexiconReading.{row_word}
use Rattle.texts.specs.QuestionReading.{read_questions}
use Rattle.texts.specs.Answering.{read_paragraph, read_paragraphs}
use Rattle.texts.specs.Laws.{tokens_of, rows_from, lexicon_read, Stops, VocabulariesAreRead, FilesAreRead}
use Rattle.texts.proofs.Spelling.{spelling_is_exact}
use Rattle.texts.proofs.KindNames.{first, first-token, Quiet}
use Rattle.texts.proofs.PhrasesRead.{tokens-behind, phrases_read}
use Rattle.texts.proofs.LexiconsRead.{row_of, lexicons_read}
use Rattle.texts.proofs.QuestionsRead.{questions-read}
use Rattle.texts.proofs.Beginnings.{starts, fronted_append, fronted_first, whole_fronted, paragraphs_quiet, no-mark, no_mark_behind, asks, asks_tokens, no_question}
use Rattle.texts.proofs.Course.{questions-end, questions-more, paragraph_read, paragraphs-end, paragraphs-more, file_well}

-- ---- the vocabulary

rows_words : (k : ℕ) (ws : List WordText) → map row_word (map (row_of k) ws) ≡ map (as_word k) ws
rows_words k [] = refl
rows_words k (w ∷ ws) = ap (λ (l : List Word). as_word k w ∷ l) (rows_words k ws)

rows-records : (k : ℕ) (X : Lexicon) → map row_word (rows_from k X) ≡ records_from k X
rows-records k [] = refl
rows-records k (x ∷ X) =
    map-append row_word (map (row_of k) x.words) (rows_from (suc k) X)
    ∙ ap₂ ◌++◌ (rows_words k x.words) (rows-records (suc k) X)

abbrev made : ℕ → List Word → Vocabulary
made n l = record { kinds = n; words = l }

pub vocabularies_are_read : VocabulariesAreRead
vocabularies_are_read X good = ap₂ made (length-map X (λ (x : KindText). x.name)) (rows-records 0 X)

-- ---- questions and paragraphs, one behind the other

starts_some : (u : Token) → starts u ≡ true → 0 < length u
starts_some [] h = absurd (false≢true h)
starts_some (b ∷ u) h = omega arith

module _ (X : Lexicon) (lex : GoodLexicon X) where
  abbrev N : List Token
  N = word_names X

  abbrev W : Vocabulary
  W = vocabulary_of X

  -- Behind them no question stands.
  questions-walk : (p : Phrase) (gs : List Ground) → All (GoodQuestion X p) gs → (l : List Lexeme) (us : List Token) → asks us ≡ false →
      tokens_of l ≡ questions_tokens X p gs ++ us →
      (r : List Lexeme) × (read_questions N W p (length l) l ≡ parsed gs r) × (tokens_of r ≡ us)
  questions-walk p [] g l us h e = (l, questions-end N W p l (asks_tokens l ∙ (ap asks e ∙ h)), e)
  questions-walk p (x ∷ gs) g l us h e =
      let own : List Token = question_tokens X p x in
      let behind : List Token = questions_tokens X p gs ++ us in
      let split : tokens_of l ≡ own ++ behind = e ∙ append_assoc own (questions_tokens X p gs) us in
      let r : List Lexeme = drop (length own) l in
      let after : tokens_of r ≡ behind = tokens-behind own l behind split in
      let more = questions-walk p gs g.1 r us h after in (
        more.0,
        questions-more N W p l r x
            (asks_tokens l ∙ (ap asks split ∙ and_both (is_identifier p.label) true g.0.label.identifier refl))
            (questions-read X p x l r lex g.0 (split ∙ ap (λ (z : List Token). own ++ z) (sym after)))
            ∙ ap (λ z. parse_then z (λ gs r'. parsed (x ∷ gs) r')) more.1,
        more.2,
      )

  no_mark_at : (l : List Lexeme) (us : List Token) (c : ℕ) → tokens_of l ≡ us → same (first us) (mark c) ≡ false → same (token l) (mark c) ≡ false
  no_mark_at l us c e h = ap (λ (z : Token). same z (mark c)) (first-token l ∙ ap first e) ∙ h

  paragraph_walk : (q : Paragraph) → GoodParagraph X q → (l : List Lexeme) (us : List Token) → asks us ≡ false →
      same (first us) (mark colon) ≡ false → tokens_of l ≡ paragraph_tokens X q ++ us →
      (r : List Lexeme) × (read_paragraph (kind_names X) N W l ≡ parsed q r) × (tokens_of r ≡ us)
  paragraph_walk q g l us h c e =
      let p = q.phrase in
      let own : List Token = phrase_tokens X p.variables p.kind p.term in
      let asked : List Token = questions_tokens X p q.situations in
      let split : tokens_of l ≡ whole_tokens X p ++ (asked ++ us) = e ∙ append_assoc (whole_tokens X p) asked us in
      let m : List Lexeme = drop (length (whole_tokens X p)) l in
      let after : tokens_of m ≡ asked ++ us = tokens-behind (whole_tokens X p) l (asked ++ us) split in
      let behind = questions-walk p q.situations g.questions m us h after in (
        behind.0,
        paragraph_read (kind_names X) N W l m behind.0 p q.situations
            (phrases_read X p.label p.variables p.kind p.term l m lex g.phrase.label g.phrase.phrase
            (split ∙ append_assoc (label_tokens p.label) own (asked ++ us) ∙ ap (λ (z : List Token). label_tokens p.label ++ (own ++ z)) (sym after))
            (no_mark_at m (asked ++ us) colon after (no_mark_behind X lex colon p q.situations us g.questions refl c)))
            behind.1,
        behind.2,
      )

  paragraphs-walk : (qs : List Paragraph) → All (GoodParagraph X) qs → (l : List Lexeme) →
      tokens_of l ≡ paragraphs_tokens X qs ++ ([] ∷ []) →
      (r : List Lexeme) × (read_paragraphs (kind_names X) N W (length l) l ≡ parsed qs r)
  paragraphs-walk [] g l e = (l, paragraphs-end (kind_names X) N W l (ap (λ (u : Token). length u) (first-token l ∙ ap first e)))
  paragraphs-walk (q ∷ qs) g l e =
      let own : List Token = whole_tokens X q.phrase in
      let asked : List Token = questions_tokens X q.phrase q.situations in
      let behind : List Token = paragraphs_tokens X qs ++ ([] ∷ []) in
      let split : tokens_of l ≡ (own ++ asked) ++ behind = e ∙ append_assoc (own ++ asked) (paragraphs_tokens X qs) ([] ∷ []) in
      let start : starts (token l) ≡ true =
      ap starts (first-token l ∙ ap first split)
      ∙ fronted_first ((own ++ asked) ++ behind) (fronted_append (own ++ asked) behind (fronted_append own asked (whole_fronted X lex q.phrase g.0.phrase))) in
      let one = paragraph_walk q g.0 l behind (no_question X lex qs g.1) (no-mark X lex colon qs g.1 refl) split in
      let more = paragraphs-walk qs g.1 one.0 one.2 in (
        more.0,
        paragraphs-more (kind_names X) N W l one.0 q (starts_some (token l) start) one.1
            ∙ ap (λ z. parse_then z (λ qs r'. parsed (q ∷ qs) r')) more.1,
      )

  -- The paragraphs do not go on with a declaration.
  paragraphs-stop : (r : List Lexeme) (qs : List Paragraph) → All (GoodParagraph X) qs → tokens_of r ≡ paragraphs_tokens X qs ++ ([] ∷ []) → Stops r
  paragraphs-stop r qs g e = record {
    no_kind =
        all_unmap (λ u. same u kind_word ≡ false) (λ (x : Lexeme). x.token) r
        (subst Quiet (sym e) (all_append (λ u. same u kind_word ≡ false) (paragraphs_tokens X qs) ([] ∷ []) (paragraphs_quiet X lex qs g) (refl, tt)));
    no_equals = no_mark_at r (paragraphs_tokens X qs ++ ([] ∷ [])) equals e (no-mark X lex equals qs g refl);
    no_bar = no_mark_at r (paragraphs_tokens X qs ++ ([] ∷ [])) bar e (no-mark X lex bar qs g refl);
    no_opening = no_mark_at r (paragraphs_tokens X qs ++ ([] ∷ [])) opening e (no-mark X lex opening qs g refl);
  }

pub files_are_read : FilesAreRead
files_are_read b F t =
    file_well b t.short (lexicon_read X) r
    (lexicons_read X (lexemes b) r lex (split ∙ ap (λ (us : List Token). lexicon_tokens X ++ us) (sym after)) (paragraphs-stop X lex r qs t.paragraphs after))
    qs walked.0
    (ap (λ (W : Vocabulary). read_paragraphs (kind_names X) (word_names X) W (length r) r) (vocabularies_are_read X lex) ∙ walked.1)
  where
    X : Lexicon
    X = F.lexicon

    qs : List Paragraph
    qs = F.paragraphs

    lex : GoodLexicon X
    lex = t.lexicon

    behind : List Token
    behind = paragraphs_tokens X qs ++ ([] ∷ [])

    split : tokens_of (lexemes b) ≡ lexicon_tokens X ++ behind
    split = (spelling_is_exact b (file_tokens F)).1 t.spells ∙ append_assoc (lexicon_tokens X) (paragraphs_tokens X qs) ([] ∷ [])

    r : List Lexeme
    r = drop (length (lexicon_tokens X)) (lexemes b)

    after : tokens_of r ≡ behind
    after = tokens-behind (lexicon_tokens X) (lexemes b) behind split

    walked : (r' : List Lexeme) × (read_paragraphs (kind_names X) (word_names X) (vocabulary_of X) (length r) r ≡ parsed qs r')
    walked = paragraphs-walk X lex qs t.paragraphs r after
