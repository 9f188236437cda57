-- FileFaults: a text is refused at the first byte at fault.
--
--   Front, ended-front         lexemes that end as a text does, before the empty one and with it
--   Done l us r                the tokens us stand at the front of the lexemes l, and r behind them
--   done_none, done_by, done_more    none; by all tokens of l and r; and one behind the other
--   AskedIll, asked-ill        where one of several questions is at fault
--   ToldBefore, told_none      paragraphs that are read before a fault
--   ToldIll, told-ill          where one of several paragraphs is at fault
--   file_faults_are_first      the law
--
use mathlib.Core.Path.{◌≡◌, refl, sym, ◌∙◌, ap, subst}
use mathlib.Core.Bool.{true}
use mathlib.Core.List.{List, [], ◌∷◌, ◌++◌, append_assoc, map-append, append_cancel_right}
use mathlib.Core.Logic.{inl, inr}
use Prim.Native.Nat.{ℕ, ◌≤◌}
use native.Mathlib.Omega.{arith}
use lib.ListN.{length}
use Rattle.terms.specs.Lists.{All}
use Rattle.terms.specs.Term.{Ground}
use Rattle.wire.specs.Vocabulary.{Vocabulary}
use Rattle.texts.specs.Lexemes.{Token, Lexeme, lexemes}
use Rattle.texts.specs.Spelling.{IsToken}
use Rattle.texts.specs.Lexicon.{Lexicon, kind_names, word_names, vocabulary_of, kinds_tokens, GoodLexicon}
use Rattle.texts.specs.Phrases.{Phrase, label_tokens, phrase_tokens, whole_tokens, GoodWhole}
use Rattle.texts.specs.Questions.{question_tokens, questions_tokens, GoodQuestion}
use Rattle.texts.specs.Files.{Paragraph, paragraph_tokens, paragraphs_tokens, GoodParagraph}
use Rattle.texts.specs.Faults.{Fault, Parsed, parsed, bad, token}
use Rattle.texts.specs.LexiconReading.{LexiconRead, read_lexicon}
use Rattle.texts.specs.PhraseReading.{read_phrase}
use Rattle.texts.specs.QuestionReading.{begins_question, read_question, read_questions}
use Rattle.texts.specs.Answering.{read_ill, read_paragraph, read_paragraphs, vocabulary_read, with_paragraphs, with_lexicon}
use Rattle.texts.specs.Laws.{tokens_of, Ascending, FirstFault, begins_label, PhraseFirst, kinds_named, LexiconFault, QuestionFault, ReadBefore, AskedBefore, FileFault, in_lexicon, in_phrase, in_question, FileFaultsAreFirst}
use Rattle.texts.proofs.Rising.{lexemes_ascend}
use Rattle.texts.proofs.LexiconsExact.{with_late, LexiconBefore, lexicon-before}
use Rattle.texts.proofs.Gathering.{kinds_are_gathered}
use Rattle.texts.proofs.LexiconFirst.{lexicon_faults_are_first}
use Rattle.texts.proofs.PhrasesExact.{phrases_exact}
use Rattle.texts.proofs.FirstFaults.{phrase_faults_are_first}
use Rattle.texts.proofs.QuestionsExact.{questions-exact}
use Rattle.texts.proofs.QuestionFaults.{question_faults_are_first}
use Rattle.texts.proofs.Passing.{Ended, ended_lexed, ended_closes, text-ended, text-tokens, Passed, passed_rises, Takes, phrase_takes, question_takes}
use Rattle.texts.proofs.Closing.{text_closes}
use Rattle.texts.proofs.Course.{questions-one, questions_fail, goes_on, goes_some, Failed, in_pattern, in_questions, paragraph_fails, paragraph_takes, paragraphs-one, paragraphs_fail, by_lexicon}
use Rattle.texts.proofs.FilesRead.{vocabularies_are_read}
use Rattle.texts.proofs.FilesExact.{lexicon-behind, lexicon_rises, lexicon-ended, paragraph_so}

-- ---- lexemes, taken apart

record Front (l : List Lexeme) : Type 0 where
  front : List Lexeme
  last : Lexeme
  all : l ≡ front ++ (last ∷ [])
  tokens : All (λ (y : Lexeme). IsToken y.token) front
  empty : last.token ≡ []

ended-front : (l : List Lexeme) → Ended (tokens_of l) → Front l
ended-front [] h = absurd h
ended-front (x ∷ []) (inl h) = record { front = []; last = x; all = refl; tokens = tt; empty = h.0 }
ended-front (x ∷ y ∷ l) (inl h) = let z : ◌≡◌ {A = ℕ} 0 1 = cc in absurd (omega arith)
ended-front (x ∷ l) (inr h) =
    let k : Front l = ended-front l h.1 in
    record {
      front = x ∷ k.front;
      last = k.last;
      all = ap (λ (m : List Lexeme). x ∷ m) k.all;
      tokens = (h.0, k.tokens);
      empty = k.empty;
    }

record Done (l : List Lexeme) (us : List Token) (r : List Lexeme) : Type 0 where
  done : List Lexeme
  all : l ≡ done ++ r
  tokens : tokens_of done ≡ us

done_none : (l : List Lexeme) → Done l [] l
done_none l = record { done = []; all = refl; tokens = refl }

tokens_append : (l m : List Lexeme) → tokens_of (l ++ m) ≡ tokens_of l ++ tokens_of m
tokens_append l m = map-append (λ (x : Lexeme). x.token) l m

done_by : (l : List Lexeme) (us : List Token) (r done : List Lexeme) → l ≡ done ++ r → tokens_of l ≡ us ++ tokens_of r → Done l us r
done_by l us r done e h = record {
  done = done;
  all = e;
  tokens = append_cancel_right (tokens_of done) us (tokens_of r) (sym (ap tokens_of e ∙ tokens_append done r) ∙ h);
}

done_more : (us vs : List Token) {l m r : List Lexeme} → Done l us m → Done m vs r → Done l (us ++ vs) r
done_more us vs {r = r} d k = record {
  done = d.done ++ k.done;
  all = d.all ∙ ap (λ (z : List Lexeme). d.done ++ z) k.all ∙ sym (append_assoc d.done k.done r);
  tokens =
      tokens_append d.done k.done ∙ ap (λ (ws : List Token). ws ++ tokens_of k.done) d.tokens ∙
      ap (λ (ws : List Token). us ++ ws) k.tokens;
}

-- ---- questions and paragraphs

module _ (X : Lexicon) (lex : GoodLexicon X) where
  abbrev K : List Token
  K = kind_names X

  abbrev N : List Token
  N = word_names X

  abbrev W : Vocabulary
  W = vocabulary_of X

  record AskedIll (p : Phrase) (q : ℕ) (l : List Lexeme) : Type 0 where
    situations : List Ground
    here : List Lexeme
    good : All (GoodQuestion X p) situations
    before : Done l (questions_tokens X p situations) here
    read : read_questions N W p (length situations) l ≡ parsed situations here
    begins : begins_question here ≡ true
    fault : QuestionFault X p here q

  question_ill_lem : (p : Phrase) → GoodWhole X p → (x : Fault) (l : List Lexeme) → begins_question l ≡ true → read_question N W p l ≡ bad x →
      Ended (tokens_of l) → Ascending l → QuestionFault X p l x.at
  question_ill_lem p whole x l b e c a =
      let f : Front l = ended-front l c in
      subst (λ (m : List Lexeme). QuestionFault X p m x.at) (sym f.all)
      (question_faults_are_first X p f.front f.last x lex whole f.tokens f.empty (subst Ascending f.all a)
      (subst (λ (m : List Lexeme). begins_question m ≡ true) f.all b)
      (subst (λ (m : List Lexeme). read_question N W p m ≡ bad x) f.all e))

  asked-ill : (p : Phrase) → GoodWhole X p → (x : Fault) (l : List Lexeme) → read_questions N W p (length l) l ≡ bad x → Ended (tokens_of l) →
      Ascending l → AskedIll p x.at l
  asked-ill p whole x l e =
      questions_fail N W p (λ l. Ended (tokens_of l) → Ascending l → AskedIll p x.at l) x
      (λ l b e c a. record {
        situations = [];
        here = l;
        good = tt;
        before = done_none l;
        read = refl;
        begins = b;
        fault = question_ill_lem p whole x l b e c a;
      })
      one l e
    where
      one : (l m : List Lexeme) (g : Ground) → begins_question l ≡ true → read_question N W p l ≡ parsed g m →
          (Ended (tokens_of m) → Ascending m → AskedIll p x.at m) → Ended (tokens_of l) → Ascending l → AskedIll p x.at l
      one l m g b e behind c a =
          let passed : Passed l m = (subst (Takes l) e (question_takes N W p l b)).0 in
          let h = questions-exact X p g l m lex whole (ended_lexed l c) (ended_closes l c) a b e in
          let k : AskedIll p x.at m = behind (passed.ended c) (passed_rises passed a) in
          record {
            situations = g ∷ k.situations;
            here = k.here;
            good = (h.0, k.good);
            before =
                done_more (question_tokens X p g) (questions_tokens X p k.situations)
                (done_by l (question_tokens X p g) m passed.done passed.all h.1) k.before;
            read = questions-one N W p (length k.situations) l m k.here g k.situations b e k.read;
            begins = k.begins;
            fault = k.fault;
          }

  -- The paragraphs qs before the one at fault, and what is left behind them.
  record ToldBefore (l : List Lexeme) (qs : List Paragraph) (r : List Lexeme) : Type 0 where
    good : All (GoodParagraph X) qs
    before : Done l (paragraphs_tokens X qs) r
    read : read_paragraphs K N W (length qs) l ≡ parsed qs r

  told_none : (l : List Lexeme) → ToldBefore l [] l
  told_none l = record { good = tt; before = done_none l; read = refl }

  data ToldIll (q : ℕ) (l : List Lexeme) : Type 0 where
    phrase_ill : (qs : List Paragraph) (r : List Lexeme) → ToldBefore l qs r → 1 ≤ length (token r) →
        FirstFault (PhraseFirst X (begins_label r)) r q → ToldIll q l
    question_ill : (qs : List Paragraph) (m : List Lexeme) (p : Phrase) (gs : List Ground) (r : List Lexeme) → ToldBefore l qs m →
        AskedBefore m X p gs r → begins_question r ≡ true → QuestionFault X p r q → ToldIll q l

  phrase-ill : (x : Fault) (l : List Lexeme) → read_phrase K N W l ≡ bad x → Ended (tokens_of l) →
      FirstFault (PhraseFirst X (begins_label l)) l x.at
  phrase-ill x l e c =
      let f : Front l = ended-front l c in
      subst (λ (m : List Lexeme). FirstFault (PhraseFirst X (begins_label m)) m x.at) (sym f.all)
      (phrase_faults_are_first X f.front f.last x lex f.tokens f.empty
      (subst (λ (m : List Lexeme). read_phrase K N W m ≡ bad x) f.all e))

  paragraph_ill : (x : Fault) (l : List Lexeme) → goes_on l ≡ true → Ended (tokens_of l) → Ascending l → Failed K N W l x → ToldIll x.at l
  paragraph_ill x l b c a (in_pattern e) = phrase_ill [] l (told_none l) (goes_some l b) (phrase-ill x l e c)
  paragraph_ill x l b c a (in_questions p m e h) =
      let own : List Token = phrase_tokens X p.variables p.kind p.term in
      let passed : Passed l m = (subst (Takes l) e (phrase_takes K N W l)).0 in
      let read = phrases_exact X l m p lex (ended_lexed l c) e in
      let whole : GoodWhole X p = record { label = read.0; phrase = read.1 } in
      let k : AskedIll p x.at m = asked-ill p whole x m h (passed.ended c) (passed_rises passed a) in
      let d : Done l (whole_tokens X p ++ questions_tokens X p k.situations) k.here =
      done_more (whole_tokens X p) (questions_tokens X p k.situations)
      (done_by l (whole_tokens X p) m passed.done passed.all (read.2 ∙ sym (append_assoc (label_tokens p.label) own (tokens_of m))))
      k.before in
      question_ill [] l p k.situations k.here (told_none l)
      (record {
        phrase = whole;
        questions = k.good;
        before = d.done;
        all = d.all;
        tokens = d.tokens;
        behind = m;
        read_first = e;
        read_then = k.read;
      })
      k.begins k.fault

  told-ill : (x : Fault) (l : List Lexeme) → read_paragraphs K N W (length l) l ≡ bad x → Ended (tokens_of l) → Ascending l → ToldIll x.at l
  told-ill x l e =
      paragraphs_fail K N W (λ l. Ended (tokens_of l) → Ascending l → ToldIll x.at l) x
      (λ l b e c a. paragraph_ill x l b c a (paragraph_fails K N W l x e)) one l e
    where
      told_more : (l m : List Lexeme) (q : Paragraph) (qs : List Paragraph) (r : List Lexeme) → goes_on l ≡ true → read_paragraph K N W l ≡ parsed q m →
          GoodParagraph X q → Done l (paragraph_tokens X q) m → ToldBefore m qs r → ToldBefore l (q ∷ qs) r
      told_more l m q qs r b e good d t = record {
        good = (good, t.good);
        before = done_more (paragraph_tokens X q) (paragraphs_tokens X qs) d t.before;
        read = paragraphs-one K N W (length qs) l m r q qs b e t.read;
      }

      behind : (l m : List Lexeme) (q : Paragraph) → goes_on l ≡ true → read_paragraph K N W l ≡ parsed q m → GoodParagraph X q →
          Done l (paragraph_tokens X q) m → ToldIll x.at m → ToldIll x.at l
      behind l m q b e good d (phrase_ill qs r t some f) = phrase_ill (q ∷ qs) r (told_more l m q qs r b e good d t) some f
      behind l m q b e good d (question_ill qs r p gs here t asked begins f) =
          question_ill (q ∷ qs) r p gs here (told_more l m q qs r b e good d t) asked begins f

      one : (l m : List Lexeme) (q : Paragraph) → goes_on l ≡ true → read_paragraph K N W l ≡ parsed q m →
          (Ended (tokens_of m) → Ascending m → ToldIll x.at m) → Ended (tokens_of l) → Ascending l → ToldIll x.at l
      one l m q b e more c a =
          let passed : Passed l m = (subst (Takes l) e (paragraph_takes K N W l)).0 in
          let h = paragraph_so X lex q l m e c a in
          behind l m q b e h.0 (done_by l (paragraph_tokens X q) m passed.done passed.all h.1)
          (more (passed.ended c) (passed_rises passed a))

-- ---- the text as a whole

module _ (b : List ℕ) (x : Fault) where
  abbrev L : List Lexeme
  L = lexemes b

  apart : Front L
  apart = ended-front L (text-ended b)

  in_lexicon_lem : read_lexicon L ≡ bad x → FileFault L x.at
  in_lexicon_lem e =
      in_lexicon x e
      (subst (λ (l : List Lexeme). LexiconFault (kinds_named (tokens_of l)) l x.at) (sym apart.all)
      (lexicon_faults_are_first apart.front apart.last x apart.tokens apart.empty
      (subst (λ (l : List Lexeme). read_lexicon l ≡ bad x) apart.all e)))

  module _ (a : LexiconRead) (r : List Lexeme) (e : read_lexicon L ≡ parsed a r) (read : LexiconBefore L r a) where
    abbrev X : Lexicon
    X = with_late read.before read.late

    abbrev us : List Token
    us = kinds_tokens (kind_names X) read.before

    front : Done L us r
    front = let h = lexicon-behind L r a e in done_by L us r h.0 h.1 read.tokens

    read-before : (qs : List Paragraph) (m : List Lexeme) → ToldBefore X read.good r qs m → ReadBefore L X qs m
    read-before qs m t =
        let d : Done L (us ++ paragraphs_tokens X qs) m = done_more us (paragraphs_tokens X qs) front t.before in
        record {
          declared = read.before;
          late = read.late;
          whole = refl;
          kinds = read.kinds ∙ kinds_are_gathered (tokens_of L);
          lexicon = read.good;
          paragraphs = t.good;
          before = d.done;
          all = d.all;
          tokens = d.tokens;
          behind = r;
          read_first = e ∙ ap (λ (z : LexiconRead). parsed z r) read.read;
          read_then = t.read;
        }

    in_text : ToldIll X read.good x.at r → FileFault L x.at
    in_text (phrase_ill qs m t some f) = in_phrase X qs m (read-before qs m t) some f
    in_text (question_ill qs m p gs here t asked begins f) = in_question X qs m p gs here (read-before qs m t) asked begins f

    by_paragraphs : read_paragraphs a.kind_names a.word_names (vocabulary_read a) (length r) r ≡ bad x → FileFault L x.at
    by_paragraphs h =
        in_text
        (told-ill X read.good x r
        (subst (λ (W : Vocabulary). read_paragraphs (kind_names X) (word_names X) W (length r) r ≡ bad x) (vocabularies_are_read X read.good)
        (subst (λ (z : LexiconRead). read_paragraphs z.kind_names z.word_names (vocabulary_read z) (length r) r ≡ bad x) read.read h))
        (lexicon-ended L r a (text-ended b) e) (lexicon_rises L r a (lexemes_ascend b) e))

pub file_faults_are_first : FileFaultsAreFirst
file_faults_are_first b x T short e = second (read_lexicon (lexemes b)) refl (sym (by_lexicon b short) ∙ e)
  where
    third : (a : LexiconRead) (r : List Lexeme) → read_lexicon (lexemes b) ≡ parsed a r → (y : Parsed (List Paragraph)) →
        read_paragraphs a.kind_names a.word_names (vocabulary_read a) (length r) r ≡ y → with_paragraphs a y ≡ read_ill x T →
        FileFault (lexemes b) x.at
    third a r h (parsed qs r') k e = let z : ◌≡◌ {A = ℕ} 0 1 = cc in absurd (omega arith)
    third a r h (bad y) k e = let f : y ≡ x = cc in by_paragraphs b x a r h (lexicon-before (lexemes b) r a (text-tokens b) (text_closes b) h) (k ∙ ap bad f)

    second : (y : Parsed LexiconRead) → read_lexicon (lexemes b) ≡ y → with_lexicon y ≡ read_ill x T → FileFault (lexemes b) x.at
    second (bad y) h e = let f : y ≡ x = cc in in_lexicon_lem b x (h ∙ ap bad f)
    second (parsed a r) h e =
        third a r h (read_paragraphs a.kind_names a.word_names (vocabulary_read a) (length r) r) refl e
