-- Asking: the answers to questions are put one by one.
--
--   no_ok                      a result that is no Ok is an Err
--   name-token, behind_two, label-first     the first tokens of some lexemes
--   identifier-clear           a name is not (
--   asked X p l                the questions that stand in l
--   asked-clear                what they stand in begins with no (
--   one_more                   what is read behind one question
--   asker_is                   reading by the tables is reading by the vocabulary
--   exact, question_puts       one question
--   Left                       these questions are left, and what was put is finished by the answers to them
--   Asks                       so far the answers were put
--   asks_none, asks_all, asks_bad, asks_less, asks_turn     how that begins, ends and goes on
--
use mathlib.Core.Path.{◌≡◌, refl, sym, ap, subst, ◌∙◌}
use mathlib.Core.Bool.{Bool, true, false, false≢true}
use mathlib.Core.List.{List, [], ◌∷◌, ◌++◌}
use Prim.Native.Nat.{ℕ, ◌<◌, ◌≤◌}
use native.Mathlib.Omega.{arith}
use lib.ListN.{length, take}
use Rattle.terms.specs.Term.{any, Ground}
use Rattle.terms.proofs.Bools.{and_parts, false_of_not}
use Rattle.wire.specs.Vocabulary.{Vocabulary}
use Rattle.texts.specs.Lexemes.{Token, Lexeme, asking, lexemes_from, token_at}
use Rattle.texts.specs.Names.{same, mark, opening, is_identifier, IsIdentifier, name_at}
use Rattle.texts.specs.Lexicon.{Lexicon, word_names, vocabulary_of}
use Rattle.texts.specs.Phrases.{Phrase, label_tokens, phrase_tokens}
use Rattle.texts.specs.Questions.{ground_tokens, question_tokens, GoodQuestion}
use Rattle.texts.specs.Faults.{Parsed, parsed, bad, parse_then, token, rest}
use Rattle.texts.specs.Verdicts.{question_text, questions_text}
use Rattle.texts.specs.QuestionReading.{begins_question, read_question, read_questions}
use Rattle.texts.specs.Tabled.{names_in, tabled_vocabulary}
use Rattle.texts.specs.Laws.{tokens_of}
use Rattle.texts.proofs.Scanning.{same-exact}
use Rattle.texts.proofs.Lookups.{identifier_some}
use Rattle.texts.proofs.Rising.{from_ascend}
use Rattle.texts.proofs.Passing.{question_takes}
use Rattle.texts.proofs.QuestionsExact.{questions-exact}
use Rattle.texts.proofs.Course.{questions-end, questions-bad, questions-more}
use Rattle.pages.specs.Pages.{Adds}
use Rattle.pages.proofs.Pages.{adds_is, adds_then, adds-nothing}
use Rattle.std.specs.Prelude.{Result, Ok, Err}
use Rattle.faults.specs.declared.Fault as faults-fault
use Rattle.faults.specs.Reasons.{fault_of}
use Rattle.questions.specs.Asking.{QuestionAnswer, ReadsTo, QuestionPromise}
use Rattle.verdicts.specs.Putting.{PutsQuestion}
use Rattle.gatherings.specs.Courses.{Readable}
use Rattle.paragraphs.specs.Paragraphs.{BehindAsking, About, PutsQuestions}
use Rattle.paragraphs.proofs.Offsets.{from_lexed, from_closes}
use Rattle.gatherings.proofs.Readings.{reads-bad, reads-well}
use Rattle.paragraphs.proofs.Checking.{takes_less}

pub no_ok : {T E : Type 0} (r : Result T E) → ((x : T) → r ≡ Ok x → ⊥) → (y : E) × (r ≡ Err y)
no_ok (Ok x) never = absurd (never x refl)
no_ok (Err y) never = (y, refl)

-- ---- tokens

name-token : (l : List Lexeme) → name_at (tokens_of l) 0 ≡ token l
name-token [] = refl
name-token (x ∷ l) = refl

behind_two : (l : List Lexeme) (u v : Token) (us : List Token) → tokens_of l ≡ u ∷ v ∷ us → tokens_of (rest (rest l)) ≡ us
behind_two [] u v us e = let z : ◌≡◌ {A = ℕ} 0 1 = cc in absurd (omega arith)
behind_two (x ∷ []) u v us e = let z : ◌≡◌ {A = ℕ} 0 1 = cc in absurd (omega arith)
behind_two (x ∷ y ∷ l) u v us e = cc

label-first : (l : List Lexeme) (u : Token) (us R : List Token) → IsIdentifier u → tokens_of l ≡ (label_tokens u ++ us) ++ R → token l ≡ u
label-first l [] us R is e = absurd (identifier_some [] is.identifier refl)
label-first [] (c ∷ u) us R is e = let z : ◌≡◌ {A = ℕ} 0 1 = cc in absurd (omega arith)
label-first (x ∷ l) (c ∷ u) us R is e = cc

identifier-clear : (u : Token) → is_identifier u ≡ true → same u (mark opening) ≡ false
identifier-clear u e =
    false_of_not (same u (mark opening)) (λ h. false≢true (sym (ap is_identifier (same-exact u (mark opening) h)) ∙ e))

-- ---- reading

abbrev asked : Lexicon → Phrase → List Lexeme → Parsed (List Ground)
asked X p l = read_questions (word_names X) (vocabulary_of X) p (length l) l

asked-clear : (X : Lexicon) (p : Phrase) (gs : List Ground) (l m : List Lexeme) → asked X p l ≡ parsed gs m → same (token m) (mark opening) ≡ false →
    same (token l) (mark opening) ≡ false
asked-clear X p gs l m e clear = go (begins_question l) refl
  where
    go : (t : Bool) → begins_question l ≡ t → same (token l) (mark opening) ≡ false
    go true b = identifier-clear (token l) (and_parts (is_identifier (token l)) (same (token (rest l)) (mark asking)) b).0
    go false b =
        let ends = questions-end (word_names X) (vocabulary_of X) p l b in
        let here : m ≡ l = cc in
        subst (λ (z : List Lexeme). same (token z) (mark opening) ≡ false) here clear

one_more : (y : Parsed (List Ground)) (g : Ground) (gs : List Ground) (m : List Lexeme) → parse_then y (λ hs r. parsed (g ∷ hs) r) ≡ parsed gs m →
    (hs : List Ground) × (y ≡ parsed hs m) × (g ∷ hs ≡ gs)
one_more (parsed hs r) g gs m e = let here : r ≡ m = cc in (hs, ap (parsed hs) here, cc)
one_more (bad x) g gs m e = let z : ◌≡◌ {A = ℕ} 0 1 = cc in absurd (omega arith)

-- ---- one question

module _ {b : List ℕ} {s label kind : ℕ} {ws : List ℕ} {n : ℕ} {r : List ℕ} {X : Lexicon} {p : Phrase} (about : About b s label kind ws n r X p) where
  asker_is : (l : List Lexeme) →
      read_question (names_in b (take n ws)) (tabled_vocabulary about.count n r) p l ≡ read_question (word_names X) (vocabulary_of X) p l
  asker_is l =
      ap (λ (N : List Token). read_question N (tabled_vocabulary about.count n r) p l) about.words
      ∙ ap (λ (W : Vocabulary). read_question (word_names X) W p l) about.vocabulary

  module _ (at : ℕ) (begins : begins_question (lexemes_from b at) ≡ true) {g : Ground} {m : List Lexeme}
      (read : read_question (word_names X) (vocabulary_of X) p (lexemes_from b at) ≡ parsed g m) where
    exact : GoodQuestion X p g × (tokens_of (lexemes_from b at) ≡ question_tokens X p g ++ tokens_of m)
    exact =
        questions-exact X p g (lexemes_from b at) m about.good about.whole (from_lexed b at) (from_closes b at) (from_ascend b at) begins read

    question_puts : {e : ℕ} → BehindAsking b at e → {before after : List ℕ} {to to' : ℕ} → PutsQuestion b s e before to after to' →
        same (token m) (mark opening) ≡ false → Adds before to after to' (question_text X p g)
    question_puts {e} behind put clear =
        let there = behind begins in
        let us : List Token = phrase_tokens X p.variables p.kind p.term in
        put.puts X p g about.behind (tokens_of m) about.good about.whole exact.0 about.inside there.0
        (about.first ∙ label-first (lexemes_from b s) p.label us about.behind exact.0.label about.tokens)
        about.tokens
        (ap tokens_of (sym there.1)
        ∙ behind_two (lexemes_from b at) p.label (mark asking) (ground_tokens (word_names X) g ++ tokens_of m) exact.1)
        (ap (λ (u : Token). same u (mark opening)) (name-token m) ∙ clear)

-- ---- all of them

module _ (b : List ℕ) (s label kind : ℕ) (ws : List ℕ) (n : ℕ) (r : List ℕ) where
  -- What was put is finished, whatever is put for the others behind it.
  pub record Left (X : Lexicon) (p : Phrase) (m : List Lexeme) (front : List ℕ) (from : ℕ) (page : List ℕ) (at to : ℕ) (text : List ℕ) : Type 0 where
    pub situations : List Ground
    pub read : asked X p (lexemes_from b at) ≡ parsed situations m
    pub finish : (last : List ℕ) (j : ℕ) → Adds page to last j (questions_text X p situations) → Adds front from last j text

  pub record Asks (at₀ : ℕ) (page₀ : List ℕ) (to₀ at to : ℕ) (page : List ℕ) : Type 0 where
    pub inside : at ≤ length b
    pub goes : (X : Lexicon) (p : Phrase) (gs : List Ground) (m : List Lexeme) → About b s label kind ws n r X p →
        asked X p (lexemes_from b at₀) ≡ parsed gs m → same (token m) (mark opening) ≡ false →
        Left X p m page₀ to₀ page at to (questions_text X p gs)

  pub asks_none : {at to : ℕ} {page : List ℕ} → at ≤ length b → Asks at page to at to page
  asks_none h = record {
    inside = h;
    goes = λ X p gs m about read clear. record { situations = gs; read = read; finish = λ last j adds. adds };
  }

  module _ {at₀ : ℕ} {page₀ : List ℕ} {to₀ at to : ℕ} {page : List ℕ} (h : Asks at₀ page₀ to₀ at to page) where
    pub asks_all : begins_question (lexemes_from b at) ≡ false → PutsQuestions b s label kind at₀ ws n r page₀ to₀ page at to
    asks_all begins = record { inside = h.inside; puts = ends }
      where
        ends : (X : Lexicon) (p : Phrase) (gs : List Ground) (m : List Lexeme) → About b s label kind ws n r X p →
            asked X p (lexemes_from b at₀) ≡ parsed gs m → same (token m) (mark opening) ≡ false →
            (m ≡ lexemes_from b at) × Adds page₀ to₀ page to (questions_text X p gs)
        ends X p gs m about read clear =
            let left = h.goes X p gs m about read clear in
            let over = questions-end (word_names X) (vocabulary_of X) p (lexemes_from b at) begins in
            let one = left.read in
            let none : [] ≡ left.situations = cc in
            (cc, left.finish page to (adds_is (ap (questions_text X p) none) (adds-nothing page to)))

    module _ (fits : Readable b at₀ 0 n) (begins : begins_question (lexemes_from b at) ≡ true) (a : QuestionAnswer) (says : QuestionPromise b at label kind ws n r a) where
      abbrev answered : (k : ℕ) (p : Phrase) → p.label ≡ token_at b label → p.kind ≡ kind →
          ReadsTo b (read_question (names_in b (take n ws)) (tabled_vocabulary k n r) p (lexemes_from b at)) a
      answered = says fits.short h.inside fits.words begins

      pub asks_bad : {x : faults-fault.Fault} → a ≡ Err x → {page' : List ℕ} {to' : ℕ} → PutsQuestions b s label kind at₀ ws n r page₀ to₀ page' at to'
      asks_bad {x} is {page'} {to'} = record { inside = h.inside; puts = never }
        where
          never : (X : Lexicon) (p : Phrase) (gs : List Ground) (m : List Lexeme) → About b s label kind ws n r X p →
              asked X p (lexemes_from b at₀) ≡ parsed gs m → same (token m) (mark opening) ≡ false →
              (m ≡ lexemes_from b at) × Adds page₀ to₀ page' to' (questions_text X p gs)
          never X p gs m about read clear =
              let left = h.goes X p gs m about read clear in
              let no = reads-bad b _ a (answered about.count p about.named about.of_kind) is in
              let fault =
              questions-bad (word_names X) (vocabulary_of X) p (lexemes_from b at) (fault_of x) begins (sym (asker_is about (lexemes_from b at)) ∙ no) in
              let one = left.read in
              let z : ◌≡◌ {A = ℕ} 0 1 = cc in absurd (omega arith)

      module _ {e : ℕ} (is : a ≡ Ok e) where
        -- A pattern of which nothing matters but its label and kind.
        abbrev some : Phrase
        some = record { label = token_at b label; kind = kind; term = any; variables = [] }

        abbrev reader : Parsed Ground
        reader = read_question (names_in b (take n ws)) (tabled_vocabulary 0 n r) some (lexemes_from b at)

        well : (g : Ground) × (m : List Lexeme) × (reader ≡ parsed g m) × (m ≡ lexemes_from b e) × (e ≤ length b)
        well = reads-well b reader a (answered 0 some refl refl) is

        pub asks_less : length (lexemes_from b e) < length (lexemes_from b at)
        asks_less =
            let l = takes_less (lexemes_from b at) reader (question_takes (names_in b (take n ws)) (tabled_vocabulary 0 n r) some (lexemes_from b at) begins) well.2 in
            omega (arith, ap length well.3)

        pub asks_turn : {i : ℕ} → BehindAsking b at i → {page' : List ℕ} {to' : ℕ} → PutsQuestion b s i page to page' to' → Asks at₀ page₀ to₀ e to' page'
        asks_turn {i} behind {page'} {to'} put = record { inside = well.4; goes = turn }
          where
            turn : (X : Lexicon) (p : Phrase) (gs : List Ground) (m : List Lexeme) → About b s label kind ws n r X p →
                asked X p (lexemes_from b at₀) ≡ parsed gs m → same (token m) (mark opening) ≡ false →
                Left X p m page₀ to₀ page' e to' (questions_text X p gs)
            turn X p gs m about read clear =
                let left = h.goes X p gs m about read clear in
                let one = reads-well b _ a (answered about.count p about.named about.of_kind) is in
                let g : Ground = one.0 in
                let here : read_question (word_names X) (vocabulary_of X) p (lexemes_from b at) ≡ parsed g one.1 = sym (asker_is about (lexemes_from b at)) ∙ one.2 in
                let others = one_more (asked X p one.1) g left.situations m
                (sym (questions-more (word_names X) (vocabulary_of X) p (lexemes_from b at) one.1 g begins here) ∙ left.read) in
                record {
                  situations = others.0;
                  read = subst (λ (l : List Lexeme). asked X p l ≡ parsed others.0 m) one.3 others.1;
                  finish = λ last j adds.
                      left.finish last j
                      (adds_is (ap (questions_text X p) others.2)
                      (adds_then (question_puts about at begins here behind put (asked-clear X p others.0 one.1 m others.1 clear)) adds));
                }
