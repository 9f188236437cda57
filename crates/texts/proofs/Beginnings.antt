-- Beginnings: what a pattern or a paragraph begins with, and that no `kind` is in it.
--
--   starts u                   the token u may begin a pattern: a name, _ or a variable
--   start-other                such a token is none that fails the test, as a mark does
--   Fronted us                 the tokens us begin with a token that starts
--   root_fronted, root_quiet   the tokens of a pattern without label do, and none of them is `kind`
--   whole_fronted, whole_quiet the same of any good pattern
--   question_quiet, questions_quiet, paragraphs_quiet     no `kind` stands among questions and paragraphs
--   no-mark                    no mark stands where a paragraph may begin
--   no_mark_behind             .. nor behind a pattern
--   asks us, asks_tokens       the tokens us begin with a name and ?, as those of a question
--   no_question                those of a paragraph do not
--
use mathlib.Core.Path.{◌≡◌, refl, sym, ◌∙◌, ap, subst}
use mathlib.Core.Bool.{Bool, true, false, ◌&&◌, ◌||◌, and-false, true≢false}
use mathlib.Core.List.{List, [], ◌∷◌, ◌++◌, append_assoc}
use mathlib.Core.Logic.{inl, inr}
use Prim.Native.Nat.{ℕ, ◌<◌}
use native.Mathlib.Omega.{arith}
use lib.ListN.{length}
use Rattle.terms.specs.Lists.{All}
use Rattle.terms.specs.Signature.{arguments}
use Rattle.terms.specs.Term.{Term, any, var, app, Terms, nil, cons, Sorted, SortedAll, names, names_all, Ground, as_term}
use Rattle.terms.proofs.All.{all-at, all_append, all_left, all_right, all_implies}
use Rattle.terms.proofs.Bools.{or_left, or_right, false_of_not}
use Rattle.terms.proofs.Ground.{ground-names}
use Rattle.wire.specs.Vocabulary.{signature}
use Rattle.wire.specs.TermBytes.{name_count}
use Rattle.texts.specs.Lexemes.{Token, Lexeme, asking}
use Rattle.texts.specs.Names.{same, kind_word, mark, opening, closing, comma, colon, begins_name, is_identifier, is_variable, name_at, IsIdentifier, IsVariable}
use Rattle.texts.specs.Lexicon.{Lexicon, kind_names, word_names, all_words, vocabulary_of, GoodLexicon}
use Rattle.texts.specs.Phrases.{Phrase, IsLabel, label_tokens, term_tokens, places_tokens, phrase_tokens, whole_tokens, GoodWhole}
use Rattle.texts.specs.Questions.{question_tokens, questions_tokens, GoodQuestion}
use Rattle.texts.specs.Files.{Paragraph, paragraph_tokens, paragraphs_tokens, GoodParagraph}
use Rattle.texts.specs.QuestionReading.{begins_question}
use Rattle.texts.specs.Laws.{tokens_of, Sayable}
use Rattle.texts.proofs.Lexicon.{count-records, word-name, kind-name}
use Rattle.texts.proofs.Saying.{phrase_sayable}
use Rattle.texts.proofs.Finding.{same-exact}
use Rattle.texts.proofs.Telling.{begins-name, variable-no_kind, variable_not_name}
use Rattle.texts.proofs.Lookups.{identifier-no_kind, identifier_some}
use Rattle.texts.proofs.KindNames.{first, Quiet, mark-no_kind}

-- ---- what begins a pattern, and what is in it

abbrev pub starts : Token → Bool
starts u = begins_name u || is_variable u

start-other : (u v : Token) → starts u ≡ true → starts v ≡ false → same u v ≡ false
start-other u v e h = false_of_not (same u v) (λ q. true≢false (sym e ∙ (ap starts (same-exact u v q) ∙ h)))

name-starts : (u : Token) → IsIdentifier u → starts u ≡ true
name-starts u h = or_left (begins_name u) (is_variable u) (begins-name u h.identifier)

variable-starts : (u : Token) → IsVariable u → starts u ≡ true
variable-starts u h = or_right (begins_name u) (is_variable u) h.variable

abbrev pub Fronted : List Token → Type 0
Fronted [] = ⊥
Fronted (u ∷ us) = starts u ≡ true

pub fronted_append : (us vs : List Token) → Fronted us → Fronted (us ++ vs)
fronted_append [] vs h = absurd h
fronted_append (u ∷ us) vs h = h

pub fronted_first : (us : List Token) → Fronted us → starts (first us) ≡ true
fronted_first [] h = absurd h
fronted_first (u ∷ us) h = h

label_fronted : (u : Token) (us : List Token) → IsLabel u → Fronted us → Fronted (label_tokens u ++ us)
label_fronted [] us l h = h
label_fronted (b ∷ u) us (inl z) h = let z : ◌≡◌ {A = ℕ} 0 1 = cc in absurd (omega arith)
label_fronted (b ∷ u) us (inr is) h = name-starts (b ∷ u) is

label_quiet : (u : Token) → IsLabel u → Quiet (label_tokens u)
label_quiet [] l = tt
label_quiet (b ∷ u) (inl z) = let z : ◌≡◌ {A = ℕ} 0 1 = cc in absurd (omega arith)
label_quiet (b ∷ u) (inr is) = (identifier-no_kind (b ∷ u) is.identifier, (mark-no_kind colon, tt))

-- The tokens us begin with a name and a ?.
abbrev pub asks : List Token → Bool
asks us = is_identifier (name_at us 0) && same (name_at us 1) (mark asking)

pub asks_tokens : (l : List Lexeme) → begins_question l ≡ asks (tokens_of l)
asks_tokens [] = refl
asks_tokens (x ∷ []) = refl
asks_tokens (x ∷ y ∷ l) = refl

module _ (X : Lexicon) (lex : GoodLexicon X) where
  word-known : (s f : ℕ) (ts : Terms) → Sorted (signature (vocabulary_of X)) (app f ts) s → f < length (all_words X)
  word-known s f ts sorted = rw (← count-records X) sorted.0

  module _ (vs : List Token) (variables : All IsVariable vs) where
    word_quiet : (f : ℕ) (ts : Terms) → f < length (all_words X) → Quiet (places_tokens (word_names X) vs opening ts) →
        Quiet (term_tokens (word_names X) vs (app f ts))
    word_quiet f nil known h = (identifier-no_kind (name_at (word_names X) f) (word-name X lex f known).identifier, tt)
    word_quiet f (cons t ts) known h = (identifier-no_kind (name_at (word_names X) f) (word-name X lex f known).identifier, h)

    mutual
      term_quiet : (t : Term) (s : ℕ) → Sorted (signature (vocabulary_of X)) t s → All (λ n. n < length vs) (names t) →
          Quiet (term_tokens (word_names X) vs t)
      term_quiet any s sorted named = (refl, tt)
      term_quiet (var n) s sorted named =
          (variable-no_kind (name_at vs n) (all-at IsVariable [] vs variables n named.0).variable, tt)
      term_quiet (app f ts) s sorted named =
          word_quiet f ts (word-known s f ts sorted)
          (places_quiet opening ts (arguments (signature (vocabulary_of X)) f) sorted.2 named)

      places_quiet : (c : ℕ) (ts : Terms) (ks : List ℕ) → SortedAll (signature (vocabulary_of X)) ts ks →
          All (λ n. n < length vs) (names_all ts) → Quiet (places_tokens (word_names X) vs c ts)
      places_quiet c nil ks sorted named = (mark-no_kind closing, tt)
      places_quiet c (cons t ts) [] sorted named = absurd sorted
      places_quiet c (cons t ts) (k ∷ ks) sorted named = (
        mark-no_kind c,
        all_append (λ u. same u kind_word ≡ false) (term_tokens (word_names X) vs t) (places_tokens (word_names X) vs comma ts)
            (term_quiet t k sorted.0 (all_left (λ n. n < length vs) (names t) (names_all ts) named))
            (places_quiet comma ts ks sorted.1 (all_right (λ n. n < length vs) (names t) (names_all ts) named)),
      )

    kind_quiet : (s : ℕ) → s < length X → Quiet (mark colon ∷ name_at (kind_names X) s ∷ [])
    kind_quiet s h = (mark-no_kind colon, (identifier-no_kind (name_at (kind_names X) s) (kind-name X lex s h).identifier, tt))

    root_quiet : (t : Term) (s : ℕ) → s < length X → Sorted (signature (vocabulary_of X)) t s → All (λ n. n < length vs) (names t) →
        Quiet (phrase_tokens X vs s t)
    root_quiet any s k sorted named = (refl, kind_quiet s k)
    root_quiet (var n) s k sorted named =
        (variable-no_kind (name_at vs n) (all-at IsVariable [] vs variables n named.0).variable, kind_quiet s k)
    root_quiet (app f ts) s k sorted named = term_quiet (app f ts) s sorted named

    root_fronted : (t : Term) (s : ℕ) → Sorted (signature (vocabulary_of X)) t s → All (λ n. n < length vs) (names t) →
        Fronted (phrase_tokens X vs s t)
    root_fronted any s sorted named = refl
    root_fronted (var n) s sorted named = variable-starts (name_at vs n) (all-at IsVariable [] vs variables n named.0)
    root_fronted (app f ts) s sorted named = name-starts _ (word-name X lex f (word-known s f ts sorted))

  within : (vs : List Token) (s : ℕ) (t : Term) → Sayable X vs s t → All (λ n. n < length vs) (names t)
  within vs s t q = all_implies (λ n. (n < length vs) × (n < name_count)) (λ n. n < length vs) (λ n h. h.0) (names t) q.named

  pub whole_fronted : (p : Phrase) → GoodWhole X p → Fronted (whole_tokens X p)
  whole_fronted p g =
      let q = phrase_sayable X p.variables p.kind p.term g.phrase in
      label_fronted p.label (phrase_tokens X p.variables p.kind p.term) g.label
      (root_fronted p.variables q.variables p.term p.kind q.sorted (within p.variables p.kind p.term q))

  whole_quiet : (p : Phrase) → GoodWhole X p → Quiet (whole_tokens X p)
  whole_quiet p g =
      let q = phrase_sayable X p.variables p.kind p.term g.phrase in
      all_append (λ u. same u kind_word ≡ false) (label_tokens p.label) (phrase_tokens X p.variables p.kind p.term)
      (label_quiet p.label g.label)
      (root_quiet p.variables q.variables p.term p.kind q.kind q.sorted (within p.variables p.kind p.term q))

  question_quiet : (p : Phrase) (g : Ground) → GoodQuestion X p g → Quiet (question_tokens X p g)
  question_quiet p g q = (
    identifier-no_kind p.label q.label.identifier,
    (
      mark-no_kind asking,
      term_quiet [] tt (as_term g) p.kind q.situation.good.sorted.sorted (subst (All (λ n. n < 0)) (sym (ground-names g)) tt),
    ),
  )

  questions_quiet : (p : Phrase) (gs : List Ground) → All (GoodQuestion X p) gs → Quiet (questions_tokens X p gs)
  questions_quiet p [] g = tt
  questions_quiet p (x ∷ gs) g =
      all_append (λ u. same u kind_word ≡ false) (question_tokens X p x) (questions_tokens X p gs) (question_quiet p x g.0) (questions_quiet p gs g.1)

  pub paragraphs_quiet : (qs : List Paragraph) → All (GoodParagraph X) qs → Quiet (paragraphs_tokens X qs)
  paragraphs_quiet [] g = tt
  paragraphs_quiet (q ∷ qs) g =
      let p = q.phrase in
      all_append (λ u. same u kind_word ≡ false) (paragraph_tokens X q) (paragraphs_tokens X qs)
      (all_append (λ u. same u kind_word ≡ false) (whole_tokens X p) (questions_tokens X p q.situations) (whole_quiet p g.0.phrase)
      (questions_quiet p q.situations g.0.questions))
      (paragraphs_quiet qs g.1)

  -- ---- what stands behind

  -- What begins paragraphs, or stands behind the last, is no mark.
  pub no-mark : (c : ℕ) (qs : List Paragraph) → All (GoodParagraph X) qs → starts (mark c) ≡ false →
      same (first (paragraphs_tokens X qs ++ ([] ∷ []))) (mark c) ≡ false
  no-mark c [] g h = refl
  no-mark c (q ∷ qs) g h =
      let own = whole_tokens X q.phrase in
      let asked = questions_tokens X q.phrase q.situations in
      start-other (first (paragraphs_tokens X (q ∷ qs) ++ ([] ∷ []))) (mark c)
      (fronted_first (paragraphs_tokens X (q ∷ qs) ++ ([] ∷ []))
      (fronted_append (paragraphs_tokens X (q ∷ qs)) ([] ∷ [])
      (fronted_append (own ++ asked) (paragraphs_tokens X qs) (fronted_append own asked (whole_fronted q.phrase g.0.phrase)))))
      h

  pub no_mark_behind : (c : ℕ) (p : Phrase) (gs : List Ground) (us : List Token) → All (GoodQuestion X p) gs → starts (mark c) ≡ false →
      same (first us) (mark c) ≡ false → same (first (questions_tokens X p gs ++ us)) (mark c) ≡ false
  no_mark_behind c p [] us g h e = e
  no_mark_behind c p (x ∷ gs) us g h e = start-other p.label (mark c) (name-starts p.label g.0.label) h

  no_question_root : (vs : List Token) → All IsVariable vs → (t : Term) (s : ℕ) (us : List Token) → All (λ n. n < length vs) (names t) →
      same (first us) (mark asking) ≡ false → asks (phrase_tokens X vs s t ++ us) ≡ false
  no_question_root vs variables any s us named e = refl
  no_question_root vs variables (var n) s us named e =
      ap (λ (b : Bool). b && same (mark colon) (mark asking))
      (variable_not_name (name_at vs n) (all-at IsVariable [] vs variables n named.0).variable)
  no_question_root vs variables (app f nil) s us named e =
      ap (λ (b : Bool). is_identifier (name_at (word_names X) f) && b) e ∙ and-false (is_identifier (name_at (word_names X) f))
  no_question_root vs variables (app f (cons t ts)) s us named e = and-false (is_identifier (name_at (word_names X) f))

  -- A pattern without label is asked nothing.
  not_asked : (p : Phrase) (gs : List Ground) → p.label ≡ [] → All (GoodQuestion X p) gs → questions_tokens X p gs ≡ []
  not_asked p [] e g = refl
  not_asked p (x ∷ gs) e g = absurd (identifier_some p.label g.0.label.identifier e)

  no_question_whole : (u : Token) (p us : List Token) → IsLabel u → (u ≡ [] → asks (p ++ us) ≡ false) → asks ((label_tokens u ++ p) ++ us) ≡ false
  no_question_whole [] p us l h = h refl
  no_question_whole (b ∷ u) p us l h = and-false (is_identifier (b ∷ u))

  -- No question stands where a paragraph may begin.
  pub no_question : (qs : List Paragraph) → All (GoodParagraph X) qs → asks (paragraphs_tokens X qs ++ ([] ∷ [])) ≡ false
  no_question [] g = refl
  no_question (q ∷ qs) g =
      let p = q.phrase in
      let asked = questions_tokens X p q.situations in
      let behind = paragraphs_tokens X qs ++ ([] ∷ []) in
      let said = phrase_sayable X p.variables p.kind p.term g.0.phrase.phrase in
      ap asks (append_assoc (whole_tokens X p ++ asked) (paragraphs_tokens X qs) ([] ∷ []) ∙ append_assoc (whole_tokens X p) asked behind)
      ∙ no_question_whole p.label (phrase_tokens X p.variables p.kind p.term) (asked ++ behind) g.0.phrase.label
      (λ e. no_question_root p.variables said.variables p.term p.kind (asked ++ behind) (within p.variables p.kind p.term said)
      (ap (λ (us : List Token). same (first (us ++ behind)) (mark asking)) (not_asked p q.situations e g.0.questions) ∙ no-mark asking qs g.1 refl))
