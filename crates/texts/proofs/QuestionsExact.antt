-- QuestionsExact: what is read as a question is a good one, and its tokens are those that were read.
--
--   closes_ended             lexemes that close have an empty one
--   OpenIn us l q            of the tokens us, which stand at the front of l, the first that is open stands at offset q
--   Opens us l o             there is one at the offset that o has, and none where o has none
--   open_before_lem              what is found of something open before a lexeme of a text
--   shut-ground              a term without open tokens is that of a ground term
--   ground_said              the tokens of a situation, whatever the variables
--   read-good, names-below   what was read of a term is good, and its variables are numbered below their count
--   Situated, situation-exact    what is read as a situation
--   label-known              a label that stands before a question is a name
--   questions-exact          any question
--
use mathlib.Core.Path.{◌≡◌, refl, sym, ap, ap₂, subst, ◌∙◌}
use mathlib.Core.Bool.{true, false, true≢false, false≢true}
use mathlib.Core.List.{List, [], ◌∷◌, ◌++◌, append-nil}
use mathlib.Core.Logic.{inl, inr}
use mathlib.Core.Option.{Option, some, none}
use Prim.Native.Nat.{ℕ, ◌+◌, ◌<◌, ◌≤◌}
use native.Mathlib.Omega.{arith}
use lib.Dec.{ltb}
use lib.ListN.{length}
use borrow.Author.Tests.{lt-ltb}
use Rattle.terms.specs.Lists.{All, range}
use Rattle.terms.specs.Term.{Term, any, var, app, Terms, nil, cons, Ground, gapp, Grounds, gnil, gcons, as_term, as_terms, Sorted, names, names_all}
use Rattle.terms.proofs.All.{all-at, all_left, all_right, all_implies, all-range}
use Rattle.terms.proofs.Bools.{and_parts, or_right}
use Rattle.terms.proofs.Ground.{sorted-ground}
use Rattle.wire.specs.Vocabulary.{Vocabulary, signature}
use Rattle.wire.specs.TermBytes.{most_levels, levels, encode_at, encode_term, HoldsTerm}
use Rattle.wire.proofs.Complete.{ground-good}
use Rattle.wire.proofs.Cond.{choice, cond_true}
use Rattle.texts.specs.Lexemes.{Token, Lexeme, asking}
use Rattle.texts.specs.Names.{same, opened, mark, opening, comma, is_identifier, is_variable, name_at, IsIdentifier, IsVariable}
use Rattle.texts.specs.Lexicon.{Lexicon, kind_names, word_names, vocabulary_of, GoodLexicon}
use Rattle.texts.specs.Phrases.{Phrase, IsLabel, term_tokens, places_tokens, bracketed, GoodWhole}
use Rattle.texts.specs.Questions.{ground_tokens, question_tokens, GoodQuestion}
use Rattle.texts.specs.Faults.{Parsed, parsed, bad, other_label}
use Rattle.texts.specs.PhraseReading.{TermRead, fault_at, parse_term}
use Rattle.texts.specs.QuestionReading.{is_open, open_before, ground_of, grounds_of, begins_question, or_open, completed, read_situation, read_question}
use Rattle.texts.specs.Laws.{Closes, Ascending, QuestionsExact}
use Rattle.texts.proofs.Finding.{same-exact}
use Rattle.texts.proofs.Standing.{Stands, stands-tokens, counts-range}
use Rattle.texts.proofs.Telling.{lexicon-named}
use Rattle.texts.proofs.Lookups.{identifier_some}
use Rattle.texts.proofs.Fitting.{Lexed}
use Rattle.texts.proofs.PhrasesRead.{start}
use Rattle.texts.proofs.TermsExact.{HasRead, Reads, term-exact}
use Rattle.texts.proofs.Locality.{Ended, ended-rest, Ran}
use Rattle.texts.proofs.Completing.{CanTerm, term_ran}
use Rattle.texts.proofs.Rising.{rises_rest}
use Rattle.texts.proofs.QuestionsRead.{Shut, none_here, none_good}

pub closes_ended : (l : List Lexeme) → Closes l → Ended l
closes_ended [] c = c
closes_ended (x ∷ []) c = inl c
closes_ended (x ∷ y ∷ l) c = inr (closes_ended (y ∷ l) c)

-- ---- something open

-- The tokens `before` are not open, and the lexeme `here` behind them is.
pub record OpenIn (us : List Token) (l : List Lexeme) (q : ℕ) : Type 0 where
  pub before : List Token
  pub here : Lexeme
  pub behind : List Lexeme
  pub between : List Token
  pub all : us ≡ before ++ (here.token ∷ between)
  pub first : Stands before l (here ∷ behind)
  pub shut : Shut before
  pub is_open : is_open here.token ≡ true
  pub place : here.at ≡ q

abbrev pub Opens : List Token → List Lexeme → Option ℕ → Type 0
Opens us l none = Shut us
Opens us l (some q) = OpenIn us l q

stands-later : (us : List Token) (x : Lexeme) (l : List Lexeme) (y : Lexeme) (r : List Lexeme) → Stands us l (y ∷ r) → Ascending (x ∷ l) → x.at < y.at
stands-later [] x l y r h a = (subst (λ (m : List Lexeme). Ascending (x ∷ m)) h a).0
stands-later (u ∷ us) x [] y r h a = absurd h
stands-later (u ∷ us) x (z ∷ l) y r h a = let k = stands-later us z l y r h.1 a.1 in let b = a.0 in omega arith

opens_more : (us : List Token) (x : Lexeme) (l : List Lexeme) (o : Option ℕ) → is_open x.token ≡ false → Opens us l o →
    Opens (x.token ∷ us) (x ∷ l) o
opens_more us x l none e h = (e, h)
opens_more us x l (some q) e h = record {
  before = x.token ∷ h.before;
  here = h.here;
  behind = h.behind;
  between = h.between;
  all = ap (λ (z : List Token). x.token ∷ z) h.all;
  first = (refl, h.first);
  shut = (e, h.shut);
  is_open = h.is_open;
  place = h.place;
}

-- Up to a lexeme of the text it is found whether something open stands before it, and where.
pub open_before_lem : (us : List Token) (l : List Lexeme) (y : Lexeme) (r : List Lexeme) → Stands us l (y ∷ r) → Ascending l →
    Opens us l (open_before y.at l)
open_before_lem [] l y r h a = subst (Opens [] l) (sym (ap (open_before y.at) h ∙ none_here (y ∷ r))) tt
open_before_lem (u ∷ us) [] y r h a = absurd h
open_before_lem (u ∷ us) (x ∷ l) y r h a =
    let low : ltb x.at y.at ≡ true = lt-ltb x.at y.at (stands-later us x l y r h.1 a) in
    subst (λ (v : Token). Opens (v ∷ us) (x ∷ l) (open_before y.at (x ∷ l))) h.0
    (subst (Opens (x.token ∷ us) (x ∷ l)) (sym (cond_true (ltb x.at y.at) _ none low))
    (choice (Opens (x.token ∷ us) (x ∷ l)) (is_open x.token) (some x.at) (open_before y.at l)
    (λ e. record {
      before = [];
      here = x;
      behind = l;
      between = us;
      all = refl;
      first = refl;
      shut = tt;
      is_open = e;
      place = refl;
    })
    (λ e. opens_more us x l (open_before y.at l) e (open_before_lem us l y r h.1 (rises_rest x l a)))))

-- ---- a term without anything open

abbrev Below : List Token → List ℕ → Type 0
Below vs ns = All (λ (n : ℕ). n < length vs) ns

module _ (N vs : List Token) (variables : All IsVariable vs) where
  shut-places : (ts : Terms) → Shut (bracketed ts (places_tokens N vs opening ts)) → Shut (places_tokens N vs opening ts)
  shut-places nil a = (refl, tt)
  shut-places (cons t ts) a = a

  mutual
    pub shut-ground : (t : Term) → Below vs (names t) → Shut (term_tokens N vs t) → as_term (ground_of t) ≡ t
    shut-ground any b a = absurd (true≢false a.0)
    shut-ground (var n) b a =
        let is : IsVariable (name_at vs n) = all-at IsVariable [] vs variables n b.0 in
        absurd (true≢false (sym (or_right (same (name_at vs n) opened) (is_variable (name_at vs n)) is.variable) ∙ a.0))
    shut-ground (app f ts) b a = ap (app f) (shut-grounds ts opening b (shut-places ts a.1))

    shut-grounds : (ts : Terms) (c : ℕ) → Below vs (names_all ts) → Shut (places_tokens N vs c ts) → as_terms (grounds_of ts) ≡ ts
    shut-grounds nil c b a = refl
    shut-grounds (cons t ts) c b a =
        ap₂ cons
        (shut-ground t (all_left (λ (n : ℕ). n < length vs) (names t) (names_all ts) b)
        (all_left (λ (u : Token). is_open u ≡ false) (term_tokens N vs t) (places_tokens N vs comma ts) a.1))
        (shut-grounds ts comma (all_right (λ (n : ℕ). n < length vs) (names t) (names_all ts) b)
        (all_right (λ (u : Token). is_open u ≡ false) (term_tokens N vs t) (places_tokens N vs comma ts) a.1))

module _ (N vs : List Token) where
  mutual
    pub ground_said : (g : Ground) → term_tokens N vs (as_term g) ≡ ground_tokens N g
    ground_said (gapp f gs) =
        ap (λ (us : List Token). name_at N f ∷ bracketed (as_terms gs) us) (grounds_said gs opening)

    grounds_said : (gs : Grounds) (c : ℕ) → places_tokens N vs c (as_terms gs) ≡ places_tokens N [] c (as_terms gs)
    grounds_said gnil c = refl
    grounds_said (gcons g gs) c =
        ap₂ (λ (us ws : List Token). mark c ∷ (us ++ ws)) (ground_said g) (grounds_said gs comma)

-- ---- a situation

module _ (X : Lexicon) (lex : GoodLexicon X) (k : ℕ) (known : k < length X) where
  -- What was read of a term in which nothing open stands.
  read-good : (l r : List Lexeme) (b : TermRead) (g : Ground) → HasRead (word_names X) (vocabulary_of X) most_levels k start l b r → as_term g ≡ b.term →
      HoldsTerm (vocabulary_of X) (encode_term (vocabulary_of X) k (as_term g)) k (as_term g)
  read-good l r b (gapp f gs) h e =
      let W : Vocabulary = vocabulary_of X in
      let g : Ground = gapp f gs in
      let sorted : Sorted (signature W) (as_term g) k = subst (λ (t : Term). Sorted (signature W) t k) (sym e) h.sorted in
      let deep : levels (as_term g) ≤ most_levels = subst (λ (t : Term). levels t ≤ most_levels) (sym e) h.deep in
      let used : b.seen.used ≡ 1 + length (encode_at W (as_term g)) = h.grows.used ∙ ap (λ (t : Term). 1 + length (encode_at W t)) (sym e) in
      let most = h.grows.within (omega arith) in
      record {
        good = ground-good W k g known (sorted-ground (signature W) g k sorted);
        written = refl;
        limits = record { least = omega arith; most = omega arith; levels = omega arith };
      }

  names-below : (l r : List Lexeme) (b : TermRead) → HasRead (word_names X) (vocabulary_of X) most_levels k start l b r →
      Below b.seen.variables (names b.term)
  names-below l r b h =
      let count : length (names b.term) ≡ length b.seen.variables = h.grows.count ∙ ap length (sym h.grows.grown) in
      subst (Below b.seen.variables) (sym (counts-range 0 (names b.term) h.grows.counted))
      (all_implies (λ n. n < 0 + length (names b.term)) (λ n. n < length b.seen.variables) (λ n q. omega arith)
      (range 0 (length (names b.term))) (all-range 0 (length (names b.term))))

  abbrev Situated : List Lexeme → Parsed Ground → Type 0
  Situated l (parsed g r) =
      HoldsTerm (vocabulary_of X) (encode_term (vocabulary_of X) k (as_term g)) k (as_term g) × Stands (ground_tokens (word_names X) g) l r
  Situated l (bad x) = Unit {0}

  read_situated : (l : List Lexeme) (b : TermRead) (r : List Lexeme) → HasRead (word_names X) (vocabulary_of X) most_levels k start l b r →
      Shut (term_tokens (word_names X) b.seen.variables b.term) → Situated l (parsed (ground_of b.term) r)
  read_situated l b r h a =
      let N : List Token = word_names X in
      let vs : List Token = b.seen.variables in
      let g : Ground = ground_of b.term in
      let e : as_term g ≡ b.term = shut-ground N vs (h.grows.kept none_good).variables b.term (names-below l r b h) a in
      let said : term_tokens N (vs ++ []) b.term ≡ ground_tokens N g =
      ap (term_tokens N (vs ++ [])) (sym e) ∙ ground_said N (vs ++ []) g in
      (read-good l r b g h e, subst (λ (us : List Token). Stands us l r) said (h.stands []))

  open_situated : (l : List Lexeme) (b : TermRead) (r : List Lexeme) → HasRead (word_names X) (vocabulary_of X) most_levels k start l b r →
      (o : Option ℕ) → Opens (term_tokens (word_names X) b.seen.variables b.term) l o →
      Situated l (or_open o (parsed (ground_of b.term) r))
  open_situated l b r h none a = read_situated l b r h a
  open_situated l b r h (some q) a = tt

  completed_situated : (l : List Lexeme) → Ascending l → (y : Parsed TermRead) → Reads (word_names X) (vocabulary_of X) most_levels k start l y →
      Ran (parse_term (word_names X) (vocabulary_of X) most_levels k start) (CanTerm (word_names X) (vocabulary_of X) most_levels k start) l y →
      Situated l (completed l y)
  completed_situated l a (bad x) h t = go (open_before x.at l)
    where
      go : (o : Option ℕ) → Situated l (or_open o (bad x))
      go none = tt
      go (some q) = tt
  completed_situated l a (parsed b []) h t = absurd t.ended
  completed_situated l a (parsed b (z ∷ r)) h t =
      let vs : List Token = b.seen.variables in
      open_situated l b (z ∷ r) h (open_before z.at l)
      (open_before_lem (term_tokens (word_names X) vs b.term) l z r
      (subst (λ (ws : List Token). Stands (term_tokens (word_names X) ws b.term) l (z ∷ r)) (append-nil vs) (h.stands [])) a)

  pub situation-exact : (l : List Lexeme) → Lexed l → Ended l → Ascending l → Situated l (read_situation (word_names X) (vocabulary_of X) k l)
  situation-exact l a h r =
      let named = lexicon-named X lex in
      completed_situated l r (parse_term (word_names X) (vocabulary_of X) most_levels k start l)
      (term-exact (kind_names X) (word_names X) (vocabulary_of X) named most_levels k start l a)
      (term_ran (kind_names X) (word_names X) (vocabulary_of X) named most_levels k start l a h)

-- ---- a question

pub label-known : (u v : Token) → is_identifier u ≡ true → same u v ≡ true → IsLabel v → IsIdentifier v
label-known u v i e (inl z) = absurd (identifier_some u i (same-exact u v e ∙ z))
label-known u v i e (inr is) = is

module _ (X : Lexicon) (lex : GoodLexicon X) (p : Phrase) (whole : GoodWhole X p) where
  abbrev Asked : List Lexeme → Parsed Ground → Type 0
  Asked l (parsed g r) = GoodQuestion X p g × Stands (question_tokens X p g) l r
  Asked l (bad x) = Unit {0}

  asked : (x y : Lexeme) (l : List Lexeme) → IsIdentifier p.label → x.token ≡ p.label → y.token ≡ mark asking → (z : Parsed Ground) →
      Situated X lex p.kind whole.phrase.term.good.kind l z → Asked (x ∷ y ∷ l) z
  asked x y l is e q (bad f) h = tt
  asked x y l is e q (parsed g r) h = (record { label = is; situation = h.0 }, (e, (q, h.1)))

  question_exact : (l : List Lexeme) → Lexed l → Ended l → Ascending l → begins_question l ≡ true →
      Asked l (read_question (word_names X) (vocabulary_of X) p l)
  question_exact [] a h r b = absurd (false≢true b)
  question_exact (x ∷ []) a h r b = absurd (false≢true (and_parts (is_identifier x.token) false b).1)
  question_exact (x ∷ y ∷ l) a h r b =
      let i = and_parts (is_identifier x.token) (same y.token (mark asking)) b in
      let behind : Ended l = ended-rest (λ u. same u (mark asking)) y l refl i.1 (ended-rest is_identifier x (y ∷ l) refl i.0 h) in
      choice (Asked (x ∷ y ∷ l)) (same x.token p.label) (read_situation (word_names X) (vocabulary_of X) p.kind l)
      (fault_at other_label 0 (x ∷ y ∷ l))
      (λ e. asked x y l (label-known x.token p.label i.0 e whole.label) (same-exact x.token p.label e)
      (same-exact y.token (mark asking) i.1) (read_situation (word_names X) (vocabulary_of X) p.kind l)
      (situation-exact X lex p.kind whole.phrase.term.good.kind l a.1.1 behind (rises_rest y l (rises_rest x (y ∷ l) r))))
      (λ e. tt)

pub questions-exact : QuestionsExact
questions-exact X p g l r lex whole a c rise b e =
    let h : Asked X lex p whole l (parsed g r) = subst (Asked X lex p whole l) e (question_exact X lex p whole l a (closes_ended l c) rise b) in
    (h.0, stands-tokens (question_tokens X p g) l r h.1)
