-- QuestionFaults: where a question is refused, the place of the fault is the first byte at fault.
--
--   token-cut                of two lists that begin alike, a token of the first is among those of the second, or stands behind them
--   held                     what was read as a term is a good one
--   Begun us, begun          the tokens us begin a term
--   SituationFault l q       of the lexemes l of a situation the one at offset q is the first at fault
--   situation-stands         the tokens of a situation are read as its term
--   opened-first             something open is at fault
--   stopped_first            no situation goes on with what stands there
--   read_first, unread_first     the same where a term was read, or was not
--   situation-first          a fault of any situation
--   label-first, behind-first    another label, or a fault behind ?
--   question_faults_are_first    a fault of any question
--
use mathlib.Core.Path.{◌≡◌, refl, sym, ap, subst, ◌∙◌}
use mathlib.Core.Bool.{true, false, true≢false, false≢true}
use mathlib.Core.List.{List, [], ◌∷◌, ◌++◌, append_assoc}
use mathlib.Core.Logic.{◌⊎◌, inl, inr}
use mathlib.Core.Option.{Option, some, none}
use Prim.Native.Nat.{ℕ, ◌<◌}
use native.Mathlib.Omega.{arith}
use lib.ListN.{length, drop, length-append}
use Rattle.terms.specs.Lists.{All}
use Rattle.terms.specs.Term.{Term, any, var, app, Ground, as_term}
use Rattle.terms.proofs.All.{all-at, all_append, all_implies, all_unmap}
use Rattle.terms.proofs.Bools.{and_parts}
use Rattle.wire.specs.TermBytes.{most_levels, encode_term, HoldsTerm}
use Rattle.wire.proofs.Words.{length_symbols}
use Rattle.wire.proofs.Cond.{choice}
use Rattle.texts.specs.Lexemes.{Token, Lexeme, asking}
use Rattle.texts.specs.Names.{same, mark, is_identifier, name_at, IsIdentifier, IsVariable}
use Rattle.texts.specs.Spelling.{IsToken}
use Rattle.texts.specs.Lexicon.{Lexicon, kind_names, word_names, vocabulary_of, GoodLexicon}
use Rattle.texts.specs.Phrases.{Phrase, term_tokens, GoodWhole}
use Rattle.texts.specs.Questions.{ground_tokens}
use Rattle.texts.specs.Faults.{Fault, Parsed, parsed, bad, other_label}
use Rattle.texts.specs.PhraseReading.{Seen, TermRead, fault_at, parse_term}
use Rattle.texts.specs.QuestionReading.{is_open, open_before, ground_of, begins_question, or_open, completed, read_situation, read_question}
use Rattle.texts.specs.Laws.{tokens_of, Ascending, QuestionFault, QuestionFaultsAreFirst}
use Rattle.texts.proofs.Finding.{same_refl, same-exact}
use Rattle.texts.proofs.Standing.{Stands, stands-tokens, tokens_stand}
use Rattle.texts.proofs.Telling.{lexicon-named}
use Rattle.texts.proofs.Closing.{closes_end}
use Rattle.texts.proofs.Lexicon.{kind-name}
use Rattle.texts.proofs.Fitting.{Lexed}
use Rattle.texts.proofs.PhrasesRead.{start}
use Rattle.texts.proofs.PhrasesExact.{open_good, variable-root, word-root}
use Rattle.texts.proofs.TermsExact.{HasRead, Reads, term-exact}
use Rattle.texts.proofs.Locality.{as_lexemes, as_stands, stands_same, Ended, ended-rest, Stopped, Ran}
use Rattle.texts.proofs.Completing.{CanTerm, term_ran}
use Rattle.texts.proofs.FirstFaults.{stands-before, going, going-tokens, never_both}
use Rattle.texts.proofs.Rising.{rises_rest}
use Rattle.texts.proofs.QuestionsRead.{Shut, name-shut, ground-shut, none_good, situation-term}
use Rattle.texts.proofs.QuestionsExact.{closes_ended, OpenIn, Opens, open_before_lem, label-known}

-- The token u is among vs, or vs ends before it.
token-cut : (P : Token → Type 0) (us : List Token) (u : Token) (more vs ws : List Token) → us ++ (u ∷ more) ≡ vs ++ ws → All P vs →
    P u ⊎ ((left : List Token) × (us ≡ vs ++ left))
token-cut P [] u more [] ws e a = inr ([], refl)
token-cut P [] u more (v ∷ vs) ws e a = inl (let first : v ≡ u = cc in subst P first a.0)
token-cut P (t ∷ us) u more [] ws e a = inr (t ∷ us, refl)
token-cut P (t ∷ us) u more (v ∷ vs) ws e a = go (token-cut P us u more vs ws (cc) a.1)
  where
    go : P u ⊎ ((left : List Token) × (us ≡ vs ++ left)) → P u ⊎ ((left : List Token) × (t ∷ us ≡ (v ∷ vs) ++ left))
    go (inl h) = inl h
    go (inr h) = inr (h.0, let first : t ≡ v = cc in let behind = h.1 in cc)

module _ (X : Lexicon) (lex : GoodLexicon X) (k : ℕ) (known : k < length X) where
  held_as : (t : Term) (s : Seen) (l r : List Lexeme) → HasRead (word_names X) (vocabulary_of X) most_levels k start l (record { term = t; seen = s }) r →
      HoldsTerm (vocabulary_of X) (encode_term (vocabulary_of X) k t) k t
  held_as any s l r h = (open_good X k known).term
  held_as (var n) s l r h =
      let zeroth : n ≡ 0 = h.grows.counted.0 in
      let count : 1 ≡ length s.variables = h.grows.count ∙ ap length (sym h.grows.grown) in
      let is : IsVariable (name_at s.variables 0) =
      all-at IsVariable [] s.variables (h.grows.kept none_good).variables 0 (omega arith) in
      subst (λ (m : ℕ). HoldsTerm (vocabulary_of X) (encode_term (vocabulary_of X) k (var m)) k (var m)) (sym zeroth)
      (variable-root X k known (name_at s.variables 0) is).term
  held_as (app f ts) s [] r h = absurd (h.stands [])
  held_as (app f ts) s (x ∷ l) r h =
      let named = lexicon-named X lex in
      let c₁ = named.count in
      let c₂ = length_symbols (vocabulary_of X) in
      let f< = h.sorted.0 in
      let is : IsIdentifier x.token =
      subst IsIdentifier (sym (h.stands []).0) (all-at IsIdentifier [] (word_names X) named.words f (omega arith)) in
      (word-root X named x l is.identifier k (parsed (record { term = app f ts; seen = s }) r) h).1.term

  held : (l r : List Lexeme) (b : TermRead) → HasRead (word_names X) (vocabulary_of X) most_levels k start l b r →
      HoldsTerm (vocabulary_of X) (encode_term (vocabulary_of X) k b.term) k b.term
  held l r b h = held_as b.term b.seen l r h

  -- ---- a situation

  abbrev Situation : Ground → Type 0
  Situation g = HoldsTerm (vocabulary_of X) (encode_term (vocabulary_of X) k (as_term g)) k (as_term g)

  -- The tokens us begin a term of kind k.
  record Begun (us : List Token) : Type 0 where
    term : Term
    variables : List Token
    rest : List Token
    good : HoldsTerm (vocabulary_of X) (encode_term (vocabulary_of X) k term) k term
    tokens : us ≡ term_tokens (word_names X) variables term ++ rest

  record SituationFault (l : List Lexeme) (q : ℕ) : Type 0 where
    before : List Lexeme
    here : Lexeme
    behind : List Lexeme
    all : l ≡ before ++ (here ∷ behind)
    place : here.at ≡ q
    shut : Shut (tokens_of before)
    so_far : (more : List Token) × Begun (tokens_of before ++ more)
    no_further : (more : List Token) (g : Ground) (ws : List Token) → Situation g →
        tokens_of before ++ (here.token ∷ more) ≡ ground_tokens (word_names X) g ++ ws → ⊥

  abbrev reads : List Lexeme → Parsed TermRead
  reads l = parse_term (word_names X) (vocabulary_of X) most_levels k start l

  situation-stands : (l : List Lexeme) (g : Ground) (ws : List Token) → Situation g → tokens_of l ≡ ground_tokens (word_names X) g ++ ws →
      (s : Seen) × (reads l ≡ parsed (record { term = as_term g; seen = s }) (drop (length (ground_tokens (word_names X) g)) l))
  situation-stands l g ws h e =
      let us : List Token = ground_tokens (word_names X) g in
      situation-term X lex k g h l (drop (length us) l) (tokens_stand us l ws e)

  -- Something open is at fault where no situation ends before it.
  opened-first : (us : List Token) (l : List Lexeme) (q : ℕ) → OpenIn us l q → (more : List Token) → Begun (us ++ more) →
      ((g : Ground) (ws : List Token) → Situation g → tokens_of l ≡ ground_tokens (word_names X) g ++ ws →
      length (ground_tokens (word_names X) g) < length us → ⊥) →
      SituationFault l q
  opened-first us l q o more can never =
      let cut = stands-before o.before l (o.here ∷ o.behind) o.first in
      record {
        before = cut.0;
        here = o.here;
        behind = o.behind;
        all = cut.1;
        place = o.place;
        shut = subst Shut (sym cut.2) o.shut;
        so_far = (
          o.here.token ∷ (o.between ++ more),
          subst Begun
              (ap (λ (z : List Token). z ++ more) o.all
              ∙ (append_assoc o.before (o.here.token ∷ o.between) more
              ∙ ap (λ (z : List Token). z ++ (o.here.token ∷ (o.between ++ more))) (sym cut.2))) can,
        );
        no_further = λ more g ws h e.
            none more g ws h (subst (λ (z : List Token). z ++ (o.here.token ∷ more) ≡ ground_tokens (word_names X) g ++ ws) cut.2 e);
      }
    where
      ends : (g : Ground) → Situation g →
          (is_open o.here.token ≡ false) ⊎ ((left : List Token) × (o.before ≡ ground_tokens (word_names X) g ++ left)) → ⊥
      ends g h (inl e) = true≢false (sym o.is_open ∙ e)
      ends g h (inr c) =
          let G : List Token = ground_tokens (word_names X) g in
          let behind : List Token = tokens_of (o.here ∷ o.behind) in
          let n₁ = ap length c.1 ∙ length-append G c.0 in
          let n₂ = ap length o.all ∙ length-append o.before (o.here.token ∷ o.between) in
          never g (c.0 ++ behind) h
          (stands-tokens o.before l (o.here ∷ o.behind) o.first
          ∙ (ap (λ (z : List Token). z ++ behind) c.1 ∙ append_assoc G c.0 behind)) (omega arith)

      none : (more : List Token) (g : Ground) (ws : List Token) → Situation g →
          o.before ++ (o.here.token ∷ more) ≡ ground_tokens (word_names X) g ++ ws → ⊥
      none more g ws h e =
          ends g h
          (token-cut (λ (u : Token). is_open u ≡ false) o.before o.here.token more (ground_tokens (word_names X) g) ws e
          (ground-shut (kind_names X) (word_names X) (vocabulary_of X) (lexicon-named X lex) [] g k h.good.sorted.sorted))

  begun : (us : List Token) (can : CanTerm (word_names X) (vocabulary_of X) most_levels k start us) → Begun (us ++ can.more)
  begun us can = record {
    term = can.read.term;
    variables = can.read.seen.variables ++ [];
    rest = [];
    good = held can.lexemes [] can.read can.has;
    tokens =
        sym can.tokens
        ∙ stands-tokens (term_tokens (word_names X) (can.read.seen.variables ++ []) can.read.term) can.lexemes [] (can.has.stands []);
  }

  stopped_first : (l : List Lexeme) (x : Fault) → (q : Stopped reads (CanTerm (word_names X) (vocabulary_of X) most_levels k start) l x) → Shut q.us →
      SituationFault l x.at
  stopped_first l x q a =
      let cut = stands-before q.us l (q.here ∷ q.behind) q.stands in
      record {
        before = cut.0;
        here = q.here;
        behind = q.behind;
        all = cut.1;
        place = q.place;
        shut = subst Shut (sym cut.2) a;
        so_far = (q.can.more, subst (λ (z : List Token). Begun (z ++ q.can.more)) (sym cut.2) (begun q.us q.can));
        no_further = λ more g ws h e.
            let m : List Lexeme = going q.us q.here.token more in
            let stop = q.never m 0 (as_lexemes more) (as_stands q.us (record { at = 0; token = q.here.token } ∷ as_lexemes more)) in
            let said : tokens_of m ≡ ground_tokens (word_names X) g ++ ws =
            going-tokens q.us q.here.token more ∙ (ap (λ (z : List Token). z ++ (q.here.token ∷ more)) (sym cut.2) ∙ e) in
            never_both (reads m) _ _ stop.0 (situation-stands m g ws h said).1 stop.1;
      }

  abbrev First : List Lexeme → Parsed Ground → Type 0
  First l (parsed g r) = Unit {0}
  First l (bad x) = SituationFault l x.at

  -- The term was read, and something open stands in it.
  read_first : (l : List Lexeme) (b : TermRead) (r : List Lexeme) → HasRead (word_names X) (vocabulary_of X) most_levels k start l b r →
      reads l ≡ parsed b r → (o : Option ℕ) → Opens (term_tokens (word_names X) (b.seen.variables ++ []) b.term) l o →
      First l (or_open o (parsed (ground_of b.term) r))
  read_first l b r h e none a = tt
  read_first l b r h e (some q) a =
      opened-first us l q a (tokens_of r)
      (record { term = b.term; variables = b.seen.variables ++ []; rest = tokens_of r; good = held l r b h; tokens = refl })
      (λ g ws s t n.
      let G : List Token = ground_tokens (word_names X) g in
      let again = situation-stands l g ws s t in
      let same : drop (length G) l ≡ r = let read = again.1 in cc in
      let whole : Stands G l r = subst (Stands G l) same (tokens_stand G l ws t) in
      let size = ap length (stands_same us G l r (h.stands []) whole) in omega arith)
    where
      us : List Token
      us = term_tokens (word_names X) (b.seen.variables ++ []) b.term

  -- The term was not read, and something open may stand before the place where it stopped.
  unread_first : (l : List Lexeme) (x : Fault) → (q : Stopped reads (CanTerm (word_names X) (vocabulary_of X) most_levels k start) l x) →
      reads l ≡ bad x → (o : Option ℕ) → Opens q.us l o → First l (or_open o (bad x))
  unread_first l x q e none a = stopped_first l x q a
  unread_first l x q e (some at) a =
      opened-first q.us l at a q.can.more (begun q.us q.can)
      (λ g ws s t n. never_both (reads l) _ _ x (situation-stands l g ws s t).1 e)

  completed-first : (l : List Lexeme) → Ascending l → (y : Parsed TermRead) → reads l ≡ y → Reads (word_names X) (vocabulary_of X) most_levels k start l y →
      Ran reads (CanTerm (word_names X) (vocabulary_of X) most_levels k start) l y → First l (completed l y)
  completed-first l a (parsed b []) e h t = absurd t.ended
  completed-first l a (parsed b (z ∷ r)) e h t =
      read_first l b (z ∷ r) h e (open_before z.at l)
      (open_before_lem (term_tokens (word_names X) (b.seen.variables ++ []) b.term) l z r (h.stands []) a)
  completed-first l a (bad x) e h t =
      unread_first l x t e (open_before x.at l)
      (subst (λ (n : ℕ). Opens t.us l (open_before n l)) t.place (open_before_lem t.us l t.here t.behind t.stands a))

  situation-first : (l : List Lexeme) → Lexed l → Ended l → Ascending l → First l (read_situation (word_names X) (vocabulary_of X) k l)
  situation-first l a h r =
      let named = lexicon-named X lex in
      completed-first l r (reads l) refl (term-exact (kind_names X) (word_names X) (vocabulary_of X) named most_levels k start l a)
      (term_ran (kind_names X) (word_names X) (vocabulary_of X) named most_levels k start l a h)

-- ---- a question

module _ (X : Lexicon) (lex : GoodLexicon X) (p : Phrase) (whole : GoodWhole X p) where
  known : p.kind < length X
  known = whole.phrase.term.good.kind

  abbrev Faulty : List Lexeme → Parsed Ground → Type 0
  Faulty l (parsed g r) = Unit {0}
  Faulty l (bad x) = QuestionFault X p l x.at

  -- Any name may stand there, but not this one.
  label-first : (x : Lexeme) (l : List Lexeme) → same x.token p.label ≡ false → QuestionFault X p (x ∷ l) x.at
  label-first x l e =
      let some = lex.some_kind in
      record {
        first = record {
          before = [];
          here = x;
          behind = l;
          all = refl;
          place = refl;
          so_far = (
            _,
            record {
              label = name_at (kind_names X) 0;
              term = any;
              variables = [];
              rest = [];
              named = kind-name X lex 0 (omega arith);
              good = (open_good X p.kind known).term;
              tokens = refl;
            },
          );
          no_further = λ more g.
              let t = g.tokens in
              let label : x.token ≡ p.label = cc in
              true≢false (sym (same_refl p.label) ∙ (ap (λ (u : Token). same u p.label) (sym label) ∙ e));
        };
        closed = tt;
        asked = inl refl;
      }

  module _ (x y : Lexeme) (is : IsIdentifier p.label) (label : x.token ≡ p.label) (asks : y.token ≡ mark asking) where
    behind-first : (l : List Lexeme) (q : ℕ) → SituationFault X lex p.kind known l q → QuestionFault X p (x ∷ y ∷ l) q
    behind-first l q s = record {
      first = record {
        before = x ∷ y ∷ s.before;
        here = s.here;
        behind = s.behind;
        all = ap (λ (z : List Lexeme). x ∷ y ∷ z) s.all;
        place = s.place;
        so_far = (
          s.so_far.0,
          record {
            label = p.label;
            term = s.so_far.1.term;
            variables = s.so_far.1.variables;
            rest = s.so_far.1.rest;
            named = is;
            good = s.so_far.1.good;
            tokens = let behind = s.so_far.1.tokens in cc;
          },
        );
        no_further = λ more g. let t = g.tokens in s.no_further more g.situation g.rest g.good.situation (cc);
      };
      closed = (
        ap is_open label ∙ name-shut p.label is.identifier,
        (ap is_open asks, all_unmap (λ (u : Token). is_open u ≡ false) (λ (z : Lexeme). z.token) s.before s.shut),
      );
      asked = inr label;
    }

    situated : (l : List Lexeme) (z : Parsed Ground) → First X lex p.kind known l z → Faulty (x ∷ y ∷ l) z
    situated l (parsed g r) h = tt
    situated l (bad f) h = behind-first l f.at h

  question_first : (l : List Lexeme) → Lexed l → Ended l → Ascending l → begins_question l ≡ true →
      Faulty l (read_question (word_names X) (vocabulary_of X) p l)
  question_first [] a h r b = absurd (false≢true b)
  question_first (x ∷ []) a h r b = absurd (false≢true (and_parts (is_identifier x.token) false b).1)
  question_first (x ∷ y ∷ l) a h r b =
      let i = and_parts (is_identifier x.token) (same y.token (mark asking)) b in
      let behind : Ended l = ended-rest (λ u. same u (mark asking)) y l refl i.1 (ended-rest is_identifier x (y ∷ l) refl i.0 h) in
      choice (Faulty (x ∷ y ∷ l)) (same x.token p.label) (read_situation (word_names X) (vocabulary_of X) p.kind l)
      (fault_at other_label 0 (x ∷ y ∷ l))
      (λ e. situated x y (label-known x.token p.label i.0 e whole.label) (same-exact x.token p.label e)
      (same-exact y.token (mark asking) i.1) l (read_situation (word_names X) (vocabulary_of X) p.kind l)
      (situation-first X lex p.kind known l a.1.1 behind (rises_rest y l (rises_rest x (y ∷ l) r))))
      (λ e. label-first x (y ∷ l) e)

pub question_faults_are_first : QuestionFaultsAreFirst
question_faults_are_first X p l e x lex whole a last rise begins q =
    subst (Faulty X lex p whole (l ++ (e ∷ []))) q
    (question_first X lex p whole (l ++ (e ∷ []))
    (all_append (λ (y : Lexeme). (y.token ≡ []) ⊎ IsToken y.token) l (e ∷ [])
    (all_implies (λ (y : Lexeme). IsToken y.token) (λ (y : Lexeme). (y.token ≡ []) ⊎ IsToken y.token) (λ y t. inr t) l a) (inl last, tt))
    (closes_ended (l ++ (e ∷ [])) (closes_end l e last)) rise begins)
