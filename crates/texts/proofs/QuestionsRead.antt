-- QuestionsRead: the tokens of a good question are read as that question.
--
--   Shut us                  nothing open is among the tokens us
--   name-shut                a name is not open
--   ground-shut              nothing open is among the tokens of a situation
--   ground_back              a ground term is read back off its term
--   none_here, shut_none     nothing open is found before a lexeme itself, nor before the end of such tokens
--   none_good                no variables are good ones
--   situation-term           the tokens of a situation are read as a term ..
--   situation-read           .. and as a situation
--   questions-read           any question
--
use mathlib.Core.Path.{◌≡◌, refl, sym, ap, ap₂, subst, ◌∙◌}
use mathlib.Core.Bool.{Bool, true, false, cond}
use mathlib.Core.List.{List, [], ◌∷◌}
use mathlib.Core.Option.{Option, none}
use Prim.Native.Nat.{ℕ}
use native.Mathlib.Omega.{arith}
use lib.Dec.{ltb}
use lib.ListN.{length, drop}
use borrow.Author.Tests.{le-ltb}
use Rattle.terms.specs.Lists.{All}
use Rattle.terms.specs.Signature.{arguments}
use Rattle.terms.specs.Term.{Ground, gapp, Grounds, gnil, gcons, as_term, as_terms, Sorted, SortedAll}
use Rattle.terms.proofs.All.{all-at, all_append}
use Rattle.terms.proofs.Bools.{or_neither}
use Rattle.terms.proofs.Ground.{ground-names}
use Rattle.wire.specs.Vocabulary.{Vocabulary, signature}
use Rattle.wire.specs.TermBytes.{most_levels, encode_term, HoldsTerm}
use Rattle.wire.proofs.Words.{length_symbols}
use Rattle.wire.proofs.Cond.{cond_true, cond_false}
use Rattle.texts.specs.Lexemes.{Token, Lexeme}
use Rattle.texts.specs.Names.{same, opened, mark, opening, comma, is_identifier, is_variable, name_at, IsIdentifier}
use Rattle.texts.specs.Lexicon.{Lexicon, kind_names, word_names, vocabulary_of, GoodLexicon}
use Rattle.texts.specs.Phrases.{term_tokens, places_tokens, bracketed}
use Rattle.texts.specs.Questions.{ground_tokens}
use Rattle.texts.specs.Faults.{parsed, place, other_label}
use Rattle.texts.specs.PhraseReading.{Seen, fault_at, parse_term}
use Rattle.texts.specs.QuestionReading.{is_open, open_before, ground_of, grounds_of, or_open, completed, read_situation}
use Rattle.texts.specs.Laws.{tokens_of, QuestionsRead}
use Rattle.texts.proofs.Finding.{same_refl}
use Rattle.texts.proofs.Standing.{Stands, tokens_stand, Counts}
use Rattle.texts.proofs.Telling.{not_opened, not_variable, Named, lexicon-named, GoodVariables}
use Rattle.texts.proofs.TermsRead.{read-term}
use Rattle.texts.proofs.PhrasesRead.{start}

-- ---- nothing open

abbrev pub Shut : List Token → Type 0
Shut us = All (λ (u : Token). is_open u ≡ false) us

pub name-shut : (u : Token) → is_identifier u ≡ true → is_open u ≡ false
name-shut u e = or_neither (same u opened) (is_variable u) (not_opened u e) (not_variable u e)

bracket_shut : (gs : Grounds) (us : List Token) → Shut us → Shut (bracketed (as_terms gs) us)
bracket_shut gnil us a = tt
bracket_shut (gcons g gs) us a = a

module _ (K N : List Token) (W : Vocabulary) (named : Named K N W) (vs : List Token) where
  mutual
    pub ground-shut : (g : Ground) (s : ℕ) → Sorted (signature W) (as_term g) s → Shut (term_tokens N vs (as_term g))
    ground-shut (gapp f gs) s h =
        let n = length_symbols W in
        let n' = named.count in
        let f< = h.0 in (
          name-shut (name_at N f) (all-at IsIdentifier [] N named.words f (omega arith)).identifier,
          bracket_shut gs (places_tokens N vs opening (as_terms gs)) (places-shut gs (arguments (signature W) f) opening refl h.2),
        )

    places-shut : (gs : Grounds) (ks : List ℕ) (c : ℕ) → is_open (mark c) ≡ false → SortedAll (signature W) (as_terms gs) ks →
        Shut (places_tokens N vs c (as_terms gs))
    places-shut gnil [] c e h = (refl, tt)
    places-shut gnil (k ∷ ks) c e h = absurd h
    places-shut (gcons g gs) [] c e h = absurd h
    places-shut (gcons g gs) (k ∷ ks) c e h = (
      e,
      all_append (λ (u : Token). is_open u ≡ false) (term_tokens N vs (as_term g)) (places_tokens N vs comma (as_terms gs))
          (ground-shut g k h.0) (places-shut gs ks comma refl h.1),
    )

mutual
  pub ground_back : (g : Ground) → ground_of (as_term g) ≡ g
  ground_back (gapp f gs) = ap (gapp f) (grounds_back gs)

  grounds_back : (gs : Grounds) → grounds_of (as_terms gs) ≡ gs
  grounds_back gnil = refl
  grounds_back (gcons g gs) = ap₂ gcons (ground_back g) (grounds_back gs)

-- What stands at the offset up to which is looked does not stand before it.
pub none_here : (r : List Lexeme) → open_before (place r) r ≡ none
none_here [] = refl
none_here (x ∷ r) = cond_false (ltb x.at x.at) _ none (le-ltb x.at x.at (omega arith))

none_first : (b c : Bool) (q : Option ℕ) (p : Option ℕ) → c ≡ false → q ≡ none → cond b (cond c p q) none ≡ none
none_first true c q p e h = cond_false c p q e ∙ h
none_first false c q p e h = refl

pub shut_none : (us : List Token) (l r : List Lexeme) → Stands us l r → Shut us → open_before (place r) l ≡ none
shut_none [] l r h a = ap (open_before (place r)) h ∙ none_here r
shut_none (u ∷ us) [] r h a = absurd h
shut_none (u ∷ us) (x ∷ l) r h a =
    none_first (ltb x.at (place r)) (is_open x.token) (open_before (place r) l) _ (ap is_open h.0 ∙ a.0) (shut_none us l r h.1 a.1)

-- ---- a situation

pub none_good : GoodVariables []
none_good = record { variables = tt; different = tt; few = omega arith }

module _ (X : Lexicon) (lex : GoodLexicon X) (k : ℕ) where
  -- No variable stands in it.
  pub situation-term : (g : Ground) → HoldsTerm (vocabulary_of X) (encode_term (vocabulary_of X) k (as_term g)) k (as_term g) → (l r : List Lexeme) →
      Stands (ground_tokens (word_names X) g) l r →
      (s : Seen) × (parse_term (word_names X) (vocabulary_of X) most_levels k start l ≡ parsed (record { term = as_term g; seen = s }) r)
  situation-term (gapp f gs) h l r e =
      let none = ground-names (gapp f gs) in
      let lim = h.limits in (
        _,
        read-term (kind_names X) (word_names X) (vocabulary_of X) (lexicon-named X lex) [] none_good (as_term (gapp f gs)) most_levels k 0 1 l r
            h.good.sorted.sorted (omega arith) (omega arith) (subst (Counts 0) (sym none) tt) (omega (arith, ap length none)) e,
      )

  pub situation-read : (g : Ground) → HoldsTerm (vocabulary_of X) (encode_term (vocabulary_of X) k (as_term g)) k (as_term g) → (l r : List Lexeme) →
      Stands (ground_tokens (word_names X) g) l r → read_situation (word_names X) (vocabulary_of X) k l ≡ parsed g r
  situation-read g h l r e =
      let shut = ground-shut (kind_names X) (word_names X) (vocabulary_of X) (lexicon-named X lex) [] g k h.good.sorted.sorted in
      ap (completed l) (situation-term g h l r e).1
      ∙ (ap (λ (o : Option ℕ). or_open o (parsed (ground_of (as_term g)) r)) (shut_none (ground_tokens (word_names X) g) l r e shut)
      ∙ ap (λ (z : Ground). parsed z r) (ground_back g))

pub questions-read : QuestionsRead
questions-read X p g [] r lex good e = let z : ◌≡◌ {A = ℕ} 0 1 = cc in absurd (omega arith)
questions-read X p g (x ∷ []) r lex good e = let z : ◌≡◌ {A = ℕ} 0 1 = cc in absurd (omega arith)
questions-read X p g (x ∷ y ∷ l) r lex good e =
    let us : List Token = ground_tokens (word_names X) g in
    let label : x.token ≡ p.label = cc in
    cond_true (same x.token p.label) _ (fault_at other_label 0 (x ∷ y ∷ l)) (ap (λ (u : Token). same u p.label) label ∙ same_refl p.label)
    ∙ situation-read X lex p.kind g good.situation l (drop (length us) l) (tokens_stand us l (tokens_of r) (cc))
