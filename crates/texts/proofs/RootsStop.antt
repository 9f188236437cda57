-- RootsStop: a pattern without label is read until a token stands there with which none goes on, and what was read so far can be completed.
--
--   CanRoot X us               the tokens us are the first of those of a good pattern without label
--   Halts read Can l y         `read` goes through l, or it stops there
--   open_root                  nothing was read yet
--   kind_ran                   the kind of a root that is open or a variable
--   root_halts                 any pattern without label
--
use mathlib.Core.Path.{◌≡◌, refl, sym, ap, ap₂, subst, ◌∙◌}
use mathlib.Core.Bool.{Bool, true, false, cond}
use mathlib.Core.List.{List, [], ◌∷◌, ◌++◌}
use Prim.Native.Nat.{ℕ, zero, suc, ◌+◌, ◌<◌}
use native.Mathlib.Omega.{arith}
use lib.Dec.{ltb}
use lib.ListN.{length}
use Rattle.terms.specs.Term.{Term, any, var}
use Rattle.wire.specs.Vocabulary.{word}
use Rattle.wire.specs.TermBytes.{most_levels}
use Rattle.wire.proofs.Cond.{choice, cond_true, cond_false}
use Rattle.texts.specs.Lexemes.{Token, Lexeme}
use Rattle.texts.specs.Names.{same, opened, mark, colon, is_identifier, is_variable, index_in, name_at, IsVariable}
use Rattle.texts.specs.Lexicon.{Lexicon, kind_names, word_names, vocabulary_of, GoodLexicon}
use Rattle.texts.specs.Phrases.{phrase_tokens, GoodPhrase}
use Rattle.texts.specs.Faults.{Parsed, parsed, bad, parse_then, token, rest, colon_due, place_due, not_declared, pattern_due}
use Rattle.texts.specs.PhraseReading.{TermRead, PhraseRead, phrase_read, variable_why, fault_at, read_variable, parse_term, read_root_kind, read_root}
use Rattle.texts.specs.Laws.{tokens_of}
use Rattle.texts.proofs.Finding.{same-exact}
use Rattle.texts.proofs.Standing.{Stands, stands-tokens}
use Rattle.texts.proofs.Telling.{not_opened, not_variable, lexicon-named}
use Rattle.texts.proofs.Fitting.{Lexed, variable-good, variable-fits}
use Rattle.texts.proofs.TermsRead.{Below}
use Rattle.texts.proofs.TermsExact.{HasRead}
use Rattle.texts.proofs.PhrasesRead.{start, root_from, second, third}
use Rattle.texts.proofs.PhrasesExact.{open_good, variable-root, word-root}
use Rattle.texts.proofs.Locality.{Ended, ended-rest, Stopped, Ran, ran_cons, ran_fault, ran_return}
use Rattle.texts.proofs.Completing.{CanTerm, term_ran}

pub record CanRoot (X : Lexicon) (us : List Token) : Type 0 where
  pub variables : List Token
  pub kind : ℕ
  pub term : Term
  pub good : GoodPhrase X variables kind term
  pub more : List Token
  pub tokens : us ++ more ≡ phrase_tokens X variables kind term ++ []

abbrev pub Halts : {A : Type 0} → (List Lexeme → Parsed A) → (List Token → Type 0) → List Lexeme → Parsed A → Type 0
Halts read Can l (parsed a r) = Unit {0}
Halts read Can l (bad x) = Stopped read Can l x

ran_halts : {A : Type 0} (read : List Lexeme → Parsed A) (Can : List Token → Type 0) (l : List Lexeme) (y : Parsed A) → Ran read Can l y → Halts read Can l y
ran_halts read Can l (parsed a r) h = tt
ran_halts read Can l (bad x) h = h

-- The name of a kind, behind the colon.
abbrev kind_name : List Token → TermRead → List Lexeme → Parsed PhraseRead
kind_name K a l =
    cond (is_identifier (token l))
    (cond (ltb (index_in (token l) K) (length K)) (parsed (phrase_read (index_in (token l) K) a) (rest l)) (fault_at not_declared 0 l))
    (fault_at place_due 0 l)

abbrev root_of : Lexicon → Below → List Lexeme → Parsed PhraseRead
root_of X below l = root_from below (kind_names X) (word_names X) (vocabulary_of X) l

abbrev kind_of : Lexicon → Token → ℕ
kind_of X u = (word (vocabulary_of X) (index_in u (word_names X))).result

module _ (X : Lexicon) (lex : GoodLexicon X) where
  some_kind_lem : 0 < length X
  some_kind_lem = let h = lex.some_kind in omega arith

  -- The first kind is written where another could be.
  can_first : (vs : List Token) (t : Term) → GoodPhrase X vs 0 t → (us more : List Token) → us ++ more ≡ phrase_tokens X vs 0 t ++ [] → CanRoot X us
  can_first vs t good us more e = record { variables = vs; kind = 0; term = t; good = good; more = more; tokens = e }

  pub open_root : CanRoot X []
  open_root = can_first [] any (open_good X 0 some_kind_lem) [] (phrase_tokens X [] 0 any ++ []) refl

  module _ (a : TermRead) (x : Lexeme)
      (can : (us more : List Token) → us ++ more ≡ mark colon ∷ name_at (kind_names X) 0 ∷ [] → CanRoot X (x.token ∷ us)) where
    name_ran : (Can : List Token → Type 0) → Can [] → (l : List Lexeme) → Ended l → Ran (kind_name (kind_names X) a) Can l (kind_name (kind_names X) a l)
    name_ran Can can [] h = absurd h
    name_ran Can can (z ∷ l) h =
        choice (Ran (kind_name (kind_names X) a) Can (z ∷ l)) (is_identifier z.token) _ (fault_at place_due 0 (z ∷ l))
        (λ i. choice (Ran (kind_name (kind_names X) a) Can (z ∷ l)) known (parsed (phrase_read n a) l) (fault_at not_declared 0 (z ∷ l))
        (λ k. ran_cons (kind_name (kind_names X) a) Can z l (λ l'. parsed (phrase_read n a) l')
        (λ at l'. cond_true (is_identifier z.token) _ _ i ∙ cond_true known _ _ k) (parsed (phrase_read n a) l)
        (ran_return (phrase_read n a) l (ended-rest is_identifier z l refl i h)))
        (λ k. ran_fault (kind_name (kind_names X) a) Can z l (λ at. record { why = not_declared; at = at; of = 0 }) refl
        (λ at l'. cond_true (is_identifier z.token) _ _ i ∙ cond_false known _ _ k) can))
        (λ i. ran_fault (kind_name (kind_names X) a) Can z l (λ at. record { why = place_due; at = at; of = 0 }) refl
        (λ at l'. cond_false (is_identifier z.token) _ _ i) can)
      where
        n : ℕ
        n = index_in z.token (kind_names X)

        known : Bool
        known = ltb n (length (kind_names X))

    kind_ran : (l : List Lexeme) → Ended l → Ran (read_root_kind (kind_names X) a) (λ ws. CanRoot X (x.token ∷ ws)) l (read_root_kind (kind_names X) a l)
    kind_ran [] h = absurd h
    kind_ran (y ∷ l) h =
        choice (Ran (read_root_kind (kind_names X) a) Can (y ∷ l)) (same y.token (mark colon)) (kind_name (kind_names X) a l) (fault_at colon_due 0 (y ∷ l))
        (λ e. ran_cons (read_root_kind (kind_names X) a) Can y l (kind_name (kind_names X) a) (λ at l'. cond_true (same y.token (mark colon)) _ _ e) (kind_name (kind_names X) a l)
        (name_ran (λ ws. Can (y.token ∷ ws))
        (subst (λ (u : Token). CanRoot X (x.token ∷ u ∷ [])) (sym (same-exact y.token (mark colon) e))
        (can (mark colon ∷ []) (name_at (kind_names X) 0 ∷ []) refl)) l
        (ended-rest (λ u. same u (mark colon)) y l refl e h)))
        (λ e. ran_fault (read_root_kind (kind_names X) a) Can y l (λ at. record { why = colon_due; at = at; of = 0 }) refl
        (λ at l'. cond_false (same y.token (mark colon)) _ _ e) (can [] (mark colon ∷ name_at (kind_names X) 0 ∷ []) refl))
      where
        Can : List Token → Type 0
        Can ws = CanRoot X (x.token ∷ ws)

  -- ---- by the first token

  -- What was read of a term whose first token is a name begins a pattern.
  word-from : (x : Lexeme) (l r : List Lexeme) → is_identifier x.token ≡ true → (due : ℕ) (us : List Token) → Stands us (x ∷ l) r →
      CanTerm (word_names X) (vocabulary_of X) most_levels due start us → CanRoot X us
  word-from x l r i due [] st h = open_root
  word-from x l r i due (u ∷ us) st h = go h.lexemes h.has h.tokens
    where
      go : (m : List Lexeme) → HasRead (word_names X) (vocabulary_of X) most_levels due start m h.read [] →
          tokens_of m ≡ (u ∷ us) ++ h.more → CanRoot X (u ∷ us)
      go [] has e = let z : ◌≡◌ {A = ℕ} 0 1 = cc in absurd (omega arith)
      go (y ∷ m) has e =
          let first : y.token ≡ x.token = let a = st.0 in cc in
          let g = word-root X (lexicon-named X lex) y m (ap is_identifier first ∙ i) due (parsed h.read []) has in
          record {
            variables = h.read.seen.variables;
            kind = due;
            term = h.read.term;
            good = g.1;
            more = h.more;
            tokens = sym e ∙ stands-tokens (phrase_tokens X h.read.seen.variables due h.read.term) (y ∷ m) [] g.2;
          }

  first-token : (us : List Token) (x h : Lexeme) (l r l' r' : List Lexeme) (at : ℕ) → Stands us (x ∷ l) (h ∷ r) →
      Stands us l' (record { at = at; token = h.token } ∷ r') → token l' ≡ x.token
  first-token [] x h l r l' r' at e k = ap token k ∙ sym (ap token e)
  first-token (u ∷ us) x h l r [] r' at e k = absurd k
  first-token (u ∷ us) x h l r (y ∷ l') r' at e k = k.0 ∙ sym e.0

  module _ (below : Below)
      (runs : (due : ℕ) (l : List Lexeme) → Lexed l → Ended l →
      Ran (below due start) (CanTerm (word_names X) (vocabulary_of X) most_levels due start) l (below due start l))
      (x : Lexeme) (l : List Lexeme) (a : Lexed (x ∷ l)) (h : Ended (x ∷ l)) where
    from_open : same x.token opened ≡ true →
        Ran (root_of X below) (CanRoot X) (x ∷ l) (read_root_kind (kind_names X) (record { term = any; seen = start }) l)
    from_open e =
        ran_cons (root_of X below) (CanRoot X) x l (read_root_kind (kind_names X) (record { term = any; seen = start }))
        (λ at l'. cond_true (same x.token opened) _ _ e) (read_root_kind (kind_names X) (record { term = any; seen = start }) l)
        (kind_ran (record { term = any; seen = start }) x
        (λ us more k. can_first [] any (open_good X 0 some_kind_lem) (x.token ∷ us) more (ap₂ {C = List Token} ◌∷◌ (same-exact x.token opened e) k)) l (ended-rest (λ u. same u opened) x l refl e h))

    from-variable : same x.token opened ≡ false → is_variable x.token ≡ true → (why : ℕ) → variable_why most_levels start x.token ≡ why →
        Ran (root_of X below) (CanRoot X) (x ∷ l) (parse_then (read_variable 0 start (x ∷ l) why) (read_root_kind (kind_names X)))
    from-variable e v zero q =
        let fit = variable-fits most_levels start x.token q in
        let is : IsVariable x.token = variable-good x.token a.0 v fit.short in
        ran_cons (root_of X below) (CanRoot X) x l (read_root_kind (kind_names X) b)
        (λ at l'. second (same x.token opened) (is_variable x.token) _ _ _ e v
        ∙ ap (λ (w : ℕ). parse_then (read_variable 0 start (record { at = at; token = x.token } ∷ l') w) (read_root_kind (kind_names X))) q)
        (read_root_kind (kind_names X) b l) (kind_ran b x
        (λ us more k. can_first (x.token ∷ []) (var 0) (variable-root X 0 some_kind_lem x.token is) (x.token ∷ us) more
        (ap (λ (z : List Token). x.token ∷ z) k)) l (ended-rest is_variable x l refl v h))
      where
        b : TermRead
        b = record { term = var 0; seen = record { variables = x.token ∷ []; used = 1 + 1 } }
    from-variable e v (suc why) q =
        ran_fault (root_of X below) (CanRoot X) x l (λ at. record { why = suc why; at = at; of = 0 }) refl
        (λ at l'. second (same x.token opened) (is_variable x.token) _ _ _ e v
        ∙ ap (λ (w : ℕ). parse_then (read_variable 0 start (record { at = at; token = x.token } ∷ l') w) (read_root_kind (kind_names X))) q)
        open_root

    -- The kind of a word is known from its first token.
    from-word : is_identifier x.token ≡ true → (y : Parsed TermRead) →
        Ran (below (kind_of X x.token) start) (CanTerm (word_names X) (vocabulary_of X) most_levels (kind_of X x.token) start) (x ∷ l) y →
        Halts (root_of X below) (CanRoot X) (x ∷ l) (parse_then y (λ b r. parsed (phrase_read (kind_of X x.token) b) r))
    from-word i (parsed b r) q = tt
    from-word i (bad f) q = record {
      us = q.us;
      here = q.here;
      behind = q.behind;
      stands = q.stands;
      place = q.place;
      can = word-from x l (q.here ∷ q.behind) i (kind_of X x.token) q.us q.stands q.can;
      never = λ l' at r' st.
          let n = q.never l' at r' st in
          let e : token l' ≡ x.token = first-token q.us x q.here l q.behind l' r' at q.stands st in
          let i' : is_identifier (token l') ≡ true = ap is_identifier e ∙ i in (
            n.0,
            third (same (token l') opened) (is_variable (token l')) (is_identifier (token l')) _ _ _ _ (not_opened (token l') i')
                (not_variable (token l') i') i'
                ∙ (ap (λ (u : Token). parse_then (below (kind_of X u) start l') (λ b r. parsed (phrase_read (kind_of X u) b) r)) e
                ∙ ap (λ (z : Parsed TermRead). parse_then z (λ b r. parsed (phrase_read (kind_of X x.token) b) r)) n.1),
          );
    }

    halts : Halts (root_of X below) (CanRoot X) (x ∷ l) (root_of X below (x ∷ l))
    halts =
        choice P (same x.token opened) _ _
        (λ e. ran_halts (root_of X below) (CanRoot X) (x ∷ l) (read_root_kind (kind_names X) (record { term = any; seen = start }) l) (from_open e))
        (λ e. choice P (is_variable x.token) _ _
        (λ v. ran_halts (root_of X below) (CanRoot X) (x ∷ l)
        (parse_then (read_variable 0 start (x ∷ l) (variable_why most_levels start x.token)) (read_root_kind (kind_names X)))
        (from-variable e v (variable_why most_levels start x.token) refl))
        (λ v. choice P (is_identifier x.token) _ (fault_at pattern_due 0 (x ∷ l))
        (λ i. from-word i (below (kind_of X x.token) start (x ∷ l)) (runs (kind_of X x.token) (x ∷ l) a h))
        (λ i. ran_fault (root_of X below) (CanRoot X) x l (λ at. record { why = pattern_due; at = at; of = 0 }) refl
        (λ at l'. cond_false (same x.token opened) _ _ e ∙ (cond_false (is_variable x.token) _ _ v ∙ cond_false (is_identifier x.token) _ _ i))
        open_root)))
      where
        P : Parsed PhraseRead → Type 0
        P = Halts (root_of X below) (CanRoot X) (x ∷ l)

  pub root_halts : (l : List Lexeme) → Lexed l → Ended l →
      Halts (read_root (kind_names X) (word_names X) (vocabulary_of X)) (CanRoot X) l (read_root (kind_names X) (word_names X) (vocabulary_of X) l)
  root_halts [] a h = absurd h
  root_halts (x ∷ l) a h =
      halts (parse_term (word_names X) (vocabulary_of X) most_levels)
      (λ due l a h. term_ran (kind_names X) (word_names X) (vocabulary_of X) (lexicon-named X lex) most_levels due start l a h) x l a h
