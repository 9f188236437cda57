-- Completing: a term is read until a token stands there with which none goes on, and what was read so far can be completed.
--
--   CanTerm, CanTerms     the tokens us are the first of those of a term, of the terms of a word's places, that would be read
--   places_ran            how the terms of a word's places are read
--   term_ran              .. and any term
--
use mathlib.Core.Path.{◌≡◌, refl, sym, ap, subst, ◌∙◌}
use mathlib.Core.Bool.{true, false, cond}
use mathlib.Core.List.{List, [], ◌∷◌, ◌++◌, append_assoc}
use mathlib.Core.Logic.{◌⊎◌}
use Prim.Native.Nat.{ℕ, zero, suc, ◌+◌, ◌≤◌}
use native.Mathlib.Omega.{arith}
use lib.Dec.{eqb}
use lib.ListN.{length}
use borrow.Author.Tests.{eq-eqb}
use Rattle.terms.specs.Term.{any, var, app, Terms, nil}
use Rattle.wire.specs.Vocabulary.{Vocabulary, word}
use Rattle.wire.proofs.Cond.{choice, cond_true, cond_false}
use Rattle.texts.specs.Lexemes.{Token, Lexeme}
use Rattle.texts.specs.Names.{same, opened, mark, opening, closing, comma, is_variable, index_in}
use Rattle.texts.specs.Spelling.{IsToken}
use Rattle.texts.specs.Phrases.{term_tokens}
use Rattle.texts.specs.Faults.{Parsed, parsed, parse_then, places_wrong, places_over, too_deep}
use Rattle.texts.specs.PhraseReading.{Seen, TermRead, TermsRead, word_bytes, word_why, variable_why, fault_at, put_first, parse_places, read_behind, parse_word, read_variable, read_node, parse_term}
use Rattle.texts.specs.Laws.{tokens_of}
use Rattle.texts.proofs.Finding.{same-exact}
use Rattle.texts.proofs.Standing.{Stands, stands-all}
use Rattle.texts.proofs.Telling.{Named}
use Rattle.texts.proofs.Fitting.{Lexed, WordFits, word_fits}
use Rattle.texts.proofs.TermsRead.{Below, node-variable}
use Rattle.texts.proofs.TermsExact.{HasRead, HasReadAll, Reads, in_places, in_brackets, end-exact, next-exact, bracket, open_exact, word-exact, term-exact}
use Rattle.texts.proofs.Locality.{as_lexemes, as_tokens, as_stands, stands_same, stands-more, Ended, ended-rest, Ran, ran_weaker, ran_then, ran_cons, ran_fault, ran_return}

tokens_append : (l m : List Lexeme) → tokens_of (l ++ m) ≡ tokens_of l ++ tokens_of m
tokens_append [] m = refl
tokens_append (x ∷ l) m = ap (λ (z : List Token). x.token ∷ z) (tokens_append l m)

pub record CanTerm (N : List Token) (W : Vocabulary) (left due : ℕ) (s : Seen) (us : List Token) : Type 0 where
  pub lexemes : List Lexeme
  pub read : TermRead
  pub has : HasRead N W left due s lexemes read []
  pub more : List Token
  pub tokens : tokens_of lexemes ≡ us ++ more

pub record CanTerms (said : List Token → Terms → List Token) (W : Vocabulary) (left : ℕ) (ks : List ℕ) (s : Seen) (us : List Token) : Type 0 where
  pub lexemes : List Lexeme
  pub read : TermsRead
  pub has : HasReadAll said W left ks s lexemes read []
  pub more : List Token
  pub tokens : tokens_of lexemes ≡ us ++ more

abbrev lexeme : Token → Lexeme
lexeme u = record { at = 0; token = u }

-- ---- what can be completed

module _ (K N : List Token) (W : Vocabulary) (named : Named K N W) where
  -- The term was read of other lexemes with the same tokens.
  has_elsewhere : (left due : ℕ) (s : Seen) (l r l' r' : List Lexeme) (a : TermRead) → HasRead N W left due s l a r →
      ((us : List Token) → Stands us l r → Stands us l' r') → HasRead N W left due s l' a r'
  has_elsewhere left due s l r l' r' a h move =
      record { stands = λ w. move (term_tokens N (a.seen.variables ++ w) a.term) (h.stands w); sorted = h.sorted; deep = h.deep; grows = h.grows }

  open_term : (left due : ℕ) (s : Seen) → CanTerm N W left due s []
  open_term left due s = record {
    lexemes = lexeme opened ∷ [];
    read = record { term = any; seen = s };
    has = open_exact K N W named due s (lexeme opened) [] left refl;
    more = opened ∷ [];
    tokens = refl;
  }

  -- Where nothing was read yet each place is left open.
  open_places : (left : ℕ) (ks : List ℕ) (c : ℕ) (s : Seen) → CanTerms (in_places N c) W left ks s []
  open_places left [] c s = record {
    lexemes = lexeme (mark closing) ∷ [];
    read = record { terms = nil; seen = s };
    has = end-exact N W left c s (lexeme (mark closing)) [] refl;
    more = mark closing ∷ [];
    tokens = refl;
  }
  open_places left (k ∷ ks) c s =
      let g = open_places left ks comma s in
      record {
        lexemes = lexeme (mark c) ∷ lexeme opened ∷ g.lexemes;
        read = put_first any g.read;
        has =
            next-exact N W left c k ks s (lexeme (mark c)) (lexeme opened ∷ g.lexemes) refl (record { term = any; seen = s }) g.lexemes
            (open_exact K N W named k s (lexeme opened) g.lexemes left refl) (parsed g.read []) g.has;
        more = mark c ∷ opened ∷ tokens_of g.lexemes;
        tokens = refl;
      }

  -- A term that can be completed, then open places.
  can_first : (left c k : ℕ) (ks : List ℕ) (s : Seen) (x : Lexeme) → x.token ≡ mark c → (us : List Token) → CanTerm N W left k s us →
      CanTerms (in_places N c) W left (k ∷ ks) s (x.token ∷ us)
  can_first left c k ks s x e us h =
      let g = open_places left ks comma h.read.seen in
      record {
        lexemes = x ∷ (h.lexemes ++ g.lexemes);
        read = put_first h.read.term g.read;
        has =
            next-exact N W left c k ks s x (h.lexemes ++ g.lexemes) e h.read g.lexemes
            (has_elsewhere left k s h.lexemes [] (h.lexemes ++ g.lexemes) g.lexemes h.read h.has
            (λ ts. stands-more ts h.lexemes [] g.lexemes)) (parsed g.read []) g.has;
        more = h.more ++ tokens_of g.lexemes;
        tokens =
            ap (λ (z : List Token). x.token ∷ z)
            (tokens_append h.lexemes g.lexemes
            ∙ (ap (λ (z : List Token). z ++ tokens_of g.lexemes) h.tokens ∙ append_assoc us h.more (tokens_of g.lexemes)));
      }

  -- A term that was read, then terms that can be completed.
  can_next : (left c k : ℕ) (ks : List ℕ) (s : Seen) (x : Lexeme) → x.token ≡ mark c → (l r : List Lexeme) (a : TermRead) →
      HasRead N W left k s l a r → (us : List Token) → Stands us l r → (ws : List Token) → CanTerms (in_places N comma) W left ks a.seen ws →
      CanTerms (in_places N c) W left (k ∷ ks) s (x.token ∷ (us ++ ws))
  can_next left c k ks s x e l r a h us st ws g = record {
    lexemes = x ∷ (as_lexemes us ++ g.lexemes);
    read = put_first a.term g.read;
    has =
        next-exact N W left c k ks s x (as_lexemes us ++ g.lexemes) e a g.lexemes
        (has_elsewhere left k s l r (as_lexemes us ++ g.lexemes) g.lexemes a h
        (λ ts q. subst (λ (z : List Token). Stands z (as_lexemes us ++ g.lexemes) g.lexemes) (stands_same us ts l r st q) (as_stands us g.lexemes))) (parsed g.read []) g.has;
    more = g.more;
    tokens =
        ap (λ (z : List Token). x.token ∷ z)
        (as_tokens us g.lexemes ∙ (ap (λ (z : List Token). us ++ z) g.tokens ∙ sym (append_assoc us ws g.more)));
  }

  can_word : (left due : ℕ) (s : Seen) (x : Lexeme) → WordFits N W (suc left) due s x.token → (us : List Token) →
      CanTerms (in_brackets N) W left (word W (index_in x.token N)).kinds (record { variables = s.variables; used = s.used + word_bytes }) us →
      CanTerm N W (suc left) due s (x.token ∷ us)
  can_word left due s x fit us g = record {
    lexemes = x ∷ g.lexemes;
    read = record { term = app (index_in x.token N) g.read.terms; seen = g.read.seen };
    has = word-exact K N W named due s x g.lexemes left fit (parsed g.read []) g.has;
    more = g.more;
    tokens = ap (λ (z : List Token). x.token ∷ z) g.tokens;
  }

  -- ---- the terms of a word's places

  module _ (below : Below) (left f : ℕ) (good : (k : ℕ) (s : Seen) (l : List Lexeme) → Lexed l → Reads N W left k s l (below k s l))
      (runs : (k : ℕ) (s : Seen) (l : List Lexeme) → Lexed l → Ended l → Ran (below k s) (CanTerm N W left k s) l (below k s l)) where
    pub places_ran : (ks : List ℕ) (c : ℕ) (s : Seen) (l : List Lexeme) → Lexed l → Ended l →
        Ran (parse_places below f c ks s) (CanTerms (in_places N c) W left ks s) l (parse_places below f c ks s l)
    places_ran [] c s [] a h = absurd h
    places_ran [] c s (x ∷ l) a h =
        choice (Ran (parse_places below f c [] s) (CanTerms (in_places N c) W left [] s) (x ∷ l)) (same x.token (mark closing))
        (parsed (record { terms = nil; seen = s }) l) (fault_at places_over f (x ∷ l))
        (λ e. ran_cons (parse_places below f c [] s) (CanTerms (in_places N c) W left [] s) x l (λ l'. parsed (record { terms = nil; seen = s }) l')
        (λ at l'. cond_true (same x.token (mark closing)) _ _ e) (parsed (record { terms = nil; seen = s }) l)
        (ran_return (record { terms = nil; seen = s }) l (ended-rest (λ u. same u (mark closing)) x l refl e h)))
        (λ e. ran_fault (parse_places below f c [] s) (CanTerms (in_places N c) W left [] s) x l (λ at. record { why = places_over; at = at; of = f }) refl
        (λ at l'. cond_false (same x.token (mark closing)) _ _ e) (open_places left [] c s))
    places_ran (k ∷ ks) c s [] a h = absurd h
    places_ran (k ∷ ks) c s (x ∷ l) a h =
        choice (Ran (parse_places below f c (k ∷ ks) s) (CanTerms (in_places N c) W left (k ∷ ks) s) (x ∷ l)) (same x.token (mark c))
        (parse_then (below k s l) behind) (fault_at places_wrong f (x ∷ l))
        (λ e. ran_cons (parse_places below f c (k ∷ ks) s) (CanTerms (in_places N c) W left (k ∷ ks) s) x l (λ l'. parse_then (below k s l') behind)
        (λ at l'. cond_true (same x.token (mark c)) _ _ e) (parse_then (below k s l) behind)
        (go (places_ran ks comma) (same-exact x.token (mark c) e) (ended-rest (λ u. same u (mark c)) x l refl e h)))
        (λ e. ran_fault (parse_places below f c (k ∷ ks) s) (CanTerms (in_places N c) W left (k ∷ ks) s) x l
        (λ at. record { why = places_wrong; at = at; of = f }) refl
        (λ at l'. cond_false (same x.token (mark c)) _ _ e) (open_places left (k ∷ ks) c s))
      where
        behind : TermRead → List Lexeme → Parsed TermsRead
        behind b r = parse_then (parse_places below f comma ks b.seen r) (λ ts r'. parsed (put_first b.term ts) r')

        Can : List Token → Type 0
        Can ws = CanTerms (in_places N c) W left (k ∷ ks) s (x.token ∷ ws)

        go : ((s : Seen) (l : List Lexeme) → Lexed l → Ended l →
            Ran (parse_places below f comma ks s) (CanTerms (in_places N comma) W left ks s) l (parse_places below f comma ks s l)) →
            x.token ≡ mark c → Ended l → Ran (λ l'. parse_then (below k s l') behind) Can l (parse_then (below k s l) behind)
        go ih e n =
            ran_then (below k s) behind Can l (CanTerm N W left k s) (below k s l) (runs k s l a.1 n)
            (λ us q. can_first left c k ks s x e us q)
            (λ b r t p.
            let has : HasRead N W left k s l b r = subst (Reads N W left k s l) p (good k s l a.1) in
            ran_then (parse_places below f comma ks b.seen) (λ ts r'. parsed (put_first b.term ts) r') (λ ws. Can (t.us ++ ws)) r
            (CanTerms (in_places N comma) W left ks b.seen) (parse_places below f comma ks b.seen r)
            (ih b.seen r (stands-all (λ (x : Lexeme). (x.token ≡ []) ⊎ IsToken x.token) t.us l r t.stands a.1) t.ended)
            (λ ws q. can_next left c k ks s x e l r b has t.us t.stands ws q)
            (λ ts r' t' p'. ran_return (put_first b.term ts) r' t'.ended))

    behind_ran : (ks : List ℕ) (s : Seen) (l : List Lexeme) → Lexed l → Ended l →
        Ran (read_behind below f ks s) (CanTerms (in_brackets N) W left ks s) l (read_behind below f ks s l)
    behind_ran [] s l a h = ran_return (record { terms = nil; seen = s }) l h
    behind_ran (k ∷ ks) s l a h =
        ran_weaker (parse_places below f opening (k ∷ ks) s) l (CanTerms (in_places N opening) W left (k ∷ ks) s)
        (CanTerms (in_brackets N) W left (k ∷ ks) s) can (parse_places below f opening (k ∷ ks) s l) (places_ran (k ∷ ks) opening s l a h)
      where
        can : (us : List Token) → CanTerms (in_places N opening) W left (k ∷ ks) s us → CanTerms (in_brackets N) W left (k ∷ ks) s us
        can us q = record {
          lexemes = q.lexemes;
          read = q.read;
          has = record {
            stands = λ w.
                bracket N W left below f good ks k (q.read.seen.variables ++ w) q.read.terms q.lexemes [] q.has.sorted (q.has.stands w);
            sorted = q.has.sorted;
            deep = q.has.deep;
            grows = q.has.grows;
          };
          more = q.more;
          tokens = q.tokens;
        }

  -- ---- a term from its first token

  module _ (below : Below) (left under : ℕ) (next : 1 ≤ left → left ≡ suc under)
      (good : (k : ℕ) (s : Seen) (l : List Lexeme) → Lexed l → Reads N W under k s l (below k s l))
      (runs : (k : ℕ) (s : Seen) (l : List Lexeme) → Lexed l → Ended l → Ran (below k s) (CanTerm N W under k s) l (below k s l))
      (due : ℕ) (s : Seen) (x : Lexeme) (l : List Lexeme) (a : Lexed (x ∷ l)) (h : Ended (x ∷ l)) where
    from-variable : is_variable x.token ≡ true → (why : ℕ) → variable_why left s x.token ≡ why →
        Ran (read_node below N W left due s) (CanTerm N W left due s) (x ∷ l) (read_variable due s (x ∷ l) why)
    from-variable e zero q =
        ran_cons (read_node below N W left due s) (CanTerm N W left due s) x l (λ l'. parsed b l')
        (λ at l'. node-variable below N W left due s (record { at = at; token = x.token }) l' e
        ∙ ap (read_variable due s (record { at = at; token = x.token } ∷ l')) q)
        (parsed b l) (ran_return b l (ended-rest is_variable x l refl e h))
      where
        b : TermRead
        b = record { term = var (length s.variables); seen = record { variables = s.variables ++ (x.token ∷ []); used = s.used + 1 } }
    from-variable e (suc why) q =
        ran_fault (read_node below N W left due s) (CanTerm N W left due s) x l (λ at. record { why = suc why; at = at; of = due }) refl
        (λ at l'. node-variable below N W left due s (record { at = at; token = x.token }) l' e
        ∙ ap (read_variable due s (record { at = at; token = x.token } ∷ l')) q)
        (open_term left due s)

    node-other : same x.token opened ≡ false → is_variable x.token ≡ false → (at : ℕ) (l' : List Lexeme) →
        read_node below N W left due s (record { at = at; token = x.token } ∷ l')
        ≡ parse_word below N W left due s (record { at = at; token = x.token } ∷ l') (word_why N W left due s x.token)
    node-other e v at l' =
        cond_false (same x.token opened) _
        (cond (is_variable x.token) (read_variable due s (record { at = at; token = x.token } ∷ l') (variable_why left s x.token))
        (parse_word below N W left due s (record { at = at; token = x.token } ∷ l') (word_why N W left due s x.token))) e
        ∙ cond_false (is_variable x.token) _ _ v

    from-word : same x.token opened ≡ false → is_variable x.token ≡ false → (why : ℕ) → word_why N W left due s x.token ≡ why →
        Ran (read_node below N W left due s) (CanTerm N W left due s) (x ∷ l) (parse_word below N W left due s (x ∷ l) why)
    from-word e v zero q =
        ran_cons (read_node below N W left due s) (CanTerm N W left due s) x l (λ l'. parse_then (read_behind below f (word W f).kinds s' l') made)
        (λ at l'. node-other e v at l' ∙ ap (parse_word below N W left due s (record { at = at; token = x.token } ∷ l')) q)
        (parse_then (read_behind below f (word W f).kinds s' l) made)
        (ran_then (read_behind below f (word W f).kinds s') made (λ ws. CanTerm N W left due s (x.token ∷ ws)) l
        (CanTerms (in_brackets N) W under (word W f).kinds s') (read_behind below f (word W f).kinds s' l)
        (behind_ran below under f good runs (word W f).kinds s' l a.1
        (ended-rest (λ u. eqb (word_why N W left due s u) 0) x l refl (eq-eqb (word_why N W left due s x.token) 0 q) h))
        can
        (λ ts r t p. ran_return (record { term = app f ts.terms; seen = ts.seen }) r t.ended))
      where
        f : ℕ
        f = index_in x.token N

        s' : Seen
        s' = record { variables = s.variables; used = s.used + word_bytes }

        made : TermsRead → List Lexeme → Parsed TermRead
        made ts r = parsed (record { term = app f ts.terms; seen = ts.seen }) r

        can : (us : List Token) → CanTerms (in_brackets N) W under (word W f).kinds s' us → CanTerm N W left due s (x.token ∷ us)
        can us g =
            let fit = word_fits N W left due s x.token q in
            let n : left ≡ suc under = next fit.deep in
            subst (λ (m : ℕ). CanTerm N W m due s (x.token ∷ us)) (sym n)
            (can_word under due s x (subst (λ (m : ℕ). WordFits N W m due s x.token) n fit) us g)
    from-word e v (suc why) q =
        ran_fault (read_node below N W left due s) (CanTerm N W left due s) x l (λ at. record { why = suc why; at = at; of = due }) refl
        (λ at l'. node-other e v at l' ∙ ap (parse_word below N W left due s (record { at = at; token = x.token } ∷ l')) q)
        (open_term left due s)

    node_ran : Ran (read_node below N W left due s) (CanTerm N W left due s) (x ∷ l) (read_node below N W left due s (x ∷ l))
    node_ran =
        choice (Ran (read_node below N W left due s) (CanTerm N W left due s) (x ∷ l)) (same x.token opened)
        (parsed (record { term = any; seen = s }) l)
        (cond (is_variable x.token) (read_variable due s (x ∷ l) (variable_why left s x.token))
        (parse_word below N W left due s (x ∷ l) (word_why N W left due s x.token)))
        (λ e. ran_cons (read_node below N W left due s) (CanTerm N W left due s) x l (λ l'. parsed (record { term = any; seen = s }) l')
        (λ at l'. cond_true (same x.token opened) _ _ e) (parsed (record { term = any; seen = s }) l)
        (ran_return (record { term = any; seen = s }) l (ended-rest (λ u. same u opened) x l refl e h)))
        (λ e. choice (Ran (read_node below N W left due s) (CanTerm N W left due s) (x ∷ l)) (is_variable x.token)
        (read_variable due s (x ∷ l) (variable_why left s x.token))
        (parse_word below N W left due s (x ∷ l) (word_why N W left due s x.token))
        (λ v. from-variable v (variable_why left s x.token) refl) (λ v. from-word e v (word_why N W left due s x.token) refl))

  too_deep_lem : (k : ℕ) (s : Seen) (l : List Lexeme) → Lexed l → Ended l →
      Ran (λ l'. fault_at too_deep k l') (CanTerm N W zero k s) l (fault_at {A = TermRead} too_deep k l)
  too_deep_lem k s [] a h = absurd h
  too_deep_lem k s (x ∷ l) a h =
      ran_fault (λ l'. fault_at too_deep k l') (CanTerm N W zero k s) x l (λ at. record { why = too_deep; at = at; of = k }) refl (λ at l'. refl)
      (open_term zero k s)

  pub term_ran : (left due : ℕ) (s : Seen) (l : List Lexeme) → Lexed l → Ended l →
      Ran (parse_term N W left due s) (CanTerm N W left due s) l (parse_term N W left due s l)
  term_ran zero due s [] a h = absurd h
  term_ran zero due s (x ∷ l) a h =
      node_ran (λ k s' l'. fault_at too_deep k l') zero zero (λ z. absurd (omega arith)) (λ k s l b. tt) too_deep_lem due s x l a h
  term_ran (suc left) due s [] a h = absurd h
  term_ran (suc left) due s (x ∷ l) a h =
      node_ran (parse_term N W left) (suc left) left (λ z. refl) (λ k s l b. term-exact K N W named left k s l b) (λ k s l b n. term_ran left k s l b n) due s x l a h
