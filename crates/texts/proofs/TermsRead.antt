-- TermsRead: the tokens of a term are read as that term.
--
--   Below                     a reader of the terms of the places
--   below_of N W left          what reads the terms of the places where `left` levels are left
--   term-node                 a term is read off its first token
--   node_open, node-variable, node-word     what is read where _, a variable or a word stands
--   variable-stands, word_stands            a variable, or a word, that may stand there
--   seen_at vs m u             the first m of the variables vs were read, and u bytes
--   read-term, read-places    the tokens of a term, of the terms of a word's places
--
use mathlib.Core.Path.{◌≡◌, refl, sym, ap, subst, ◌∙◌}
use mathlib.Core.Bool.{true, false}
use mathlib.Core.List.{List, [], ◌∷◌, ◌++◌}
use Prim.Native.Nat.{ℕ, zero, suc, ◌+◌, ◌<◌, ◌≤◌}
use native.Mathlib.Numerals.{add-one}
use native.Mathlib.Omega.{arith}
use lib.Dec.{ltb}
use lib.ListN.{length, take, length-append}
use lib.Seq.{take-suc, length-take-le}
use borrow.Author.Tests.{lt-ltb, le-leb, eq-eqb, ne_eqb}
use Rattle.terms.specs.Term.{Term, any, var, app, Terms, nil, cons, Sorted, SortedAll, names, names_all}
use Rattle.terms.proofs.All.{all-at}
use Rattle.wire.specs.Vocabulary.{Vocabulary, signature, word}
use Rattle.wire.specs.TermBytes.{encode_at, encode_all, levels, levels_all, name_count, most_bytes}
use Rattle.wire.proofs.Words.{length_symbols, result-word, arguments-word}
use Rattle.wire.proofs.Cond.{cond_true}
use Rattle.texts.specs.Lexemes.{Token, Lexeme}
use Rattle.texts.specs.Names.{same, opened, mark, opening, closing, comma, most_name, is_identifier, is_variable, index_in, name_at, IsIdentifier, IsVariable}
use Rattle.texts.specs.Phrases.{term_tokens, places_tokens, bracketed}
use Rattle.texts.specs.Faults.{Parsed, parsed, parse_then, places_wrong, places_over, too_deep}
use Rattle.texts.specs.PhraseReading.{Seen, TermRead, TermsRead, word_bytes, word_why, variable_why, fault_at, put_first, parse_places, read_behind, parse_word, read_variable, read_node, parse_term}
use Rattle.texts.proofs.Finding.{index_at, new-name, same_refl}
use Rattle.texts.proofs.Standing.{Stands, stands_split, Counts, counts_split}
use Rattle.texts.proofs.Telling.{not_opened, not_variable, variable_not_opened, Named, GoodVariables}

abbrev pub Below : Type 0
Below = ℕ → Seen → List Lexeme → Parsed TermRead

abbrev pub below_of : List Token → Vocabulary → ℕ → Below
below_of N W zero k s l = fault_at too_deep k l
below_of N W (suc left) k s l = parse_term N W left k s l

pub term-node : (N : List Token) (W : Vocabulary) (left due : ℕ) (s : Seen) (l : List Lexeme) →
    parse_term N W left due s l ≡ read_node (below_of N W left) N W left due s l
term-node N W zero due s l = refl
term-node N W (suc left) due s l = refl

module _ (below : Below) (N : List Token) (W : Vocabulary) (left due : ℕ) (s : Seen) (x : Lexeme) (l : List Lexeme) where
  pub node_open : x.token ≡ opened → read_node below N W left due s (x ∷ l) ≡ parsed (record { term = any; seen = s }) l
  node_open e = simp (ap (λ (u : Token). same u opened) e)

  pub node-variable : is_variable x.token ≡ true →
      read_node below N W left due s (x ∷ l) ≡ read_variable due s (x ∷ l) (variable_why left s x.token)
  node-variable e = simp (variable_not_opened x.token e, e)

  pub node-word : is_identifier x.token ≡ true →
      read_node below N W left due s (x ∷ l) ≡ parse_word below N W left due s (x ∷ l) (word_why N W left due s x.token)
  node-word e = simp (not_opened x.token e, not_variable x.token e)

module _ (left : ℕ) (s : Seen) (u : Token) where
  pub variable-stands : length u ≤ suc most_name → ltb (index_in u s.variables) (length s.variables) ≡ false → 1 ≤ left →
      length s.variables < name_count → s.used + 1 ≤ most_bytes → variable_why left s u ≡ 0
  variable-stands a b c d e = simp (le-leb (length u) (suc most_name) a, b, ne_eqb left 0 (λ z. omega arith), lt-ltb (length s.variables) name_count d, le-leb (s.used + 1) most_bytes e)

  pub word_stands : (N : List Token) (W : Vocabulary) (due : ℕ) → is_identifier u ≡ true → index_in u N < length N →
      (word W (index_in u N)).result ≡ due → 1 ≤ left → s.used + word_bytes ≤ most_bytes → word_why N W left due s u ≡ 0
  word_stands N W due a b c d e = simp (a, lt-ltb (index_in u N) (length N) b, eq-eqb (word W (index_in u N)).result due c, ne_eqb left 0 (λ z. omega arith), le-leb (s.used + word_bytes) most_bytes e)

-- ---- a term, where the variables are known

abbrev pub seen_at : List Token → ℕ → ℕ → Seen
seen_at vs m u = record { variables = take m vs; used = u }

abbrev open_read : Seen → TermRead
open_read s = record { term = any; seen = s }

abbrev as_read : Terms → Seen → TermsRead
as_read ts s = record { terms = ts; seen = s }

same_end : {A : Type 0} (made : Seen → A) (vs : List Token) (m n u v : ℕ) (l r : List Lexeme) → m ≡ n → u ≡ v → l ≡ r →
    parsed (made (seen_at vs m u)) l ≡ parsed (made (seen_at vs n v)) r
same_end made vs m n u v l r p q e = rw (p, q, e)

module _ (K N : List Token) (W : Vocabulary) (named : Named K N W) (vs : List Token) (good : GoodVariables vs) where
  variable-read : (n left s m u : ℕ) (x : Lexeme) (l r : List Lexeme) → 1 ≤ left → u + 1 ≤ most_bytes → n ≡ m → m + 1 ≤ length vs →
      x.token ≡ name_at vs n → l ≡ r →
      parse_term N W left s (seen_at vs m u) (x ∷ l) ≡ parsed (record { term = var n; seen = seen_at vs (m + 1) (u + 1) }) r
  variable-read n left s m u x l r d b c k e h =
      let few = good.few in
      let size : length (take m vs) ≡ m = length-take-le m vs (omega arith) in
      let e' : x.token ≡ name_at vs m = e ∙ ap (name_at vs) c in
      let is : IsVariable x.token = subst IsVariable (sym e') (all-at IsVariable [] vs good.variables m (omega arith)) in
      let new : ltb (index_in x.token (take m vs)) (length (take m vs)) ≡ false =
      ap (λ (z : Token). ltb (index_in z (take m vs)) (length (take m vs))) e' ∙ new-name vs m good.different (omega arith) in
      let grown : take (m + 1) vs ≡ take m vs ++ (x.token ∷ []) =
      ap (λ (z : ℕ). take z vs) (add-one m) ∙ take-suc vs m [] (omega arith) ∙ ap (λ (z : Token). take m vs ++ (z ∷ [])) (sym e') in
      term-node N W left s (seen_at vs m u) (x ∷ l)
      ∙ node-variable (below_of N W left) N W left s (seen_at vs m u) x l is.variable
      ∙ ap (read_variable s (seen_at vs m u) (x ∷ l)) (variable-stands left (seen_at vs m u) x.token is.short new d (omega arith) b)
      ∙ rw (size, c, grown, h)

  -- The terms of a word's places are read, so the word is.
  word_read_lem : (f : ℕ) (ts : Terms) (left s : ℕ) (seen seen' : Seen) (x : Lexeme) (l r : List Lexeme) → f < length N →
      (word W f).result ≡ s → seen.used + word_bytes ≤ most_bytes → x.token ≡ name_at N f →
      read_behind (parse_term N W left) f (word W f).kinds (record { variables = seen.variables; used = seen.used + word_bytes }) l
      ≡ parsed (record { terms = ts; seen = seen' }) r →
      parse_term N W (suc left) s seen (x ∷ l) ≡ parsed (record { term = app f ts; seen = seen' }) r
  word_read_lem f ts left s seen seen' x l r known due b e h =
      let found : index_in x.token N ≡ f = ap (λ (z : Token). index_in z N) e ∙ index_at N f named.different known in
      let is : IsIdentifier x.token = subst IsIdentifier (sym e) (all-at IsIdentifier [] N named.words f known) in
      node-word (parse_term N W left) N W (suc left) s seen x l is.identifier
      ∙ ap (parse_word (parse_term N W left) N W (suc left) s seen (x ∷ l))
      (word_stands (suc left) seen x.token N W s is.identifier (subst (λ (g : ℕ). g < length N) (sym found) known)
      (ap (λ (g : ℕ). (word W g).result) found ∙ due) (omega arith) b)
      ∙ ap (λ (g : ℕ). parse_then
      (read_behind (parse_term N W left) g (word W g).kinds (record { variables = seen.variables; used = seen.used + word_bytes }) l)
      (λ ts r. parsed (record { term = app g ts.terms; seen = ts.seen }) r)) found
      ∙ ap (λ (z : Parsed TermsRead). parse_then z (λ ts r. parsed (record { term = app f ts.terms; seen = ts.seen }) r)) h

  -- A word without places has no parentheses behind it.
  behind-read : (ts : Terms) (left f m u : ℕ) (ks : List ℕ) (l r : List Lexeme) → SortedAll (signature W) ts ks →
      (Stands (places_tokens N vs opening ts) l r →
      parse_places (parse_term N W left) f opening ks (seen_at vs m u) l
      ≡ parsed (as_read ts (seen_at vs (m + length (names_all ts)) (u + length (encode_all W ts)))) r) →
      Stands (bracketed ts (places_tokens N vs opening ts)) l r →
      read_behind (parse_term N W left) f ks (seen_at vs m u) l
      ≡ parsed (as_read ts (seen_at vs (m + length (names_all ts)) (u + length (encode_all W ts)))) r
  behind-read nil left f m u [] l r h all e = same_end (as_read nil) vs m (m + 0) u (u + 0) l r (omega arith) (omega arith) e
  behind-read nil left f m u (i ∷ ks) l r h all e = absurd h
  behind-read (cons t ts) left f m u [] l r h all e = absurd h
  behind-read (cons t ts) left f m u (i ∷ ks) l r h all e = all e

  mutual
    pub read-term : (t : Term) (left s m u : ℕ) (l r : List Lexeme) → Sorted (signature W) t s → levels t ≤ left →
        u + length (encode_at W t) ≤ most_bytes → Counts m (names t) → m + length (names t) ≤ length vs → Stands (term_tokens N vs t) l r →
        parse_term N W left s (seen_at vs m u) l
        ≡ parsed (record { term = t; seen = seen_at vs (m + length (names t)) (u + length (encode_at W t)) }) r
    read-term any left s m u [] r h d b c k e = absurd e
    read-term any left s m u (x ∷ l) r h d b c k e =
        term-node N W left s (seen_at vs m u) (x ∷ l)
        ∙ node_open (below_of N W left) N W left s (seen_at vs m u) x l e.0
        ∙ same_end open_read vs m (m + 0) u (u + 0) l r (omega arith) (omega arith) e.1
    read-term (var n) left s m u [] r h d b c k e = absurd e
    read-term (var n) left s m u (x ∷ l) r h d b c k e = variable-read n left s m u x l r d b c.0 k e.0 e.1
    read-term (app f ts) zero s m u l r h d b c k e = absurd (omega arith)
    read-term (app f ts) (suc left) s m u [] r h d b c k e = absurd e
    read-term (app f ts) (suc left) s m u (x ∷ l) r h d b c k e =
        let n = length_symbols W in
        let n' = named.count in
        let f< = h.0 in
        let sorted : SortedAll (signature W) ts (word W f).kinds = subst (SortedAll (signature W) ts) (arguments-word W f) h.2 in
        let bytes : (u + word_bytes) + length (encode_all W ts) ≡ u + length (encode_at W (app f ts)) = omega arith in
        word_read_lem f ts left s (seen_at vs m u) (seen_at vs (m + length (names_all ts)) (u + length (encode_at W (app f ts)))) x l r (omega arith)
        (sym (result-word W f) ∙ h.1) (omega arith) e.0
        (behind-read ts left f m (u + word_bytes) (word W f).kinds l r sorted
        (λ z. read-places ts left f opening m (u + word_bytes) (word W f).kinds l r sorted (omega arith) (omega arith) c k z) e.1
        ∙ ap (λ (z : ℕ). parsed (record { terms = ts; seen = seen_at vs (m + length (names_all ts)) z }) r) bytes)

    pub read-places : (ts : Terms) (left f o m u : ℕ) (ks : List ℕ) (l r : List Lexeme) → SortedAll (signature W) ts ks → levels_all ts ≤ left →
        u + length (encode_all W ts) ≤ most_bytes → Counts m (names_all ts) → m + length (names_all ts) ≤ length vs →
        Stands (places_tokens N vs o ts) l r →
        parse_places (parse_term N W left) f o ks (seen_at vs m u) l
        ≡ parsed (record { terms = ts; seen = seen_at vs (m + length (names_all ts)) (u + length (encode_all W ts)) }) r
    read-places nil left f o m u (i ∷ ks) l r h d b c k e = absurd h
    read-places nil left f o m u [] [] r h d b c k e = absurd e
    read-places nil left f o m u [] (x ∷ l) r h d b c k e =
        cond_true (same x.token (mark closing)) (parsed (record { terms = nil; seen = seen_at vs m u }) l) (fault_at places_over f (x ∷ l))
        (ap (λ (z : Token). same z (mark closing)) e.0)
        ∙ same_end (as_read nil) vs m (m + 0) u (u + 0) l r (omega arith) (omega arith) e.1
    read-places (cons t ts) left f o m u [] l r h d b c k e = absurd h
    read-places (cons t ts) left f o m u (i ∷ ks) [] r h d b c k e = absurd e
    read-places (cons t ts) left f o m u (i ∷ ks) (x ∷ l) r h d b c k e =
        let cut = stands_split (term_tokens N vs t) (places_tokens N vs comma ts) l r e.1 in
        let size = length-append (encode_at W t) (encode_all W ts) in
        let count = length-append (names t) (names_all ts) in
        let counts = counts_split m (names t) (names_all ts) c in
        let m' : ℕ = m + length (names t) in
        let u' : ℕ = u + length (encode_at W t) in
        cond_true (same x.token (mark o))
        (parse_then (parse_term N W left i (seen_at vs m u) l)
        (λ a r. parse_then (parse_places (parse_term N W left) f comma ks a.seen r) (λ ts r'. parsed (put_first a.term ts) r')))
        (fault_at places_wrong f (x ∷ l)) (ap (λ (z : Token). same z (mark o)) e.0 ∙ same_refl (mark o))
        ∙ ap (λ (z : Parsed TermRead). parse_then z
        (λ a r. parse_then (parse_places (parse_term N W left) f comma ks a.seen r) (λ ts r'. parsed (put_first a.term ts) r')))
        (read-term t left i m u l cut.0 h.0 (omega arith) (omega arith) counts.0 (omega arith) cut.1)
        ∙ ap (λ (z : Parsed TermsRead). parse_then z (λ ts r'. parsed (put_first t ts) r'))
        (read-places ts left f comma m' u' ks cut.0 r h.1 (omega arith) (omega arith) counts.1 (omega arith) cut.2)
        ∙ same_end (as_read (cons t ts)) vs (m' + length (names_all ts)) (m + length (names_all (cons t ts)))
        (u' + length (encode_all W ts)) (u + length (encode_all W (cons t ts))) r r (omega arith) (omega arith) refl
