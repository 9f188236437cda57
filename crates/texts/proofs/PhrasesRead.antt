-- PhrasesRead: the tokens of a good pattern are read as that pattern.
--
--   start                    what was read where a pattern begins: the kind byte is counted
--   root_from, phrase_from     the readers of patterns, over the reader that they call
--   kind-read                the kind of a root that is open or a variable
--   second, third            the second or third of several choices
--   name-count, counted, all_taken    the variables of a good pattern are those that stand in it
--   root-read, rooted        a pattern without label
--   unlabelled, label-read   how a label is told from the pattern
--   tokens-behind            the tokens of what stands behind the first of them
--   phrases_read             any pattern
--
use mathlib.Core.Path.{◌≡◌, refl, sym, ap, subst, ◌∙◌}
use mathlib.Core.Bool.{Bool, true, false, ◌&&◌, cond, and-false}
use mathlib.Core.List.{List, [], ◌∷◌, ◌++◌}
use mathlib.Core.Logic.{inl, inr}
use Prim.Native.Nat.{ℕ, ◌+◌, ◌<◌, ◌≤◌}
use native.Mathlib.Omega.{arith}
use lib.Dec.{leb}
use lib.ListN.{length, take, drop}
use lib.Seq.{take-length}
use borrow.Author.Tests.{lt-ltb, le-leb}
use Rattle.terms.specs.Term.{Term, any, var, app, Terms, nil, cons, Sorted, names}
use Rattle.terms.proofs.All.{all-at}
use Rattle.terms.proofs.Count.{length-range}
use Rattle.terms.proofs.Bools.{and_both}
use Rattle.wire.specs.Vocabulary.{Vocabulary, signature, word}
use Rattle.wire.specs.TermBytes.{most_levels, most_bytes, levels, encode_at}
use Rattle.wire.proofs.Words.{length_symbols, result-word}
use Rattle.wire.proofs.Cond.{cond_true, cond_false}
use Rattle.texts.specs.Lexemes.{Token, Lexeme}
use Rattle.texts.specs.Names.{same, opened, mark, colon, most_name, is_identifier, is_variable, index_in, name_at, IsIdentifier, IsVariable}
use Rattle.texts.specs.Lexicon.{Lexicon, kind_names, word_names, vocabulary_of, GoodLexicon}
use Rattle.texts.specs.Phrases.{phrase_tokens, term_tokens, GoodPhrase}
use Rattle.texts.specs.Faults.{Parsed, parsed, parse_then, token, rest, long_name, pattern_due}
use Rattle.texts.specs.PhraseReading.{Seen, TermRead, PhraseRead, phrase_read, variable_why, read_variable, fault_at, parse_term, read_root_kind, read_root, labelled}
use Rattle.texts.specs.Laws.{tokens_of, PhrasesRead}
use Rattle.texts.proofs.Finding.{index_at}
use Rattle.texts.proofs.Standing.{Stands, tokens_stand, Counts, range-counts}
use Rattle.texts.proofs.Telling.{not_opened, not_variable, variable_not_opened, variable_not_name, Named, lexicon-named, GoodVariables}
use Rattle.texts.proofs.TermsRead.{Below, variable-stands, seen_at, read-term}

abbrev bare : ℕ → Term → List Token → PhraseRead
bare s t vs = record { label = []; kind = s; term = t; variables = vs }

abbrev pub start : Seen
start = record { variables = []; used = 1 }

-- A pattern without label, where `below` reads what begins with a word.
abbrev pub root_from : Below → List Token → List Token → Vocabulary → List Lexeme → Parsed PhraseRead
root_from below K N W l =
    cond (same (token l) opened) (read_root_kind K (record { term = any; seen = start }) (rest l))
    (cond (is_variable (token l)) (parse_then (read_variable 0 start l (variable_why most_levels start (token l))) (read_root_kind K))
    (cond (is_identifier (token l))
    (parse_then (below (word W (index_in (token l) N)).result start l) (λ a r. parsed (phrase_read (word W (index_in (token l) N)).result a) r))
    (fault_at pattern_due 0 l)))

-- Where the tests before it fail, an arm is the one whose test holds.
pub second : {A : Type 0} (p q : Bool) (a b c : A) → p ≡ false → q ≡ true → cond p a (cond q b c) ≡ b
second p q a b c e h = cond_false p a (cond q b c) e ∙ cond_true q b c h

pub third : {A : Type 0} (p q r : Bool) (a b c d : A) → p ≡ false → q ≡ false → r ≡ true → cond p a (cond q b (cond r c d)) ≡ c
third p q r a b c d e h k = cond_false p a (cond q b (cond r c d)) e ∙ second q r b c d h k

module _ (below : Below) (K N : List Token) (W : Vocabulary) (x : Lexeme) (l : List Lexeme) where
  root_open : x.token ≡ opened → root_from below K N W (x ∷ l) ≡ read_root_kind K (record { term = any; seen = start }) l
  root_open e = cond_true (same x.token opened) _ _ (ap (λ (u : Token). same u opened) e)

  root-variable : is_variable x.token ≡ true →
      root_from below K N W (x ∷ l) ≡ parse_then (read_variable 0 start (x ∷ l) (variable_why most_levels start x.token)) (read_root_kind K)
  root-variable e = second (same x.token opened) (is_variable x.token) _ _ _ (variable_not_opened x.token e) e

  root-word : is_identifier x.token ≡ true →
      root_from below K N W (x ∷ l) ≡
      parse_then (below (word W (index_in x.token N)).result start (x ∷ l)) (λ a r. parsed (phrase_read (word W (index_in x.token N)).result a) r)
  root-word e =
      third (same x.token opened) (is_variable x.token) (is_identifier x.token) _ _ _ _
      (not_opened x.token e) (not_variable x.token e) e

module _ (K : List Token) (N : List Token) (W : Vocabulary) (named : Named K N W) where
  kind-read : (s : ℕ) (a : TermRead) (y z : Lexeme) (l r : List Lexeme) → s < W.kinds → y.token ≡ mark colon → z.token ≡ name_at K s → l ≡ r →
      read_root_kind K a (y ∷ z ∷ l) ≡ parsed (phrase_read s a) r
  kind-read s a y z l r h e k q =
      let n = named.kind_count in
      let found : index_in z.token K ≡ s = ap (λ (t : Token). index_in t K) k ∙ index_at K s named.different_kinds (omega arith) in
      let is : IsIdentifier z.token = subst IsIdentifier (sym k) (all-at IsIdentifier [] K named.kinds s (omega arith)) in
      simp (ap (λ (t : Token). same t (mark colon)) e, is.identifier, found, lt-ltb s (length K) (omega arith), q)

module _ (X : Lexicon) (lex : GoodLexicon X) (vs : List Token) (s : ℕ) (t : Term) (good : GoodPhrase X vs s t) where
  named : Named (kind_names X) (word_names X) (vocabulary_of X)
  named = lexicon-named X lex

  good-variables : GoodVariables vs
  good-variables = record { variables = good.variables; different = good.different; few = good.few }

  pub name-count : length (names t) ≡ length vs
  name-count = ap length good.numbered ∙ length-range 0 (length vs)

  all_taken : take (0 + length (names t)) vs ≡ vs
  all_taken = let n = name-count in let e : 0 + length (names t) ≡ length vs = omega arith in ap (λ (n : ℕ). take n vs) e ∙ take-length vs

  pub counted : Counts 0 (names t)
  counted = subst (Counts 0) (sym good.numbered) (range-counts 0 (length vs))

-- ---- a pattern without label, by what stands at its root

no_more : (vs : List Token) → length vs ≡ 0 → vs ≡ []
no_more [] e = refl
no_more (v ∷ vs) e = absurd (omega arith)

module _ (X : Lexicon) (lex : GoodLexicon X) (below : Below)
    (reads : (t : Term) (s : ℕ) (vs : List Token) (r : List Lexeme) → GoodVariables vs → Sorted (signature (vocabulary_of X)) t s → levels t ≤ most_levels →
    1 + length (encode_at (vocabulary_of X) t) ≤ most_bytes → Counts 0 (names t) → 0 + length (names t) ≤ length vs → (l : List Lexeme) →
    Stands (term_tokens (word_names X) vs t) l r →
    below s start l ≡ parsed (record { term = t; seen = seen_at vs (0 + length (names t)) (1 + length (encode_at (vocabulary_of X) t)) }) r) where
  open_read_lem : (vs : List Token) (s : ℕ) → GoodPhrase X vs s any → (x y z : Lexeme) (l r : List Lexeme) →
      Stands (phrase_tokens X vs s any) (x ∷ y ∷ z ∷ l) r →
      root_from below (kind_names X) (word_names X) (vocabulary_of X) (x ∷ y ∷ z ∷ l) ≡ parsed (bare s any vs) r
  open_read_lem vs s good x y z l r e =
      let empty : vs ≡ [] = no_more vs (sym (name-count X lex vs s any good)) in
      root_open below (kind_names X) (word_names X) (vocabulary_of X) x (y ∷ z ∷ l) e.0
      ∙ (kind-read (kind_names X) (word_names X) (vocabulary_of X) (lexicon-named X lex) s (record { term = any; seen = start }) y z l r
      good.term.good.kind e.1.0 e.1.1.0 e.1.1.1
      ∙ ap (λ (w : List Token). parsed (bare s any w) r) (sym empty))

  variable-read : (v : Token) (n s : ℕ) → GoodPhrase X (v ∷ []) s (var n) → (x y z : Lexeme) (l r : List Lexeme) →
      Stands (phrase_tokens X (v ∷ []) s (var n)) (x ∷ y ∷ z ∷ l) r →
      root_from below (kind_names X) (word_names X) (vocabulary_of X) (x ∷ y ∷ z ∷ l) ≡ parsed (bare s (var n) (v ∷ [])) r
  variable-read v n s good x y z l r e =
      let first : n ≡ 0 = (counted X lex (v ∷ []) s (var n) good).0 in
      let is-v : x.token ≡ v = e.0 ∙ ap (name_at (v ∷ [])) first in
      let is : IsVariable x.token = subst IsVariable (sym is-v) good.variables.0 in
      let why : variable_why most_levels start x.token ≡ 0 =
      variable-stands most_levels start x.token is.short refl (omega arith) (omega arith) (omega arith) in
      root-variable below (kind_names X) (word_names X) (vocabulary_of X) x (y ∷ z ∷ l) is.variable
      ∙ (ap (λ (w : ℕ). parse_then (read_variable 0 start (x ∷ y ∷ z ∷ l) w) (read_root_kind (kind_names X))) why
      ∙ kind-read (kind_names X) (word_names X) (vocabulary_of X) (lexicon-named X lex) s
      (record { term = var 0; seen = record { variables = x.token ∷ []; used = 1 + 1 } }) y z l r
      good.term.good.kind e.1.0 e.1.1.0 e.1.1.1
      ∙ rw (is-v, ← first))

  word_read_lem : (vs : List Token) (s f : ℕ) (ts : Terms) → GoodPhrase X vs s (app f ts) → (x : Lexeme) (l r : List Lexeme) →
      Stands (phrase_tokens X vs s (app f ts)) (x ∷ l) r →
      root_from below (kind_names X) (word_names X) (vocabulary_of X) (x ∷ l) ≡ parsed (bare s (app f ts) vs) r
  word_read_lem vs s f ts good x l r e =
      let N : List Token = word_names X in
      let W : Vocabulary = vocabulary_of X in
      let nm : Named (kind_names X) N W = lexicon-named X lex in
      let sorted = good.term.good.sorted.sorted in
      let lim = good.term.limits in
      let c₁ = nm.count in
      let c₂ = length_symbols W in
      let f< = sorted.0 in
      let known : f < length N = omega arith in
      let found : index_in x.token N ≡ f = ap (λ (z : Token). index_in z N) e.0 ∙ index_at N f nm.different known in
      let is : IsIdentifier x.token = subst IsIdentifier (sym e.0) (all-at IsIdentifier [] N nm.words f known) in
      let due : (word W (index_in x.token N)).result ≡ s = ap (λ (g : ℕ). (word W g).result) found ∙ sym (result-word W f) ∙ sorted.1 in
      let count = name-count X lex vs s (app f ts) good in
      root-word below (kind_names X) N W x l is.identifier
      ∙ (ap (λ (k : ℕ). parse_then (below k start (x ∷ l)) (λ a r. parsed (phrase_read k a) r)) due
      ∙ ap (λ (z : Parsed TermRead). parse_then z (λ a r. parsed (phrase_read s a) r))
      (reads (app f ts) s vs r (good-variables X lex vs s (app f ts) good) sorted (omega arith)
      (omega arith) (counted X lex vs s (app f ts) good) (omega arith) (x ∷ l) e)
      ∙ ap (λ (w : List Token). parsed (bare s (app f ts) w) r) (all_taken X lex vs s (app f ts) good))

  root-read : (t : Term) (vs : List Token) (s : ℕ) → GoodPhrase X vs s t → (l r : List Lexeme) → Stands (phrase_tokens X vs s t) l r →
      root_from below (kind_names X) (word_names X) (vocabulary_of X) l ≡ parsed (bare s t vs) r
  root-read any vs s good [] r e = absurd e
  root-read any vs s good (x ∷ []) r e = absurd e.1
  root-read any vs s good (x ∷ y ∷ []) r e = absurd e.1.1
  root-read any vs s good (x ∷ y ∷ z ∷ l) r e = open_read_lem vs s good x y z l r e
  root-read (var n) vs s good [] r e = absurd e
  root-read (var n) vs s good (x ∷ []) r e = absurd e.1
  root-read (var n) vs s good (x ∷ y ∷ []) r e = absurd e.1.1
  root-read (var n) [] s good (x ∷ y ∷ z ∷ l) r e = let c = name-count X lex [] s (var n) good in absurd (omega arith)
  root-read (var n) (v ∷ []) s good (x ∷ y ∷ z ∷ l) r e = variable-read v n s good x y z l r e
  root-read (var n) (v ∷ w ∷ vs) s good (x ∷ y ∷ z ∷ l) r e = let c = name-count X lex (v ∷ w ∷ vs) s (var n) good in absurd (omega arith)
  root-read (app f ts) vs s good [] r e = absurd e
  root-read (app f ts) vs s good (x ∷ l) r e = word_read_lem vs s f ts good x l r e

pub rooted : (X : Lexicon) → GoodLexicon X → (t : Term) (vs : List Token) (s : ℕ) → GoodPhrase X vs s t → (l r : List Lexeme) →
    Stands (phrase_tokens X vs s t) l r → read_root (kind_names X) (word_names X) (vocabulary_of X) l ≡ parsed (bare s t vs) r
rooted X lex t vs s good l r e =
    root-read X lex (parse_term (word_names X) (vocabulary_of X) most_levels)
    (λ t s vs r gv h d b c k l e. read-term (kind_names X) (word_names X) (vocabulary_of X) (lexicon-named X lex) vs gv t most_levels s 0 1 l r h d b c k e)
    t vs s good l r e

-- ---- labels

-- A pattern, where `root` reads it without label.
abbrev pub phrase_from : (List Lexeme → Parsed PhraseRead) → List Lexeme → Parsed PhraseRead
phrase_from root l =
    cond (is_identifier (token l) && same (token (rest l)) (mark colon))
    (cond (leb (length (token l)) most_name) (parse_then (root (rest (rest l))) (λ p r. parsed (labelled (token l) p) r)) (fault_at long_name 0 l)) (root l)

-- What stands behind a pattern is no colon, so the pattern's first token is no label.
unlabelled : (X : Lexicon) → GoodLexicon X → (t : Term) (vs : List Token) (s : ℕ) → GoodPhrase X vs s t → (l r : List Lexeme) →
    Stands (phrase_tokens X vs s t) l r → same (token r) (mark colon) ≡ false →
    (is_identifier (token l) && same (token (rest l)) (mark colon)) ≡ false
unlabelled X lex any vs s good [] r e c = absurd e
unlabelled X lex any vs s good (x ∷ l) r e c = ap (λ (u : Token). is_identifier u && same (token l) (mark colon)) e.0
unlabelled X lex (var n) vs s good [] r e c = absurd e
unlabelled X lex (var n) vs s good (x ∷ l) r e c =
    let first : n ≡ 0 = (counted X lex vs s (var n) good).0 in
    let count = name-count X lex vs s (var n) good in
    let is : IsVariable x.token = subst IsVariable (sym e.0) (all-at IsVariable [] vs good.variables n (omega arith)) in
    ap (λ (b : Bool). b && same (token l) (mark colon)) (variable_not_name x.token is.variable)
unlabelled X lex (app f nil) vs s good [] r e c = absurd e
unlabelled X lex (app f nil) vs s good (x ∷ l) r e c =
    ap (λ (b : Bool). is_identifier x.token && b) (ap (λ (z : List Lexeme). same (token z) (mark colon)) e.1 ∙ c) ∙ and-false (is_identifier x.token)
unlabelled X lex (app f (cons t ts)) vs s good [] r e c = absurd e
unlabelled X lex (app f (cons t ts)) vs s good (x ∷ []) r e c = absurd e.1
unlabelled X lex (app f (cons t ts)) vs s good (x ∷ y ∷ l) r e c =
    ap (λ (u : Token). is_identifier x.token && same u (mark colon)) e.1.0 ∙ and-false (is_identifier x.token)

pub tokens-behind : (us : List Token) (l : List Lexeme) (q : List Token) → tokens_of l ≡ us ++ q → tokens_of (drop (length us) l) ≡ q
tokens-behind [] l q e = e
tokens-behind (u ∷ us) [] q e = let z : ◌≡◌ {A = ℕ} 0 1 = cc in absurd (omega arith)
tokens-behind (u ∷ us) (x ∷ l) q e = tokens-behind us l q (cc)

first-token : (l r : List Lexeme) → tokens_of l ≡ tokens_of r → token l ≡ token r
first-token [] [] e = refl
first-token [] (y ∷ r) e = let z : ◌≡◌ {A = ℕ} 0 1 = cc in absurd (omega arith)
first-token (x ∷ l) [] e = let z : ◌≡◌ {A = ℕ} 0 1 = cc in absurd (omega arith)
first-token (x ∷ l) (y ∷ r) e = cc

-- A label with its colon, then a pattern that is read.
label-read : (root : List Lexeme → Parsed PhraseRead) (u : Token) (p : PhraseRead) (l r : List Lexeme) → IsIdentifier u →
    Stands (u ∷ mark colon ∷ []) l (rest (rest l)) → root (rest (rest l)) ≡ parsed p r → phrase_from root l ≡ parsed (labelled u p) r
label-read root u p [] r is e h = absurd e
label-read root u p (x ∷ []) r is e h = absurd e.1
label-read root u p (x ∷ y ∷ l) r is e h =
    let i : is_identifier x.token ≡ true = ap is_identifier e.0 ∙ is.identifier in
    let c : same y.token (mark colon) ≡ true = ap (λ (z : Token). same z (mark colon)) e.1.0 in
    let n : length x.token ≤ most_name = subst (λ (z : Token). length z ≤ most_name) (sym e.0) is.short in
    cond_true (is_identifier x.token && same y.token (mark colon)) _ (root (x ∷ y ∷ l)) (and_both _ _ i c)
    ∙ cond_true (leb (length x.token) most_name) _ (fault_at long_name 0 (x ∷ y ∷ l)) (le-leb (length x.token) most_name n)
    ∙ ap (λ (z : Parsed PhraseRead). parse_then z (λ p r. parsed (labelled x.token p) r)) h
    ∙ ap (λ (z : Token). parsed (labelled z p) r) e.0

pub phrases_read : PhrasesRead
phrases_read X [] vs s t l r lex label good e c =
    let us : List Token = phrase_tokens X vs s t in
    let stands = tokens_stand us l (tokens_of r) e in
    let behind : token (drop (length us) l) ≡ token r = first-token (drop (length us) l) r (tokens-behind us l (tokens_of r) e) in
    cond_false (is_identifier (token l) && same (token (rest l)) (mark colon)) _ (read_root (kind_names X) (word_names X) (vocabulary_of X) l)
    (unlabelled X lex t vs s good l (drop (length us) l) stands (ap (λ (z : Token). same z (mark colon)) behind ∙ c))
    ∙ rooted X lex t vs s good l (drop (length us) l) stands
phrases_read X (b ∷ u) vs s t l r lex (inl z) good e c = let z : ◌≡◌ {A = ℕ} 0 1 = cc in absurd (omega arith)
phrases_read X (b ∷ u) vs s t [] r lex (inr is) good e c = let z : ◌≡◌ {A = ℕ} 0 1 = cc in absurd (omega arith)
phrases_read X (b ∷ u) vs s t (x ∷ []) r lex (inr is) good e c = let z : ◌≡◌ {A = ℕ} 0 1 = cc in absurd (omega arith)
phrases_read X (b ∷ u) vs s t (x ∷ y ∷ l) r lex (inr is) good e c =
    let us : List Token = phrase_tokens X vs s t in
    label-read (read_root (kind_names X) (word_names X) (vocabulary_of X)) (b ∷ u) (bare s t vs) (x ∷ y ∷ l) (drop (length us) l) is (cc, (cc, refl))
    (rooted X lex t vs s good l (drop (length us) l) (tokens_stand us l (tokens_of r) (cc)))
