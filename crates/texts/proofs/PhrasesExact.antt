-- PhrasesExact: what is read as a pattern is a good one, and its tokens are those that were read.
--
--   consistent-once          where no name stands twice each has one kind
--   RootExact, Exact         what it means to have read a pattern, without its label or with it
--   open_good, variable-root, word_good    the pattern is good, by what stands at its root
--   word-root                a pattern that begins with a word
--   kind-exact               the kind of a root that is open or a variable
--   root-exact               a pattern without label
--   label-tokens             a label and its colon
--   phrases_exact            any pattern
--
use mathlib.Core.Path.{◌≡◌, refl, sym, ap, subst, ◌∙◌}
use mathlib.Core.Bool.{true, false, ◌&&◌, true≢false, false≢true}
use mathlib.Core.List.{List, [], ◌∷◌, ◌++◌, map, append_assoc, append-nil}
use mathlib.Core.Logic.{inl, inr}
use Prim.Native.Nat.{ℕ, zero, suc, ◌+◌, ◌<◌, ◌≤◌}
use native.Mathlib.Omega.{arith}
use lib.Dec.{ltb, leb}
use lib.ListN.{length}
use borrow.Author.Tests.{ltb-true, leb-true}
use Rattle.terms.specs.Lists.{All, NoneTwice, range}
use Rattle.terms.specs.Term.{Term, any, var, app, Terms, Sorted, Occurrence, occurrences, Consistent, names}
use Rattle.terms.proofs.All.{all-at, all_implies, all_both, all-range}
use Rattle.terms.proofs.Bools.{and_parts}
use Rattle.terms.proofs.Occurs.{all-other, none_twice_range}
use Rattle.terms.proofs.Term.{names-occurrences}
use Rattle.wire.specs.Vocabulary.{Word, Vocabulary, signature, word, no_word}
use Rattle.wire.specs.TermBytes.{most_levels, most_bytes, levels, encode_at, name_count}
use Rattle.wire.proofs.Words.{length_symbols, result-word}
use Rattle.wire.proofs.Seen.{Agree}
use Rattle.wire.proofs.Cond.{choice}
use Rattle.texts.specs.Lexemes.{Token, Lexeme}
use Rattle.texts.specs.Names.{same, opened, mark, colon, most_name, is_identifier, is_variable, index_in, name_at, IsIdentifier, IsVariable}
use Rattle.texts.specs.Lexicon.{Lexicon, kind_names, word_names, vocabulary_of, GoodLexicon}
use Rattle.texts.specs.Phrases.{IsLabel, label_tokens, phrase_tokens, term_tokens, GoodPhrase}
use Rattle.texts.specs.Faults.{Parsed, parsed, bad, parse_then, long_name, pattern_due, not_declared, place_due, colon_due}
use Rattle.texts.specs.PhraseReading.{TermRead, PhraseRead, phrase_read, variable_why, fault_at, read_variable, parse_term, read_root_kind, read_root, labelled}
use Rattle.texts.specs.Laws.{tokens_of, PhrasesExact}
use Rattle.texts.proofs.Finding.{same-exact, at-index}
use Rattle.texts.proofs.Standing.{Stands, stands-tokens, Counts, counts-range}
use Rattle.texts.proofs.Telling.{not_opened, not_variable, Named, lexicon-named, GoodVariables}
use Rattle.texts.proofs.TermsRead.{Below}
use Rattle.texts.proofs.PhrasesRead.{start, root_from, phrase_from}
use Rattle.texts.proofs.Fitting.{Lexed, identifier-good, variable-good, variable-fits}
use Rattle.texts.proofs.TermsExact.{Reads, term-exact}

consistent-once : (l : List Occurrence) → NoneTwice (map (λ (o : Occurrence). o.name) l) → Consistent l
consistent-once [] h = tt
consistent-once (o ∷ l) h =
    let others : All (λ (x : Occurrence). o.name ≡ x.name → ⊥) l = all-other (λ (o : Occurrence). o.name) o.name l h.0 in (
      ((λ e. refl), all_implies (λ (x : Occurrence). o.name ≡ x.name → ⊥) (Agree o) (λ x n e. absurd (n e)) l others),
      all_implies (λ (x : Occurrence). (o.name ≡ x.name → ⊥) × All (Agree x) l) (λ (x : Occurrence). Agree x o × All (Agree x) l)
          (λ x k. ((λ e. absurd (k.0 (sym e))), k.1)) l
          (all_both (λ (x : Occurrence). o.name ≡ x.name → ⊥) (λ (x : Occurrence). All (Agree x) l) l others (consistent-once l h.1)),
    )

abbrev pub RootExact : Lexicon → List Lexeme → Parsed PhraseRead → Type 0
RootExact X l (parsed p r) =
    (p.label ≡ []) × GoodPhrase X p.variables p.kind p.term × Stands (phrase_tokens X p.variables p.kind p.term) l r
RootExact X l (bad x) = Unit {0}

abbrev pub Exact : Lexicon → List Lexeme → Parsed PhraseRead → Type 0
Exact X l (parsed p r) =
    IsLabel p.label × GoodPhrase X p.variables p.kind p.term
    × Stands (label_tokens p.label ++ phrase_tokens X p.variables p.kind p.term) l r
Exact X l (bad x) = Unit {0}

module _ (X : Lexicon) (s : ℕ) (known : s < length X) where
  pub open_good : GoodPhrase X [] s any
  open_good = record {
    term = record {
      good = record { kind = known; sorted = record { sorted = tt; consistent = tt }; named = tt };
      written = refl;
      limits = record { least = omega arith; most = omega arith; levels = omega arith };
    };
    numbered = refl;
    variables = tt;
    different = tt;
    few = omega arith;
  }

  pub variable-root : (u : Token) → IsVariable u → GoodPhrase X (u ∷ []) s (var 0)
  variable-root u is = record {
    term = record {
      good = record { kind = known; sorted = record { sorted = tt; consistent = (((λ e. refl), tt), tt) }; named = (omega arith, tt) };
      written = refl;
      limits = record { least = omega arith; most = omega arith; levels = omega arith };
    };
    numbered = refl;
    variables = (is, tt);
    different = (refl, tt);
    few = omega arith;
  }

-- ---- a word at the root

module _ (X : Lexicon) (named : Named (kind_names X) (word_names X) (vocabulary_of X)) (s : ℕ) (vs : List Token) (x : Lexeme) (l r : List Lexeme)
    (name : is_identifier x.token ≡ true) (gv : GoodVariables vs) where
  numbered-good : (f : ℕ) (ts : Terms) → Sorted (signature (vocabulary_of X)) (app f ts) s → levels (app f ts) ≤ most_levels →
      1 + length (encode_at (vocabulary_of X) (app f ts)) ≤ most_bytes → names (app f ts) ≡ range 0 (length vs) → GoodPhrase X vs s (app f ts)
  numbered-good f ts h d b n =
      let W : Vocabulary = vocabulary_of X in
      let f< : f < length W.words = subst (λ (m : ℕ). f < m) (length_symbols W) h.0 in
      let few = gv.few in
      record {
        term = record {
          good = record {
            kind =
                subst (λ (k : ℕ). k < W.kinds) (sym (result-word W f) ∙ h.1)
                (all-at (λ (w : Word). w.result < W.kinds) no_word W.words named.results f f<);
            sorted = record {
              sorted = h;
              consistent =
                  consistent-once (occurrences (signature W) (app f ts) s)
                  (subst NoneTwice (sym (names-occurrences (signature W) (app f ts) s h ∙ n)) (none_twice_range 0 (length vs)));
            };
            named =
                subst (All (λ k. k < name_count)) (sym n)
                (all_implies (λ k. k < 0 + length vs) (λ k. k < name_count) (λ k q. omega arith) (range 0 (length vs)) (all-range 0 (length vs)));
          };
          written = refl;
          limits = record { least = omega arith; most = omega arith; levels = omega arith };
        };
        numbered = n;
        variables = gv.variables;
        different = gv.different;
        few = gv.few;
      }

  -- A name begins neither an open place nor a variable, so a word stands there.
  word_good : (t : Term) → Sorted (signature (vocabulary_of X)) t s → levels t ≤ most_levels → 1 + length (encode_at (vocabulary_of X) t) ≤ most_bytes →
      Counts 0 (names t) → length (names t) ≡ length vs → Stands (term_tokens (word_names X) vs t) (x ∷ l) r →
      GoodPhrase X vs s t × Stands (phrase_tokens X vs s t) (x ∷ l) r
  word_good any h d b c n e =
      absurd (true≢false (sym (ap (λ (u : Token). same u opened) e.0) ∙ not_opened x.token name))
  word_good (var i) h d b c n e =
      let first : i ≡ 0 = c.0 in
      let is : IsVariable x.token = subst IsVariable (sym e.0) (all-at IsVariable [] vs gv.variables i (omega arith)) in
      absurd (true≢false (sym is.variable ∙ not_variable x.token name))
  word_good (app f ts) h d b c n e =
      (numbered-good f ts h d b (counts-range 0 (names (app f ts)) c ∙ ap (range 0) n), e)

-- ---- a pattern without label

none_good : GoodVariables []
none_good = record { variables = tt; different = tt; few = omega arith }

module _ (X : Lexicon) (named : Named (kind_names X) (word_names X) (vocabulary_of X)) where
  -- The kind behind a root that is open or a variable.
  kind-exact : (a : TermRead) (x : Lexeme) (l : List Lexeme) →
      ((k : ℕ) (y z : Lexeme) (r : List Lexeme) → k < length X → y.token ≡ mark colon → z.token ≡ name_at (kind_names X) k →
      RootExact X (x ∷ y ∷ z ∷ r) (parsed (phrase_read k a) r)) →
      RootExact X (x ∷ l) (read_root_kind (kind_names X) a l)
  kind-exact a x [] h = tt
  kind-exact a x (y ∷ []) h = choice (RootExact X (x ∷ y ∷ [])) (same y.token (mark colon)) _ (fault_at colon_due 0 (y ∷ [])) (λ e. tt) (λ e. tt)
  kind-exact a x (y ∷ z ∷ l) h =
      choice (RootExact X (x ∷ y ∷ z ∷ l)) (same y.token (mark colon)) _ (fault_at colon_due 0 (y ∷ z ∷ l))
      (λ e. choice (RootExact X (x ∷ y ∷ z ∷ l)) (is_identifier z.token) _ (fault_at place_due 0 (z ∷ l))
      (λ i. choice (RootExact X (x ∷ y ∷ z ∷ l)) (ltb (index_in z.token K) (length K)) (parsed (phrase_read (index_in z.token K) a) l) (fault_at not_declared 0 (z ∷ l))
      (λ k. let low : index_in z.token K < length K = ltb-true (index_in z.token K) (length K) k in
      let n = named.kind_count in
      h (index_in z.token K) y z l (omega arith) (same-exact y.token (mark colon) e) (sym (at-index z.token K low)))
      (λ k. tt)) (λ i. tt)) (λ e. tt)
    where
      K : List Token
      K = kind_names X

  pub word-root : (x : Lexeme) (l : List Lexeme) → is_identifier x.token ≡ true → (due : ℕ) (y : Parsed TermRead) →
      Reads (word_names X) (vocabulary_of X) most_levels due start (x ∷ l) y →
      RootExact X (x ∷ l) (parse_then y (λ a r. parsed (phrase_read due a) r))
  word-root x l e due (bad y) h = tt
  word-root x l e due (parsed b r) h =
      let used = h.grows.used in
      let few = h.grows.within (omega arith) in
      let grown : b.seen.variables ≡ h.grows.new = h.grows.grown in
      let count : length (names b.term) ≡ length b.seen.variables = h.grows.count ∙ ap length (sym grown) in
      let g = word_good X named due b.seen.variables x l r e (h.grows.kept none_good) b.term h.sorted h.deep (omega arith)
      h.grows.counted count
      (subst (λ (z : List Token). Stands (term_tokens (word_names X) z b.term) (x ∷ l) r) (append-nil b.seen.variables) (h.stands [])) in
      (refl, g.0, g.1)

  module _ (below : Below) (x : Lexeme) (l : List Lexeme) (a : Lexed (x ∷ l))
      (reads : (due : ℕ) → Reads (word_names X) (vocabulary_of X) most_levels due start (x ∷ l) (below due start (x ∷ l))) where
    from-variable : is_variable x.token ≡ true → (why : ℕ) → variable_why most_levels start x.token ≡ why →
        RootExact X (x ∷ l) (parse_then (read_variable 0 start (x ∷ l) why) (read_root_kind (kind_names X)))
    from-variable e zero q =
        let fit = variable-fits most_levels start x.token q in
        kind-exact (record { term = var 0; seen = record { variables = x.token ∷ []; used = 1 + 1 } }) x l
        (λ k y z r low p h. (refl, variable-root X k low x.token (variable-good x.token a.0 e fit.short), (refl, (p, (h, refl)))))
    from-variable e (suc why) q = tt

    root-exact : RootExact X (x ∷ l) (root_from below (kind_names X) (word_names X) (vocabulary_of X) (x ∷ l))
    root-exact =
        choice (RootExact X (x ∷ l)) (same x.token opened) (read_root_kind (kind_names X) (record { term = any; seen = start }) l) _
        (λ e. kind-exact (record { term = any; seen = start }) x l
        (λ k y z r low p h. (refl, open_good X k low, (same-exact x.token opened e, (p, (h, refl))))))
        (λ e. choice (RootExact X (x ∷ l)) (is_variable x.token) _ _
        (λ v. from-variable v (variable_why most_levels start x.token) refl)
        (λ v. choice (RootExact X (x ∷ l)) (is_identifier x.token) _ (fault_at pattern_due 0 (x ∷ l))
        (λ i. word-root x l i (word (vocabulary_of X) (index_in x.token (word_names X))).result
        (below (word (vocabulary_of X) (index_in x.token (word_names X))).result start (x ∷ l))
        (reads (word (vocabulary_of X) (index_in x.token (word_names X))).result))
        (λ i. tt)))

root-of : (X : Lexicon) → GoodLexicon X → (l : List Lexeme) → Lexed l → RootExact X l (read_root (kind_names X) (word_names X) (vocabulary_of X) l)
root-of X lex [] a = tt
root-of X lex (x ∷ l) a =
    let named = lexicon-named X lex in
    root-exact X named (parse_term (word_names X) (vocabulary_of X) most_levels) x l a
    (λ due. term-exact (kind_names X) (word_names X) (vocabulary_of X) named most_levels due start (x ∷ l) a)

-- ---- labels

pub label-tokens : (u : Token) → is_identifier u ≡ true → label_tokens u ≡ u ∷ mark colon ∷ []
label-tokens [] e = absurd (false≢true e)
label-tokens (b ∷ u) e = refl

module _ (X : Lexicon) where
  unlabelled : (l : List Lexeme) (y : Parsed PhraseRead) → RootExact X l y → Exact X l y
  unlabelled l (bad y) h = tt
  unlabelled l (parsed p r) h = (
    inl h.0,
    h.1,
    subst (λ (u : Token). Stands (label_tokens u ++ phrase_tokens X p.variables p.kind p.term) l r) (sym h.0) h.2,
  )

  with_label_lem : (x y : Lexeme) (l : List Lexeme) → IsIdentifier x.token → y.token ≡ mark colon → (z : Parsed PhraseRead) → RootExact X l z →
      Exact X (x ∷ y ∷ l) (parse_then z (λ p r. parsed (labelled x.token p) r))
  with_label_lem x y l is e (bad z) h = tt
  with_label_lem x y l is e (parsed p r) h = (
    inr is,
    h.1,
    subst (λ (us : List Token). Stands (us ++ phrase_tokens X p.variables p.kind p.term) (x ∷ y ∷ l) r)
        (sym (label-tokens x.token is.identifier)) (refl, (e, h.2)),
  )

  phrase-exact : (root : List Lexeme → Parsed PhraseRead) → ((l : List Lexeme) → Lexed l → RootExact X l (root l)) → (l : List Lexeme) → Lexed l →
      Exact X l (phrase_from root l)
  phrase-exact root good [] a = unlabelled [] (root []) (good [] a)
  phrase-exact root good (x ∷ []) a =
      choice (Exact X (x ∷ [])) (is_identifier x.token && false) _ (root (x ∷ []))
      (λ e. absurd (false≢true (and_parts (is_identifier x.token) false e).1)) (λ e. unlabelled (x ∷ []) (root (x ∷ [])) (good (x ∷ []) a))
  phrase-exact root good (x ∷ y ∷ l) a =
      choice (Exact X (x ∷ y ∷ l)) (is_identifier x.token && same y.token (mark colon)) _ (root (x ∷ y ∷ l))
      (λ e. let p = and_parts (is_identifier x.token) (same y.token (mark colon)) e in
      choice (Exact X (x ∷ y ∷ l)) (leb (length x.token) most_name) _ (fault_at long_name 0 (x ∷ y ∷ l))
      (λ n. with_label_lem x y l (identifier-good x.token a.0 p.0 (leb-true (length x.token) most_name n))
      (same-exact y.token (mark colon) p.1) (root l) (good l a.1.1))
      (λ n. tt))
      (λ e. unlabelled (x ∷ y ∷ l) (root (x ∷ y ∷ l)) (good (x ∷ y ∷ l) a))

pub phrases_exact : PhrasesExact
phrases_exact X l r p lex a e =
    let h : Exact X l (parsed p r) =
    subst (Exact X l) e (phrase-exact X (read_root (kind_names X) (word_names X) (vocabulary_of X)) (root-of X lex) l a) in
    let us : List Token = phrase_tokens X p.variables p.kind p.term in
    (h.0, h.1, stands-tokens (label_tokens p.label ++ us) l r h.2 ∙ append_assoc (label_tokens p.label) us (tokens_of r))
