-- TermsExact: what is read as a term is one, and its tokens are those that were read.
--
--   Grows s b ns s'                  from s to s' there were b bytes and the variables ns more
--   HasRead, HasReadAll, Reads, ReadsAll    what it means to have read a term, or terms
--   in_places, in_brackets             the tokens of terms, between or with the parentheses of a word
--   end-exact, next-exact            no term, or one more
--   places-exact, behind-exact       the terms of a word's places
--   open_exact, word-exact           an open place, a word
--   term-exact                       any term
--
use mathlib.Core.Path.{◌≡◌, refl, sym, ap, subst, ◌∙◌}
use mathlib.Core.Bool.{true, cond}
use mathlib.Core.List.{List, [], ◌∷◌, ◌++◌, append_assoc, append-nil}
use mathlib.Core.Logic.{◌⊎◌}
use Prim.Native.Nat.{ℕ, zero, suc, ◌+◌, ◌<◌, ◌≤◌}
use native.Mathlib.Omega.{arith}
use lib.ListN.{length, length-append}
use lib.Seq.{get_or-append_seam}
use Rattle.terms.specs.Term.{any, var, app, Terms, nil, cons, Sorted, SortedAll, names, names_all}
use Rattle.terms.proofs.All.{all_append}
use Rattle.wire.specs.Vocabulary.{Vocabulary, signature, word}
use Rattle.wire.specs.TermBytes.{encode_at, encode_all, levels, levels_all, name_count, most_bytes}
use Rattle.wire.proofs.Words.{length_symbols, result-word, arguments-word}
use Rattle.wire.proofs.Cond.{choice}
use Rattle.texts.specs.Lexemes.{Token, Lexeme}
use Rattle.texts.specs.Names.{same, opened, mark, opening, closing, comma, is_variable, index_in, name_at, IsVariable}
use Rattle.texts.specs.Spelling.{IsToken}
use Rattle.texts.specs.Phrases.{term_tokens, places_tokens, bracketed}
use Rattle.texts.specs.Faults.{Parsed, parsed, bad, parse_then, places_wrong, places_over, too_deep}
use Rattle.texts.specs.PhraseReading.{Seen, TermRead, TermsRead, word_bytes, word_why, variable_why, fault_at, put_first, parse_places, read_behind, parse_word, read_variable, read_node, parse_term}
use Rattle.texts.proofs.Finding.{same-exact, at-index, distinct-last}
use Rattle.texts.proofs.Standing.{Stands, stands-append, stands-all, Counts, counts-append}
use Rattle.texts.proofs.Telling.{Named, GoodVariables}
use Rattle.texts.proofs.Fitting.{Lexed, variable-good, WordFits, word_fits, VariableFits, variable-fits}
use Rattle.texts.proofs.TermsRead.{Below}

-- ---- what was read so far

pub record Grows (s : Seen) (bytes : ℕ) (ns : List ℕ) (s' : Seen) : Type 0 where
  pub used : s'.used ≡ s.used + bytes
  pub within : s.used ≤ most_bytes → s'.used ≤ most_bytes
  pub new : List Token
  pub grown : s'.variables ≡ s.variables ++ new
  pub counted : Counts (length s.variables) ns
  pub count : length ns ≡ length new
  pub kept : GoodVariables s.variables → GoodVariables s'.variables

grows_none : (s : Seen) → Grows s 0 [] s
grows_none s = record {
  used = omega arith;
  within = λ h. h;
  new = [];
  grown = sym (append-nil s.variables);
  counted = tt;
  count = refl;
  kept = λ g. g;
}

grows-more : (s : Seen) (m n k : ℕ) (a b c : List ℕ) (s' s'' : Seen) → k ≡ m + n → c ≡ a ++ b → Grows s m a s' → Grows s' n b s'' → Grows s k c s''
grows-more s m n k a b c s' s'' e q g h =
    let size : length s'.variables ≡ length s.variables + length g.new =
    ap length g.grown ∙ length-append s.variables g.new in
    let g-count = g.count in
    let at : length s'.variables ≡ length s.variables + length a = omega arith in
    record {
      used = let u = g.used in let v = h.used in omega arith;
      within = λ w. h.within (g.within w);
      new = g.new ++ h.new;
      grown = h.grown ∙ ap (λ (z : List Token). z ++ h.new) g.grown ∙ append_assoc s.variables g.new h.new;
      counted =
          subst (Counts (length s.variables)) (sym q)
          (counts-append (length s.variables) a b g.counted (subst (λ (z : ℕ). Counts z b) at h.counted));
      count =
          let h-count = h.count in
          let x = length-append a b in
          let y = length-append g.new h.new in
          let z = ap length q in omega arith;
      kept = λ w. h.kept (g.kept w);
    }

-- ---- what it means to have read a term, or terms

-- The tokens are those of the term, whatever variables follow later.
pub record HasRead (N : List Token) (W : Vocabulary) (left due : ℕ) (s : Seen) (l : List Lexeme) (a : TermRead) (r : List Lexeme) : Type 0 where
  pub stands : (w : List Token) → Stands (term_tokens N (a.seen.variables ++ w) a.term) l r
  pub sorted : Sorted (signature W) a.term due
  pub deep : levels a.term ≤ left
  pub grows : Grows s (length (encode_at W a.term)) (names a.term) a.seen

-- The same of terms, where `said` gives their tokens from those of the variables.
pub record HasReadAll (said : List Token → Terms → List Token) (W : Vocabulary) (left : ℕ) (ks : List ℕ) (s : Seen) (l : List Lexeme) (a : TermsRead) (r : List Lexeme) : Type 0 where
  pub stands : (w : List Token) → Stands (said (a.seen.variables ++ w) a.terms) l r
  pub sorted : SortedAll (signature W) a.terms ks
  pub deep : levels_all a.terms ≤ left
  pub grows : Grows s (length (encode_all W a.terms)) (names_all a.terms) a.seen

abbrev pub Reads : List Token → Vocabulary → ℕ → ℕ → Seen → List Lexeme → Parsed TermRead → Type 0
Reads N W left due s l (parsed a r) = HasRead N W left due s l a r
Reads N W left due s l (bad x) = Unit {0}

abbrev pub ReadsAll : (List Token → Terms → List Token) → Vocabulary → ℕ → List ℕ → Seen → List Lexeme → Parsed TermsRead → Type 0
ReadsAll said W left ks s l (parsed a r) = HasReadAll said W left ks s l a r
ReadsAll said W left ks s l (bad x) = Unit {0}

abbrev pub in_places : List Token → ℕ → List Token → Terms → List Token
in_places N c vs ts = places_tokens N vs c ts

abbrev pub in_brackets : List Token → List Token → Terms → List Token
in_brackets N vs ts = bracketed ts (places_tokens N vs opening ts)

-- ---- the terms of a word's places

module _ (N : List Token) (W : Vocabulary) (left : ℕ) where
  pub end-exact : (c : ℕ) (s : Seen) (x : Lexeme) (l : List Lexeme) → x.token ≡ mark closing →
      HasReadAll (in_places N c) W left [] s (x ∷ l) (record { terms = nil; seen = s }) l
  end-exact c s x l e = record { stands = λ w. (e, refl); sorted = tt; deep = omega arith; grows = grows_none s }

  -- A term, then the terms behind it.
  pub next-exact : (c k : ℕ) (ks : List ℕ) (s : Seen) (x : Lexeme) (l : List Lexeme) → x.token ≡ mark c → (a : TermRead) (r : List Lexeme) →
      HasRead N W left k s l a r → (y : Parsed TermsRead) → ReadsAll (in_places N comma) W left ks a.seen r y →
      ReadsAll (in_places N c) W left (k ∷ ks) s (x ∷ l) (parse_then y (λ ts r'. parsed (put_first a.term ts) r'))
  next-exact c k ks s x l e a r h (bad y) g = tt
  next-exact c k ks s x l e a r h (parsed b r') g = record {
    stands = λ w. (
      e,
      stands-append (term_tokens N (b.seen.variables ++ w) a.term) (places_tokens N (b.seen.variables ++ w) comma b.terms) l r r'
          (subst (λ (z : List Token). Stands (term_tokens N z a.term) l r) (later w) (h.stands (g.grows.new ++ w))) (g.stands w),
    );
    sorted = (h.sorted, g.sorted);
    deep = let d = h.deep in let d' = g.deep in omega arith;
    grows =
        grows-more s (length (encode_at W a.term)) (length (encode_all W b.terms)) (length (encode_at W a.term ++ encode_all W b.terms))
        (names a.term) (names_all b.terms) (names a.term ++ names_all b.terms) a.seen b.seen
        (length-append (encode_at W a.term) (encode_all W b.terms)) refl h.grows g.grows;
  }
    where
      later : (w : List Token) → a.seen.variables ++ (g.grows.new ++ w) ≡ b.seen.variables ++ w
      later w = sym (append_assoc a.seen.variables g.grows.new w) ∙ ap (λ (z : List Token). z ++ w) (sym g.grows.grown)

  module _ (below : Below) (f : ℕ) (good : (k : ℕ) (s : Seen) (l : List Lexeme) → Lexed l → Reads N W left k s l (below k s l)) where
    pub places-exact : (ks : List ℕ) (c : ℕ) (s : Seen) (l : List Lexeme) → Lexed l →
        ReadsAll (in_places N c) W left ks s l (parse_places below f c ks s l)
    places-exact [] c s [] a = tt
    places-exact [] c s (x ∷ l) a =
        choice (ReadsAll (in_places N c) W left [] s (x ∷ l)) (same x.token (mark closing)) (parsed (record { terms = nil; seen = s }) l)
        (fault_at places_over f (x ∷ l)) (λ e. end-exact c s x l (same-exact x.token (mark closing) e)) (λ e. tt)
    places-exact (k ∷ ks) c s [] a = tt
    places-exact (k ∷ ks) c s (x ∷ l) a =
        choice (ReadsAll (in_places N c) W left (k ∷ ks) s (x ∷ l)) (same x.token (mark c)) (parse_then (below k s l) behind)
        (fault_at places_wrong f (x ∷ l)) (λ e. go (places-exact ks comma) (same-exact x.token (mark c) e) (below k s l) (good k s l a.1)) (λ e. tt)
      where
        behind : TermRead → List Lexeme → Parsed TermsRead
        behind b r = parse_then (parse_places below f comma ks b.seen r) (λ ts r'. parsed (put_first b.term ts) r')

        go : ((s : Seen) (l : List Lexeme) → Lexed l → ReadsAll (in_places N comma) W left ks s l (parse_places below f comma ks s l)) →
            x.token ≡ mark c → (y : Parsed TermRead) → Reads N W left k s l y → ReadsAll (in_places N c) W left (k ∷ ks) s (x ∷ l) (parse_then y behind)
        go ih e (bad y) h = tt
        go ih e (parsed b r) h =
            next-exact c k ks s x l e b r h (parse_places below f comma ks b.seen r)
            (ih b.seen r (stands-all (λ (x : Lexeme). (x.token ≡ []) ⊎ IsToken x.token) (term_tokens N (b.seen.variables ++ []) b.term) l r (h.stands []) a.1))

    -- A word without places has no parentheses behind it.
    pub bracket : (ks : List ℕ) (k : ℕ) (vs : List Token) (ts : Terms) (l r : List Lexeme) → SortedAll (signature W) ts (k ∷ ks) →
        Stands (in_places N opening vs ts) l r → Stands (in_brackets N vs ts) l r
    bracket ks k vs nil l r h e = absurd h
    bracket ks k vs (cons t ts) l r h e = e

    pub behind-exact : (ks : List ℕ) (s : Seen) (l : List Lexeme) → Lexed l → ReadsAll (in_brackets N) W left ks s l (read_behind below f ks s l)
    behind-exact [] s l a = record { stands = λ w. refl; sorted = tt; deep = omega arith; grows = grows_none s }
    behind-exact (k ∷ ks) s l a = go (parse_places below f opening (k ∷ ks) s l) (places-exact (k ∷ ks) opening s l a)
      where
        go : (y : Parsed TermsRead) → ReadsAll (in_places N opening) W left (k ∷ ks) s l y → ReadsAll (in_brackets N) W left (k ∷ ks) s l y
        go (bad y) h = tt
        go (parsed b r) h = record {
          stands = λ w. bracket ks k (b.seen.variables ++ w) b.terms l r h.sorted (h.stands w);
          sorted = h.sorted;
          deep = h.deep;
          grows = h.grows;
        }

-- ---- a term from its first token

module _ (K N : List Token) (W : Vocabulary) (named : Named K N W) (due : ℕ) (s : Seen) (x : Lexeme) (l : List Lexeme) where
  pub open_exact : (left : ℕ) → x.token ≡ opened → HasRead N W left due s (x ∷ l) (record { term = any; seen = s }) l
  open_exact left e = record { stands = λ w. (e, refl); sorted = tt; deep = omega arith; grows = grows_none s }

  grown-good : GoodVariables s.variables → IsVariable x.token → length s.variables < name_count →
      length s.variables ≤ index_in x.token s.variables → GoodVariables (s.variables ++ (x.token ∷ []))
  grown-good g is few new = record {
    variables = all_append IsVariable s.variables (x.token ∷ []) g.variables (is, tt);
    different = distinct-last s.variables x.token g.different new;
    few = let n = length-append s.variables (x.token ∷ []) in omega arith;
  }

  variable-exact : (left : ℕ) → IsVariable x.token → VariableFits left s x.token →
      HasRead N W left due s (x ∷ l)
      (record { term = var (length s.variables); seen = record { variables = s.variables ++ (x.token ∷ []); used = s.used + 1 } }) l
  variable-exact left is fit = record {
    stands = λ w. (
      sym (ap (λ (z : List Token). name_at z (length s.variables)) (append_assoc s.variables (x.token ∷ []) w)
          ∙ get_or-append_seam s.variables x.token w []),
      refl,
    );
    sorted = tt;
    deep = fit.deep;
    grows = record {
      used = refl;
      within = λ h. fit.fits;
      new = x.token ∷ [];
      grown = refl;
      counted = (refl, tt);
      count = refl;
      kept = λ g. grown-good g is fit.few fit.fresh;
    };
  }

  pub word-exact : (left : ℕ) → WordFits N W (suc left) due s x.token → (y : Parsed TermsRead) →
      ReadsAll (in_brackets N) W left (word W (index_in x.token N)).kinds (record { variables = s.variables; used = s.used + word_bytes }) l y →
      Reads N W (suc left) due s (x ∷ l)
      (parse_then y (λ ts r. parsed (record { term = app (index_in x.token N) ts.terms; seen = ts.seen }) r))
  word-exact left fit (bad y) h = tt
  word-exact left fit (parsed b r) h =
      let f : ℕ = index_in x.token N in
      let c₁ = named.count in
      let c₂ = length_symbols W in
      let known = fit.known in
      record {
        stands = λ w. (sym (at-index x.token N fit.known), h.stands w);
        sorted = (
          omega arith,
          result-word W f ∙ fit.kind,
          subst (SortedAll (signature W) b.terms) (sym (arguments-word W f)) h.sorted,
        );
        deep = let d = h.deep in omega arith;
        grows =
            grows-more s word_bytes (length (encode_all W b.terms)) (length (encode_at W (app f b.terms))) [] (names_all b.terms) (names_all b.terms)
            (record { variables = s.variables; used = s.used + word_bytes }) b.seen (omega arith) refl
            (record {
              used = refl;
              within = λ z. fit.fits;
              new = [];
              grown = sym (append-nil s.variables);
              counted = tt;
              count = refl;
              kept = λ g. g;
            }) h.grows;
      }

  module _ (below : Below) (left under : ℕ) (next : 1 ≤ left → left ≡ suc under) (a : Lexed (x ∷ l))
      (good : (k : ℕ) (s : Seen) (l : List Lexeme) → Lexed l → Reads N W under k s l (below k s l)) where
    from-variable : is_variable x.token ≡ true → (why : ℕ) → variable_why left s x.token ≡ why → Reads N W left due s (x ∷ l) (read_variable due s (x ∷ l) why)
    from-variable e zero q =
        let fit = variable-fits left s x.token q in variable-exact left (variable-good x.token a.0 e fit.short) fit
    from-variable e (suc why) q = tt

    from-word : (why : ℕ) → word_why N W left due s x.token ≡ why → Reads N W left due s (x ∷ l) (parse_word below N W left due s (x ∷ l) why)
    from-word zero q =
        let f : ℕ = index_in x.token N in
        let fit = word_fits N W left due s x.token q in
        let e : left ≡ suc under = next fit.deep in
        let s' : Seen = record { variables = s.variables; used = s.used + word_bytes } in
        subst (λ (n : ℕ). Reads N W n due s (x ∷ l)
        (parse_then (read_behind below f (word W f).kinds s' l) (λ ts r. parsed (record { term = app f ts.terms; seen = ts.seen }) r))) (sym e)
        (word-exact under (subst (λ (n : ℕ). WordFits N W n due s x.token) e fit) (read_behind below f (word W f).kinds s' l)
        (behind-exact N W under below f good (word W f).kinds s' l a.1))
    from-word (suc why) q = tt

    node-exact : Reads N W left due s (x ∷ l) (read_node below N W left due s (x ∷ l))
    node-exact =
        choice (Reads N W left due s (x ∷ l)) (same x.token opened) (parsed (record { term = any; seen = s }) l)
        (cond (is_variable x.token) (read_variable due s (x ∷ l) (variable_why left s x.token))
        (parse_word below N W left due s (x ∷ l) (word_why N W left due s x.token)))
        (λ e. open_exact left (same-exact x.token opened e))
        (λ e. choice (Reads N W left due s (x ∷ l)) (is_variable x.token) (read_variable due s (x ∷ l) (variable_why left s x.token))
        (parse_word below N W left due s (x ∷ l) (word_why N W left due s x.token))
        (λ v. from-variable v (variable_why left s x.token) refl) (λ v. from-word (word_why N W left due s x.token) refl))

pub term-exact : (K N : List Token) (W : Vocabulary) → Named K N W → (left due : ℕ) (s : Seen) (l : List Lexeme) → Lexed l →
    Reads N W left due s l (parse_term N W left due s l)
term-exact K N W named zero due s [] a = tt
term-exact K N W named zero due s (x ∷ l) a =
    node-exact K N W named due s x l (λ k s' l'. fault_at too_deep k l') zero zero (λ h. absurd (omega arith)) a (λ k s l b. tt)
term-exact K N W named (suc left) due s [] a = tt
term-exact K N W named (suc left) due s (x ∷ l) a =
    node-exact K N W named due s x l (parse_term N W left) (suc left) left (λ h. refl) a (λ k s l b. term-exact K N W named left k s l b)
