-- FirstFaults: where a pattern is refused, the place of the fault is the first byte at fault.
--
--   stands-before            the lexemes with the tokens that stand there
--   going us u more, going-tokens    lexemes with the tokens us, then u, then any
--   never_both               what is read is not at fault
--   first_short              a name with which a good pattern begins is not too long
--   root-first, label-first, long-first    a fault of a pattern without label, behind a label, of a label itself
--   phrase_faults_are_first  a fault of any pattern
--
use mathlib.Core.Path.{◌≡◌, refl, sym, ap, subst, ◌∙◌}
use mathlib.Core.Bool.{Bool, true, false, ◌&&◌, true≢false, false≢true}
use mathlib.Core.List.{List, [], ◌∷◌, ◌++◌, append_assoc}
use mathlib.Core.Logic.{◌⊎◌, inl, inr}
use Prim.Native.Nat.{ℕ, ◌<◌, ◌≤◌}
use native.Mathlib.Omega.{arith}
use lib.Dec.{leb}
use lib.ListN.{length, drop}
use borrow.Author.Tests.{leb-true, leb-false, le-leb}
use Rattle.terms.specs.Term.{Term, any, var, app}
use Rattle.terms.proofs.All.{all-at, all_append, all_implies}
use Rattle.terms.proofs.Bools.{and_parts, and_both}
use Rattle.wire.proofs.Cond.{choice, cond_true}
use Rattle.wire.proofs.Words.{length_symbols}
use Rattle.texts.specs.Lexemes.{Token, Lexeme}
use Rattle.texts.specs.Names.{same, opened, mark, colon, most_name, is_identifier, name_at, IsIdentifier, IsVariable}
use Rattle.texts.specs.Spelling.{IsToken}
use Rattle.texts.specs.Lexicon.{Lexicon, kind_names, word_names, vocabulary_of, GoodLexicon}
use Rattle.texts.specs.Phrases.{Phrase, IsLabel, label_tokens, phrase_tokens, GoodPhrase}
use Rattle.texts.specs.Faults.{Fault, Parsed, parsed, bad, parse_then, token, long_name}
use Rattle.texts.specs.PhraseReading.{PhraseRead, fault_at, read_root, labelled}
use Rattle.texts.specs.Laws.{tokens_of, FirstFault, begins_label, PhraseFirst, PhraseFaultsAreFirst}
use Rattle.texts.proofs.Finding.{same-exact}
use Rattle.texts.proofs.Standing.{Stands, tokens_stand}
use Rattle.texts.proofs.Telling.{lexicon-named, variable_not_name}
use Rattle.texts.proofs.Fitting.{Lexed, identifier-good}
use Rattle.texts.proofs.PhrasesRead.{phrase_from, rooted, phrases_read, name-count, counted}
use Rattle.texts.proofs.PhrasesExact.{label-tokens}
use Rattle.texts.proofs.Locality.{as_lexemes, as_tokens, as_stands, Ended, ended-rest, Stopped}
use Rattle.texts.proofs.RootsStop.{CanRoot, Halts, open_root, root_halts}

-- ---- lexemes

as_only : (us : List Token) → tokens_of (as_lexemes us) ≡ us
as_only [] = refl
as_only (u ∷ us) = ap (λ (z : List Token). u ∷ z) (as_only us)

as_first : (us : List Token) → token (as_lexemes us) ≡ name_at us 0
as_first [] = refl
as_first (u ∷ us) = refl

pub stands-before : (us : List Token) (l r : List Lexeme) → Stands us l r → (before : List Lexeme) × (l ≡ before ++ r) × (tokens_of before ≡ us)
stands-before [] l r h = ([], h, refl)
stands-before (u ∷ us) [] r h = absurd h
stands-before (u ∷ us) (x ∷ l) r h =
    let b = stands-before us l r h.1 in (x ∷ b.0, ap (λ (z : List Lexeme). x ∷ z) b.1, cc)

abbrev pub going : List Token → Token → List Token → List Lexeme
going us u more = as_lexemes us ++ (record { at = 0; token = u } ∷ as_lexemes more)

pub going-tokens : (us : List Token) (u : Token) (more : List Token) → tokens_of (going us u more) ≡ us ++ (u ∷ more)
going-tokens us u more = as_tokens us (record { at = 0; token = u } ∷ as_lexemes more) ∙ ap (λ (z : List Token). us ++ (u ∷ z)) (as_only more)

pub never_both : {A : Type 0} (y : Parsed A) (a : A) (r : List Lexeme) (x : Fault) → y ≡ parsed a r → y ≡ bad x → ⊥
never_both y a r x e h = let z : ◌≡◌ {A = ℕ} 0 1 = cc in omega arith

-- ---- names

abbrev roots : Lexicon → List Lexeme → Parsed PhraseRead
roots X l = read_root (kind_names X) (word_names X) (vocabulary_of X) l

module _ (X : Lexicon) (lex : GoodLexicon X) where
  root-short : (vs : List Token) (s : ℕ) (t : Term) → GoodPhrase X vs s t → (rest : List Token) (u : Token) (more : List Token) →
      u ∷ more ≡ phrase_tokens X vs s t ++ rest → is_identifier u ≡ true → length u ≤ most_name
  root-short vs s any good rest u more e i =
      let first : u ≡ opened = cc in absurd (false≢true (sym (ap is_identifier first) ∙ i))
  root-short vs s (var n) good rest u more e i =
      let first : u ≡ name_at vs n = cc in
      let zeroth : n ≡ 0 = (counted X lex vs s (var n) good).0 in
      let count = name-count X lex vs s (var n) good in
      let is : IsVariable u = subst IsVariable (sym first) (all-at IsVariable [] vs good.variables n (omega arith)) in
      absurd (true≢false (sym i ∙ variable_not_name u is.variable))
  root-short vs s (app f ts) good rest u more e i =
      let named = lexicon-named X lex in
      let first : u ≡ name_at (word_names X) f = cc in
      let c₁ = named.count in
      let c₂ = length_symbols (vocabulary_of X) in
      let f< = good.term.good.sorted.sorted.0 in
      subst (λ (z : Token). length z ≤ most_name) (sym first)
      (all-at IsIdentifier [] (word_names X) named.words f (omega arith)).short

  first_short : (v : Token) → IsLabel v → (vs : List Token) (s : ℕ) (t : Term) → GoodPhrase X vs s t → (rest : List Token) (u : Token) (more : List Token) →
      u ∷ more ≡ (label_tokens v ++ phrase_tokens X vs s t) ++ rest → is_identifier u ≡ true → length u ≤ most_name
  first_short [] is vs s t good rest u more e i = root-short vs s t good rest u more e i
  first_short (b ∷ v) (inl z) vs s t good rest u more e i = let z : ◌≡◌ {A = ℕ} 0 1 = cc in absurd (omega arith)
  first_short (b ∷ v) (inr is) vs s t good rest u more e i =
      let first : u ≡ b ∷ v = cc in subst (λ (z : Token). length z ≤ most_name) (sym first) is.short

  -- ---- a fault, by where the pattern begins

  -- A good pattern that begins as was read so far.
  begun : (u : Token) → IsLabel u → (c : Bool) → (u ≡ []) ⊎ (c ≡ true) → (us : List Token) (can : CanRoot X us) →
      PhraseFirst X c (label_tokens u ++ (us ++ can.more))
  begun u is c may us can = record {
    phrase = record { label = u; kind = can.kind; term = can.term; variables = can.variables };
    rest = [];
    good = record { label = is; phrase = can.good };
    tokens =
        ap (λ (z : List Token). label_tokens u ++ z) can.tokens
        ∙ sym (append_assoc (label_tokens u) (phrase_tokens X can.variables can.kind can.term) []);
    no_colon = refl;
    label = may;
  }

  root_never : (c : Bool) (us : List Token) (u : Token) (more : List Token) (y : Fault) → roots X (going us u more) ≡ bad y →
      (g : PhraseFirst X c (us ++ (u ∷ more))) → g.phrase.label ≡ [] → ⊥
  root_never c us u more y never g none =
      let p : Phrase = g.phrase in
      let T : List Token = phrase_tokens X p.variables p.kind p.term in
      let e : tokens_of (going us u more) ≡ T ++ g.rest =
      going-tokens us u more ∙ (g.tokens ∙ ap (λ (z : Token). (label_tokens z ++ T) ++ g.rest) none) in
      let read = rooted X lex p.term p.variables p.kind g.good.phrase (going us u more) (drop (length T) (going us u more))
      (tokens_stand T (going us u more) g.rest e) in
      never_both (roots X (going us u more)) _ _ y read never

  root-first : (l : List Lexeme) (x : Fault) → begins_label l ≡ false → Stopped (roots X) (CanRoot X) l x →
      FirstFault (PhraseFirst X (begins_label l)) l x.at
  root-first l x word q =
      let cut = stands-before q.us l (q.here ∷ q.behind) q.stands in
      record {
        before = cut.0;
        here = q.here;
        behind = q.behind;
        all = cut.1;
        place = q.place;
        so_far = (
          q.can.more,
          subst (λ (z : List Token). PhraseFirst X (begins_label l) (z ++ q.can.more)) (sym cut.2)
              (begun [] (inl refl) (begins_label l) (inl refl) q.us q.can),
        );
        no_further = λ more g. none more (subst (λ (z : List Token). PhraseFirst X (begins_label l) (z ++ (q.here.token ∷ more))) cut.2 g);
      }
    where
      never : (more : List Token) → (y : Fault) × (roots X (going q.us q.here.token more) ≡ bad y)
      never more =
          q.never (going q.us q.here.token more) 0 (as_lexemes more)
          (as_stands q.us (record { at = 0; token = q.here.token } ∷ as_lexemes more))

      none : (more : List Token) → PhraseFirst X (begins_label l) (q.us ++ (q.here.token ∷ more)) → ⊥
      none more g = go g.label
        where
          go : (g.phrase.label ≡ []) ⊎ (begins_label l ≡ true) → ⊥
          go (inl e) = root_never (begins_label l) q.us q.here.token more (never more).0 (never more).1 g e
          go (inr e) = true≢false (sym e ∙ word)

  -- The name before a colon is too long.
  long-first : (x : Lexeme) (l : List Lexeme) → is_identifier x.token ≡ true → most_name < length x.token →
      FirstFault (PhraseFirst X (begins_label (x ∷ l))) (x ∷ l) x.at
  long-first x l i long = record {
    before = [];
    here = x;
    behind = l;
    all = refl;
    place = refl;
    so_far = ((open_root X lex).more, begun [] (inl refl) (begins_label (x ∷ l)) (inl refl) [] (open_root X lex));
    no_further = λ more g.
        let p : Phrase = g.phrase in
        let short =
        first_short p.label g.good.label p.variables p.kind p.term g.good.phrase g.rest x.token more g.tokens i in
        omega arith;
  }

  module _ (x y : Lexeme) (is : IsIdentifier x.token) (colons : same y.token (mark colon) ≡ true) where
    label_never : (l : List Lexeme) (z : Fault) → roots X l ≡ bad z → phrase_from (roots X) (x ∷ y ∷ l) ≡ bad z
    label_never l z e =
        cond_true (is_identifier x.token && same y.token (mark colon)) _ (roots X (x ∷ y ∷ l)) (and_both _ _ is.identifier colons)
        ∙ (cond_true (leb (length x.token) most_name) _ (fault_at long_name 0 (x ∷ y ∷ l)) (le-leb (length x.token) most_name is.short)
        ∙ ap (λ (w : Parsed PhraseRead). parse_then w (λ p r. parsed (labelled x.token p) r)) e)

    label-first : (l : List Lexeme) (f : Fault) → Stopped (roots X) (CanRoot X) l f →
        FirstFault (PhraseFirst X (begins_label (x ∷ y ∷ l))) (x ∷ y ∷ l) f.at
    label-first l f q =
        let cut = stands-before q.us l (q.here ∷ q.behind) q.stands in
        record {
          before = x ∷ y ∷ cut.0;
          here = q.here;
          behind = q.behind;
          all = ap (λ (z : List Lexeme). x ∷ y ∷ z) cut.1;
          place = q.place;
          so_far = (
            q.can.more,
            subst (PhraseFirst X c) (said ∙ ap (λ (z : List Token). x.token ∷ y.token ∷ (z ++ q.can.more)) (sym cut.2))
                (begun x.token (inr is) c (inr (and_both _ _ is.identifier colons)) q.us q.can),
          );
          no_further = λ more g.
              none more (subst (λ (z : List Token). PhraseFirst X c (x.token ∷ y.token ∷ (z ++ (q.here.token ∷ more)))) cut.2 g);
        }
      where
        c : Bool
        c = begins_label (x ∷ y ∷ l)

        said : label_tokens x.token ++ (q.us ++ q.can.more) ≡ x.token ∷ y.token ∷ (q.us ++ q.can.more)
        said =
            ap (λ (z : List Token). z ++ (q.us ++ q.can.more))
            (label-tokens x.token is.identifier ∙ ap (λ (u : Token). x.token ∷ u ∷ []) (sym (same-exact y.token (mark colon) colons)))

        none : (more : List Token) → PhraseFirst X c (x.token ∷ y.token ∷ (q.us ++ (q.here.token ∷ more))) → ⊥
        none more g =
            let p : Phrase = g.phrase in
            let T : List Token = phrase_tokens X p.variables p.kind p.term in
            let m : List Lexeme = going q.us q.here.token more in
            let stop = q.never m 0 (as_lexemes more) (as_stands q.us (record { at = 0; token = q.here.token } ∷ as_lexemes more)) in
            let e : tokens_of (x ∷ y ∷ m) ≡ label_tokens p.label ++ (T ++ tokens_of (as_lexemes g.rest)) =
            ap (λ (z : List Token). x.token ∷ y.token ∷ z) (going-tokens q.us q.here.token more)
            ∙ (g.tokens
            ∙ (append_assoc (label_tokens p.label) T g.rest
            ∙ ap (λ (z : List Token). label_tokens p.label ++ (T ++ z)) (sym (as_only g.rest)))) in
            let read = phrases_read X p.label p.variables p.kind p.term (x ∷ y ∷ m) (as_lexemes g.rest) lex g.good.label
            g.good.phrase e (ap (λ (z : Token). same z (mark colon)) (as_first g.rest) ∙ g.no_colon) in
            never_both (phrase_from (roots X) (x ∷ y ∷ m)) _ _ stop.0 read (label_never m stop.0 stop.1)

  -- ---- any pattern

  abbrev First : List Lexeme → Parsed PhraseRead → Type 0
  First l y = (x : Fault) → y ≡ bad x → FirstFault (PhraseFirst X (begins_label l)) l x.at

  no_label : (l : List Lexeme) → Lexed l → Ended l → begins_label l ≡ false → First l (roots X l)
  no_label l a h e x q = root-first l x e (subst (Halts (roots X) (CanRoot X) l) q (root_halts X lex l a h))

  with_label_lem : (x y : Lexeme) → IsIdentifier x.token → same y.token (mark colon) ≡ true → (l : List Lexeme) (z : Parsed PhraseRead) →
      Halts (roots X) (CanRoot X) l z → First (x ∷ y ∷ l) (parse_then z (λ p r. parsed (labelled x.token p) r))
  with_label_lem x y is colons l (parsed p r) h f q = let z : ◌≡◌ {A = ℕ} 0 1 = cc in absurd (omega arith)
  with_label_lem x y is colons l (bad b) h f q =
      label-first x y is colons l f (let e : b ≡ f = cc in subst (Stopped (roots X) (CanRoot X) l) e h)

  too_long : (x : Lexeme) (l : List Lexeme) → is_identifier x.token ≡ true → leb (length x.token) most_name ≡ false →
      First (x ∷ l) (fault_at long_name 0 (x ∷ l))
  too_long x l i n f q =
      let e : record { why = long_name; at = x.at; of = 0 } ≡ f = cc in
      subst (λ (z : Fault). FirstFault (PhraseFirst X (begins_label (x ∷ l))) (x ∷ l) z.at) e
      (long-first x l i (leb-false (length x.token) most_name n))

  phrase-first : (l : List Lexeme) → Lexed l → Ended l → First l (phrase_from (roots X) l)
  phrase-first [] a h = absurd h
  phrase-first (x ∷ []) a h =
      choice (First (x ∷ [])) (is_identifier x.token && false) _ (roots X (x ∷ []))
      (λ e. absurd (false≢true (and_parts (is_identifier x.token) false e).1)) (no_label (x ∷ []) a h)
  phrase-first (x ∷ y ∷ l) a h =
      choice (First (x ∷ y ∷ l)) (is_identifier x.token && same y.token (mark colon)) _ (roots X (x ∷ y ∷ l))
      (λ e. let p = and_parts (is_identifier x.token) (same y.token (mark colon)) e in
      let behind : Ended l =
      ended-rest (λ u. same u (mark colon)) y l refl p.1 (ended-rest is_identifier x (y ∷ l) refl p.0 h) in
      choice (First (x ∷ y ∷ l)) (leb (length x.token) most_name) _ (fault_at long_name 0 (x ∷ y ∷ l))
      (λ n. with_label_lem x y (identifier-good x.token a.0 p.0 (leb-true (length x.token) most_name n)) p.1 l (roots X l)
      (root_halts X lex l a.1.1 behind))
      (too_long x (y ∷ l) p.0))
      (no_label (x ∷ y ∷ l) a h)

ended-last : (l : List Lexeme) (e : Lexeme) → e.token ≡ [] → Ended (l ++ (e ∷ []))
ended-last [] e h = inl h
ended-last (x ∷ l) e h = inr (ended-last l e h)

pub phrase_faults_are_first : PhraseFaultsAreFirst
phrase_faults_are_first X l e x lex a last q =
    phrase-first X lex (l ++ (e ∷ []))
    (all_append (λ (y : Lexeme). (y.token ≡ []) ⊎ IsToken y.token) l (e ∷ [])
    (all_implies (λ (y : Lexeme). IsToken y.token) (λ (y : Lexeme). (y.token ≡ []) ⊎ IsToken y.token) (λ y t. inr t) l a) (inl last, tt))
    (ended-last l e last) x q
