-- Walks: by their tokens, a pattern and a situation are compared as by their terms, and a situation ends where its term does.
--
--   name_no_mark, names_no_mark    a name of a vocabulary is no mark
--   closing-ground, closing-behind, closing-places     what stands up to a ) behind the tokens of a ground term, of the parentheses behind
--                                  a word, of the places behind a word's first
--   ground-size                    the first term of a situation's tokens is all of them
--   situations-end                 .. in a question
--   with_covers cs w                w, where what stands before covers cs
--   joined m w x                   w where it differs, and otherwise x behind it and its m tokens
--   joined-behind, joined-first    what is compared behind a token, and behind a term
--   Walks us vs w                  w is walked of us and vs, where the steps are enough
--   walks_end, walks_same, walks_other, walks_over     the steps
--   walk-over, walk-word, walk_first, walk-behind      the same for an open place or a variable, a word, a word's first place, its places
--   walk-term, walk-places         a term and a ground term are walked as they are compared, and so are those at a word's places
--   walks_are_comparisons          .. so a pattern and a situation are
--
use mathlib.Core.Path.{◌≡◌, refl, sym, ◌∙◌, ap, ap₂, subst}
use mathlib.Core.Bool.{Bool, true, false, cond, true≢false}
use mathlib.Core.List.{List, [], ◌∷◌, ◌++◌, map, append-nil, append_assoc, map-append}
use Prim.Native.Nat.{ℕ, zero, suc, ◌+◌, ◌<◌, ◌≤◌}
use native.Mathlib.Omega.{arith}
use lib.Dec.{eqb}
use lib.ListN.{length, take, drop, length-append}
use lib.Seq.{take_at, drop_at}
use borrow.Author.Tests.{eqb-true, eqb-false}
use Rattle.terms.specs.Lists.{All}
use Rattle.terms.specs.Signature.{arguments}
use Rattle.terms.specs.Term.{Term, any, var, app, Terms, nil, cons, Ground, gapp, Grounds, gnil, gcons, as_terms, Sorted, SortedAll, SortedG, SortedGs, names, names_all}
use Rattle.terms.specs.Filling.{Binding}
use Rattle.terms.proofs.All.{all_left, all_right, all-at, all_implies}
use Rattle.terms.proofs.Bools.{false_of_not, or_neither, or_right}
use Rattle.terms.proofs.Ground.{sorted-ground}
use Rattle.wire.specs.Vocabulary.{Vocabulary, signature}
use Rattle.wire.specs.TermBytes.{name_count}
use Rattle.wire.proofs.Cond.{cond_true, cond_false}
use Rattle.wire.proofs.Words.{length_symbols}
use Rattle.texts.specs.Lexemes.{Token, is_name_byte}
use Rattle.texts.specs.Names.{same, opened, mark, opening, closing, comma, begins_name, is_identifier, is_variable, IsIdentifier, IsVariable, name_at, index_in}
use Rattle.texts.specs.Lexicon.{kind_names, word_names, vocabulary_of}
use Rattle.texts.specs.Phrases.{term_tokens, places_tokens, bracketed}
use Rattle.texts.specs.Questions.{ground_tokens}
use Rattle.texts.specs.Verdicts.{Compared, covers, differs, behind_tokens, first_of, compare, compare_all}
use Rattle.texts.specs.QuestionReading.{is_open}
use Rattle.texts.specs.Comparing.{closing_size, term_size, Cover, Walked, fits, unlike, walked_behind, walked_over, walk, as_walked}
use Rattle.texts.specs.Laws.{WalksAreComparisons, SituationsEnd}
use Rattle.texts.proofs.Finding.{same_refl, same-exact, index_at}
use Rattle.texts.proofs.Saying.{phrase_sayable}
use Rattle.texts.proofs.Telling.{begins-name, not_opened, not_variable, Named, lexicon-named}

-- ---- where a situation ends

name_no_mark : (u : Token) (c : ℕ) → is_identifier u ≡ true → is_name_byte c ≡ false → same u (mark c) ≡ false
name_no_mark u c e h =
    false_of_not (same u (mark c)) (λ p. true≢false (sym (begins-name u e) ∙ ap begins_name (same-exact u (mark c) p) ∙ h))

names_no_mark : (N : List Token) (c : ℕ) → is_name_byte c ≡ false → All IsIdentifier N → (f : ℕ) → same (name_at N f) (mark c) ≡ false
names_no_mark [] c h a f = refl
names_no_mark (u ∷ N) c h a zero = name_no_mark u c a.0.identifier h
names_no_mark (u ∷ N) c h a (suc f) = names_no_mark N c h a.1 f

-- Of tokens G and then Q, the last ) of Q closes.
closing-inside : (G Q T : List Token) (d : ℕ) → closing_size (suc d) (G ++ (Q ++ T)) ≡ length G + closing_size (suc d) (Q ++ T) →
    closing_size (suc d) (Q ++ T) ≡ length Q + closing_size d T →
    closing_size (suc d) ((G ++ Q) ++ T) ≡ length (G ++ Q) + closing_size d T
closing-inside G Q T d a b =
    let n = length-append G Q in ap (closing_size (suc d)) (append_assoc G Q T) ∙ omega arith

closing_none : (us : List Token) → closing_size 0 us ≡ 0
closing_none [] = refl
closing_none (u ∷ us) = refl

module _ (N : List Token) (words : All IsIdentifier N) where
  closing-name : (f d : ℕ) (T : List Token) → closing_size (suc d) (name_at N f ∷ T) ≡ suc (closing_size (suc d) T)
  closing-name f d T = simp (names_no_mark N opening refl words f, names_no_mark N closing refl words f)

  mutual
    closing-ground : (g : Ground) (d : ℕ) (T : List Token) →
        closing_size (suc d) (ground_tokens N g ++ T) ≡ length (ground_tokens N g) + closing_size (suc d) T
    closing-ground (gapp f gs) d T =
        let h = closing-name f d (bracketed (as_terms gs) (places_tokens N [] opening (as_terms gs)) ++ T) in
        let k = closing-behind gs d T in omega arith

    closing-behind : (gs : Grounds) (d : ℕ) (T : List Token) →
        closing_size (suc d) (bracketed (as_terms gs) (places_tokens N [] opening (as_terms gs)) ++ T)
        ≡ length (bracketed (as_terms gs) (places_tokens N [] opening (as_terms gs))) + closing_size (suc d) T
    closing-behind gnil d T = omega arith
    closing-behind (gcons g gs) d T =
        let Q : List Token = places_tokens N [] comma (as_terms gs) in
        let k = closing-inside (ground_tokens N g) Q T (suc d) (closing-ground g (suc d) (Q ++ T)) (closing-places gs (suc d) T) in
        omega arith

    closing-places : (gs : Grounds) (d : ℕ) (T : List Token) →
        closing_size (suc d) (places_tokens N [] comma (as_terms gs) ++ T) ≡ length (places_tokens N [] comma (as_terms gs)) + closing_size d T
    closing-places gnil d T = omega arith
    closing-places (gcons g gs) d T =
        let Q : List Token = places_tokens N [] comma (as_terms gs) in
        let k = closing-inside (ground_tokens N g) Q T d (closing-ground g d (Q ++ T)) (closing-places gs d T) in omega arith

  ground-size : (g : Ground) (R : List Token) → same (name_at R 0) (mark opening) ≡ false →
      term_size (ground_tokens N g ++ R) ≡ length (ground_tokens N g)
  ground-size (gapp f gnil) R h = ap suc (cond_false (same (name_at R 0) (mark opening)) (suc (closing_size 1 (drop 1 R))) 0 h)
  ground-size (gapp f (gcons g gs)) R h =
      let Q : List Token = places_tokens N [] comma (as_terms gs) in
      let k = closing-inside (ground_tokens N g) Q R 0 (closing-ground g 0 (Q ++ R)) (closing-places gs 0 R) in
      let z = closing_none R in omega arith

pub situations-end : SituationsEnd
situations-end X p g R good q h = ground-size (word_names X) (lexicon-named X good).words g R h

-- ---- what is walked

abbrev with_covers : List Cover → Walked → Walked
with_covers cs (fits ds) = fits (cs ++ ds)
with_covers cs (unlike n u) = unlike n u

abbrev joined : ℕ → Walked → Walked → Walked
joined m (unlike n u) x = unlike n u
joined m (fits cs) x = with_covers cs (walked_behind m x)

joined_end : (m : ℕ) (w : Walked) → joined m w (fits []) ≡ w
joined_end m (fits cs) = ap fits (append-nil cs)
joined_end m (unlike n u) = refl

joined_none : (w : Walked) → joined 0 (fits []) w ≡ w
joined_none (fits cs) = refl
joined_none (unlike n u) = ap (λ (k : ℕ). unlike k u) (omega arith)

joined-one : (w : Walked) → joined 1 (fits []) w ≡ walked_behind 1 w
joined-one (fits cs) = refl
joined-one (unlike n u) = refl

over_open : (us : List Token) (w : Walked) → walked_over opened us w ≡ with_covers [] w
over_open us (fits cs) = refl
over_open us (unlike n u) = refl

over-variable : (u : Token) (us : List Token) (w : Walked) → is_variable u ≡ true →
    walked_over u us w ≡ with_covers (record { variable = u; tokens = us } ∷ []) w
over-variable u us (fits cs) e = cond_true (is_variable u) (fits (record { variable = u; tokens = us } ∷ cs)) (fits cs) e
over-variable u us (unlike n v) e = refl

module _ (N vs : List Token) where
  abbrev cover_of : Binding → Cover
  cover_of b = record { variable = name_at vs b.name; tokens = ground_tokens N b.value }

  -- One token, and then what c says of m tokens behind it.
  joined-behind : (u : Token) (m : ℕ) (c : Compared) (w : Walked) →
      walked_behind 1 (joined m (as_walked N vs c) w) ≡ joined (suc m) (as_walked N vs (behind_tokens (u ∷ []) c)) w
  joined-behind u m (covers bs) (fits es) = refl
  joined-behind u m (covers bs) (unlike k v) = ap (λ (j : ℕ). unlike j v) (omega arith)
  joined-behind u m (differs us f) w = ap (λ (j : ℕ). unlike j (name_at N f)) (omega arith)

  -- What a says of the tokens G, and then what b says of m tokens behind them.
  joined-first : (G : List Token) (m : ℕ) (a b : Compared) (w : Walked) →
      joined (length G) (as_walked N vs a) (joined m (as_walked N vs b) w) ≡ joined (length G + m) (as_walked N vs (first_of G a b)) w
  joined-first G m (differs us f) b w = refl
  joined-first G m (covers bs) (differs us f) w = ap (λ (j : ℕ). unlike j (name_at N f)) (sym (length-append G us))
  joined-first G m (covers bs) (covers ds) (fits es) =
      ap fits (sym (ap (λ (l : List Cover). l ++ es) (map-append cover_of bs ds) ∙ append_assoc (map cover_of bs) (map cover_of ds) es))
  joined-first G m (covers bs) (covers ds) (unlike k u) = ap (λ (j : ℕ). unlike j u) (omega arith)

-- ---- the steps

abbrev Walks : List Token → List Token → Walked → Type 0
Walks us vs w = (n : ℕ) → length vs ≤ n → walk n us vs ≡ w

walks_end : (us : List Token) → Walks us [] (fits [])
walks_end us zero h = refl
walks_end us (suc n) h = refl

module _ (u v : Token) (us vs : List Token) where
  walks_same : (w : Walked) → is_open u ≡ false → same u v ≡ true → Walks us vs w → Walks (u ∷ us) (v ∷ vs) (walked_behind 1 w)
  walks_same w a b k zero h = absurd (omega arith)
  walks_same w a b k (suc n) h = simp (a, b) (ap (walked_behind 1) (k n (omega arith)))

  walks_other : is_open u ≡ false → same u v ≡ false → Walks (u ∷ us) (v ∷ vs) (unlike 0 u)
  walks_other a b zero h = absurd (omega arith)
  walks_other a b (suc n) h = simp (a, b)

-- The tokens of the term are v and those of G.
walks_over : (u v : Token) (us G S : List Token) (w : Walked) → is_open u ≡ true → term_size (v ∷ (G ++ S)) ≡ suc (length G) →
    Walks us S w → Walks (u ∷ us) (v ∷ (G ++ S)) (walked_over u (v ∷ G) (walked_behind (suc (length G)) w))
walks_over u v us G S w a b k zero h = absurd (omega arith)
walks_over u v us G S w a b k (suc n) h =
    let j = length-append G S in
    cond_true (is_open u) _ _ a
    ∙ ap (λ (m : ℕ). walked_over u (take m (v ∷ (G ++ S))) (walked_behind m (walk n us (drop m (v ∷ (G ++ S)))))) b
    ∙ ap₂ (λ (x y : List Token). walked_over u x (walked_behind (suc (length G)) (walk n us y)))
    (take_at (v ∷ G) S (suc (length G)) refl) (drop_at (v ∷ G) S (suc (length G)) refl)
    ∙ ap (λ (x : Walked). walked_over u (v ∷ G) (walked_behind (suc (length G)) x)) (k n (omega arith))

-- ---- terms

module _ (N vs : List Token) (W : Vocabulary) (K : List Token) (named : Named K N W) (variables : All IsVariable vs) where
  word-known : (f : ℕ) → f < length (signature W).symbols → f < length N
  word-known f h = let a = length_symbols W in let b = named.count in omega arith

  word-closed : (f : ℕ) → f < length N → is_open (name_at N f) ≡ false
  word-closed f h =
      let i = (all-at IsIdentifier [] N named.words f h).identifier in
      or_neither (same (name_at N f) opened) (is_variable (name_at N f)) (not_opened (name_at N f) i) (not_variable (name_at N f) i)

  -- Words of different numbers have different names.
  word-other : (f h : ℕ) → f < length N → h < length N → eqb f h ≡ false → same (name_at N f) (name_at N h) ≡ false
  word-other f h k l e =
      false_of_not (same (name_at N f) (name_at N h))
      (λ p. eqb-false f h e
      (sym (index_at N f named.different k) ∙ ap (λ (u : Token). index_in u N) (same-exact (name_at N f) (name_at N h) p)
      ∙ index_at N h named.different l))

  abbrev ground_size : Ground → ℕ
  ground_size g = length (ground_tokens N g)

  -- An open place or a variable, which covers the whole of g.
  walk-over : (u : Token) (g : Ground) (R S : List Token) (w : Walked) → is_open u ≡ true → same (name_at S 0) (mark opening) ≡ false →
      Walks R S w → Walks (u ∷ R) (ground_tokens N g ++ S) (walked_over u (ground_tokens N g) (walked_behind (ground_size g) w))
  walk-over u (gapp h gs) R S w a b k =
      walks_over u (name_at N h) R (bracketed (as_terms gs) (places_tokens N [] opening (as_terms gs))) S w a
      (ground-size N named.words (gapp h gs) S b) k

  -- A word, where what stands behind it is walked as it is compared.
  walk-word : (f h : ℕ) (us hs : List Token) (m : ℕ) (c : Compared) (w : Walked) → f < length N → h < length N →
      (f ≡ h → Walks us hs (joined m (as_walked N vs c) w)) →
      Walks (name_at N f ∷ us) (name_at N h ∷ hs)
      (joined (suc m) (as_walked N vs (cond (eqb f h) (behind_tokens (name_at N h ∷ []) c) (differs [] f))) w)
  walk-word f h us hs m c w k l more = go (eqb f h) refl
    where
      go : (b : Bool) → eqb f h ≡ b →
          Walks (name_at N f ∷ us) (name_at N h ∷ hs)
          (joined (suc m) (as_walked N vs (cond b (behind_tokens (name_at N h ∷ []) c) (differs [] f))) w)
      go true e =
          let z : f ≡ h = eqb-true f h e in
          subst (Walks (name_at N f ∷ us) (name_at N h ∷ hs)) (joined-behind N vs (name_at N h) m c w)
          (walks_same (name_at N f) (name_at N h) us hs (joined m (as_walked N vs c) w) (word-closed f k)
          (ap (λ (i : ℕ). same (name_at N f) (name_at N i)) (sym z) ∙ same_refl (name_at N f)) (more z))
      go false e = walks_other (name_at N f) (name_at N h) us hs (word-closed f k) (word-other f h k l e)

  -- A mark, the tokens T and G of the first terms, and those of the terms behind them.
  walk_first : (c : ℕ) (T P R G Q S : List Token) (a b : Compared) (w : Walked) → is_open (mark c) ≡ false →
      Walks (T ++ (P ++ R)) (G ++ (Q ++ S)) (joined (length G) (as_walked N vs a) (joined (length Q) (as_walked N vs b) w)) →
      Walks (mark c ∷ ((T ++ P) ++ R)) (mark c ∷ ((G ++ Q) ++ S))
      (joined (suc (length (G ++ Q))) (as_walked N vs (behind_tokens (mark c ∷ []) (first_of G a b))) w)
  walk_first c T P R G Q S a b w h k =
      rw (append_assoc T P R, append_assoc G Q S, length-append G Q, ← joined-behind N vs (mark c) (length G + length Q) (first_of G a b) w, ← joined-first N vs G (length Q) a b w)
      (walks_same (mark c) (mark c) (T ++ (P ++ R)) (G ++ (Q ++ S))
      (joined (length G) (as_walked N vs a) (joined (length Q) (as_walked N vs b) w)) h (same_refl (mark c)) k)

  -- Behind a word without places nothing of it stands.
  walk-behind : (ts : Terms) (gs : Grounds) (ks : List ℕ) (R S : List Token) (w : Walked) → SortedAll (signature W) ts ks →
      SortedGs (signature W) gs ks → Walks R S w →
      Walks (places_tokens N vs opening ts ++ R) (places_tokens N [] opening (as_terms gs) ++ S)
      (joined (length (places_tokens N [] opening (as_terms gs))) (as_walked N vs (compare_all N opening ts gs)) w) →
      Walks (bracketed ts (places_tokens N vs opening ts) ++ R) (bracketed (as_terms gs) (places_tokens N [] opening (as_terms gs)) ++ S)
      (joined (length (bracketed (as_terms gs) (places_tokens N [] opening (as_terms gs)))) (as_walked N vs (compare_all N opening ts gs)) w)
  walk-behind nil gnil ks R S w h i k all = subst (Walks R S) (sym (joined_none w)) k
  walk-behind nil (gcons g gs) [] R S w h i k all = absurd i
  walk-behind nil (gcons g gs) (j ∷ ks) R S w h i k all = absurd h
  walk-behind (cons t ts) gnil [] R S w h i k all = absurd h
  walk-behind (cons t ts) gnil (j ∷ ks) R S w h i k all = absurd i
  walk-behind (cons t ts) (gcons g gs) ks R S w h i k all = all

  places_begin : (gs : Grounds) (S : List Token) → same (name_at (places_tokens N [] comma (as_terms gs) ++ S) 0) (mark opening) ≡ false
  places_begin gnil S = refl
  places_begin (gcons g gs) S = refl

  mutual
    walk-term : (t : Term) (g : Ground) (s : ℕ) (R S : List Token) (w : Walked) → Sorted (signature W) t s → SortedG (signature W) g s →
        All (λ (n : ℕ). n < length vs) (names t) → same (name_at S 0) (mark opening) ≡ false → Walks R S w →
        Walks (term_tokens N vs t ++ R) (ground_tokens N g ++ S) (joined (ground_size g) (as_walked N vs (compare N t g)) w)
    walk-term any g s R S w h i a b k =
        subst (Walks (opened ∷ R) (ground_tokens N g ++ S)) (over_open (ground_tokens N g) (walked_behind (ground_size g) w))
        (walk-over opened g R S w refl b k)
    walk-term (var n) g s R S w h i a b k =
        let e = (all-at IsVariable [] vs variables n a.0).variable in
        subst (Walks (name_at vs n ∷ R) (ground_tokens N g ++ S))
        (over-variable (name_at vs n) (ground_tokens N g) (walked_behind (ground_size g) w) e)
        (walk-over (name_at vs n) g R S w (or_right (same (name_at vs n) opened) (is_variable (name_at vs n)) e) b k)
    walk-term (app f ts) (gapp h gs) s R S w p q a b k =
        walk-word f h (bracketed ts (places_tokens N vs opening ts) ++ R)
        (bracketed (as_terms gs) (places_tokens N [] opening (as_terms gs)) ++ S)
        (length (bracketed (as_terms gs) (places_tokens N [] opening (as_terms gs)))) (compare_all N opening ts gs) w
        (word-known f p.0) (word-known h q.0)
        (λ e.
        let i : SortedGs (signature W) gs (arguments (signature W) f) =
        subst (λ (j : ℕ). SortedGs (signature W) gs (arguments (signature W) j)) (sym e) q.2 in
        walk-behind ts gs (arguments (signature W) f) R S w p.2 i k
        (walk-places ts gs (arguments (signature W) f) opening R S w p.2 i a refl k))

    walk-places : (ts : Terms) (gs : Grounds) (ks : List ℕ) (c : ℕ) (R S : List Token) (w : Walked) → SortedAll (signature W) ts ks →
        SortedGs (signature W) gs ks → All (λ (n : ℕ). n < length vs) (names_all ts) → is_open (mark c) ≡ false → Walks R S w →
        Walks (places_tokens N vs c ts ++ R) (places_tokens N [] c (as_terms gs) ++ S)
        (joined (length (places_tokens N [] c (as_terms gs))) (as_walked N vs (compare_all N c ts gs)) w)
    walk-places nil gnil ks c R S w h i a b k =
        subst (Walks (mark closing ∷ R) (mark closing ∷ S)) (sym (joined-one w))
        (walks_same (mark closing) (mark closing) R S w refl refl k)
    walk-places nil (gcons g gs) [] c R S w h i a b k = absurd i
    walk-places nil (gcons g gs) (j ∷ ks) c R S w h i a b k = absurd h
    walk-places (cons t ts) gnil [] c R S w h i a b k = absurd h
    walk-places (cons t ts) gnil (j ∷ ks) c R S w h i a b k = absurd i
    walk-places (cons t ts) (gcons g gs) [] c R S w h i a b k = absurd h
    walk-places (cons t ts) (gcons g gs) (j ∷ ks) c R S w h i a b k =
        let P : List Token = places_tokens N vs comma ts in
        let Q : List Token = places_tokens N [] comma (as_terms gs) in
        walk_first c (term_tokens N vs t) P R (ground_tokens N g) Q S (compare N t g) (compare_all N comma ts gs) w b
        (walk-term t g j (P ++ R) (Q ++ S) (joined (length Q) (as_walked N vs (compare_all N comma ts gs)) w) h.0 i.0
        (all_left (λ (n : ℕ). n < length vs) (names t) (names_all ts) a) (places_begin gs S)
        (walk-places ts gs ks comma R S w h.1 i.1 (all_right (λ (n : ℕ). n < length vs) (names t) (names_all ts) a) refl k))

pub walks_are_comparisons : WalksAreComparisons
walks_are_comparisons X p g R good whole q =
    let N : List Token = word_names X in
    let vs : List Token = p.variables in
    let y = phrase_sayable X vs p.kind p.term whole.phrase in
    let below = all_implies (λ (n : ℕ). (n < length vs) × (n < name_count)) (λ (n : ℕ). n < length vs) (λ n h. h.0) (names p.term) y.named in
    let k = walk-term N vs (vocabulary_of X) (kind_names X) (lexicon-named X good) y.variables p.term g p.kind R [] (fits [])
    y.sorted (sorted-ground (signature (vocabulary_of X)) g p.kind q.situation.good.sorted.sorted) below refl (walks_end R) in
    let us : List Token = ground_tokens N g in
    ap (walk (length us) (term_tokens N vs p.term ++ R)) (sym (append-nil us))
    ∙ k (length us) (let n = length-append us [] in omega arith)
    ∙ joined_end (length us) (as_walked N vs (compare N p.term g))
