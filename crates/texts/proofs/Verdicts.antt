-- Verdicts: the answer to a question is document 01's match.
--
--   Agree f ns c o             what is compared says c, and the matcher o: both that nothing fits, or both the same bindings, of the names
--                              ns, which the matcher puts behind those of f
--   agree_behind, agree_then, agree_first    what stands behind tokens, and behind a term that fits
--   agree_term, agree_places   where no variable stands twice, a pattern is compared as it is matched
--   agree_finds, agree_named   what is found on one side is found on the other
--   verdicts_are_matches       so the verdict is by a filling
--
use mathlib.Core.Path.{◌≡◌, refl, sym, ◌∙◌, ap, subst}
use mathlib.Core.Bool.{Bool, true, false, cond}
use mathlib.Core.List.{List, [], ◌∷◌, ◌++◌, append-nil, append_assoc, map-append}
use mathlib.Core.Logic.{◌↔◌}
use mathlib.Core.Option.{Option, some, none}
use Prim.Native.Nat.{ℕ}
use native.Mathlib.Omega.{arith}
use lib.Dec.{eqb}
use lib.ListN.{length}
use borrow.Author.Tests.{eqb-true}
use Rattle.terms.specs.Lists.{NoneTwice}
use Rattle.terms.specs.Signature.{Signature, arguments}
use Rattle.terms.specs.Term.{Term, any, var, app, Terms, nil, cons, Ground, gapp, Grounds, gnil, gcons, Sorted, SortedAll, SortedG, SortedGs, names, names_all}
use Rattle.terms.specs.Filling.{Binding, Filling, TurnsInto}
use Rattle.terms.specs.Matcher.{match_from, match_all, matcher, no_filling}
use Rattle.terms.proofs.Occurs.{none_twice_range, none_twice_front, none_twice_last}
use Rattle.terms.proofs.Ground.{sorted-ground}
use Rattle.terms.proofs.Binding.{keys_of}
use Rattle.terms.proofs.Matcher.{match_name-new, matcher_is_exact}
use Rattle.wire.specs.Vocabulary.{signature}
use Rattle.texts.specs.Lexemes.{Token}
use Rattle.texts.specs.Names.{mark, opening, comma, name_at}
use Rattle.texts.specs.Lexicon.{word_names, vocabulary_of}
use Rattle.texts.specs.Questions.{ground_tokens}
use Rattle.texts.specs.Verdicts.{Compared, covers, differs, behind_tokens, first_of, compare, compare_all}
use Rattle.texts.specs.Laws.{VerdictsAreMatches}

abbrev Agree : Filling → List ℕ → Compared → Option Filling → Type 0
Agree f ns (covers bs) none = ⊥
Agree f ns (covers bs) (some h) = (h.named ≡ f.named ++ bs) × (keys_of bs ≡ ns)
Agree f ns (differs us k) none = Unit {0}
Agree f ns (differs us k) (some h) = ⊥

agree_behind : (us : List Token) (f : Filling) (ns : List ℕ) (c : Compared) (o : Option Filling) → Agree f ns c o →
    Agree f ns (behind_tokens us c) o
agree_behind us f ns (covers bs) o a = a
agree_behind us f ns (differs vs k) none a = tt
agree_behind us f ns (differs vs k) (some h) a = a

agree_then : (us : List Token) (f h : Filling) (bs : List Binding) (ms : List ℕ) (d : Compared) (o : Option Filling) →
    h.named ≡ f.named ++ bs → Agree h ms d o → Agree f (keys_of bs ++ ms) (first_of us (covers bs) d) o
agree_then us f h bs ms (covers ds) none e a = a
agree_then us f h bs ms (covers ds) (some k) e a = (
  a.0 ∙ ap (λ (l : List Binding). l ++ ds) e ∙ append_assoc f.named bs ds,
  map-append (λ (b : Binding). b.name) bs ds ∙ ap (λ (l : List ℕ). keys_of bs ++ l) a.1,
)
agree_then us f h bs ms (differs vs k) none e a = tt
agree_then us f h bs ms (differs vs k) (some j) e a = a

agree_first : (us : List Token) (f : Filling) (ns ms : List ℕ) (c d : Compared) (o : Option Filling) (more : Filling → Option Filling) →
    Agree f ns c o → ((h : Filling) → keys_of h.named ≡ keys_of f.named ++ ns → Agree h ms d (more h)) →
    Agree f (ns ++ ms) (first_of us c d) (elim o as (λ z. Option Filling) [ none ↦ none | some h ↦ more h ])
agree_first us f ns ms (covers bs) d none more a b = absurd a
agree_first us f ns ms (covers bs) d (some h) more a b =
    subst (λ (l : List ℕ). Agree f (l ++ ms) (first_of us (covers bs) d) (more h)) a.1
    (agree_then us f h bs ms d (more h) a.0
    (b h (ap keys_of a.0 ∙ map-append (λ (x : Binding). x.name) f.named bs ∙ ap (λ (l : List ℕ). keys_of f.named ++ l) a.1)))
agree_first us f ns ms (differs vs k) d none more a b = tt
agree_first us f ns ms (differs vs k) d (some h) more a b = absurd a

module _ (N : List Token) (S : Signature) where
  agree_word : (k h : ℕ) (ts : Terms) (gs : Grounds) (f : Filling) →
      (k ≡ h → Agree f (names_all ts) (compare_all N opening ts gs) (match_all ts gs f)) →
      Agree f (names_all ts) (compare N (app k ts) (gapp h gs)) (match_from (app k ts) (gapp h gs) f)
  agree_word k h ts gs f a = go (eqb k h) refl
    where
      go : (b : Bool) → eqb k h ≡ b →
          Agree f (names_all ts) (cond b (behind_tokens (name_at N h ∷ []) (compare_all N opening ts gs)) (differs [] k))
          (elim b as (λ z. Option Filling) [ true ↦ match_all ts gs f | false ↦ none ])
      go true e = agree_behind (name_at N h ∷ []) f (names_all ts) (compare_all N opening ts gs) (match_all ts gs f) (a (eqb-true k h e))
      go false e = tt

  mutual
    agree_term : (t : Term) (g : Ground) (s : ℕ) (f : Filling) → Sorted S t s → SortedG S g s → NoneTwice (keys_of f.named ++ names t) →
        Agree f (names t) (compare N t g) (match_from t g f)
    agree_term any g s f h i u = (sym (append-nil f.named), refl)
    agree_term (var n) g s f h i u =
        subst (Agree f (n ∷ []) (covers (record { name = n; value = g } ∷ [])))
        (sym (match_name-new n g f (none_twice_last (keys_of f.named) n u))) (refl, refl)
    agree_term (app k ts) (gapp h gs) s f p q u =
        agree_word k h ts gs f
        (λ e. agree_places ts gs (arguments S k) opening f p.2 (subst (λ (j : ℕ). SortedGs S gs (arguments S j)) (sym e) q.2) u)

    agree_places : (ts : Terms) (gs : Grounds) (ks : List ℕ) (c : ℕ) (f : Filling) → SortedAll S ts ks → SortedGs S gs ks →
        NoneTwice (keys_of f.named ++ names_all ts) → Agree f (names_all ts) (compare_all N c ts gs) (match_all ts gs f)
    agree_places nil gnil ks c f h i u = (sym (append-nil f.named), refl)
    agree_places nil (gcons g gs) [] c f h i u = absurd i
    agree_places nil (gcons g gs) (k ∷ ks) c f h i u = absurd h
    agree_places (cons t ts) gnil [] c f h i u = absurd h
    agree_places (cons t ts) gnil (k ∷ ks) c f h i u = absurd i
    agree_places (cons t ts) (gcons g gs) [] c f h i u = absurd h
    agree_places (cons t ts) (gcons g gs) (k ∷ ks) c f h i u =
        let v : NoneTwice ((keys_of f.named ++ names t) ++ names_all ts) = rw (append_assoc (keys_of f.named) (names t) (names_all ts)) u in
        agree_behind (mark c ∷ []) f (names t ++ names_all ts) (first_of (ground_tokens N g) (compare N t g) (compare_all N comma ts gs))
        (match_all (cons t ts) (gcons g gs) f)
        (agree_first (ground_tokens N g) f (names t) (names_all ts) (compare N t g) (compare_all N comma ts gs) (match_from t g f) (match_all ts gs)
        (agree_term t g k f h.0 i.0 (none_twice_front (keys_of f.named ++ names t) (names_all ts) v))
        (λ j e. agree_places ts gs ks comma j h.1 i.1 (subst (λ (l : List ℕ). NoneTwice (l ++ names_all ts)) (sym e) v)))

agree_finds : (ns : List ℕ) (c : Compared) (o : Option Filling) (bs : List Binding) → Agree no_filling ns c o → c ≡ covers bs →
    (f : Filling) × (o ≡ some f) × (f.named ≡ bs)
agree_finds ns (covers cs) none bs a e = absurd a
agree_finds ns (covers cs) (some f) bs a e = (f, refl, cc)
agree_finds ns (differs us k) o bs a e = let z : ◌≡◌ {A = ℕ} 0 1 = cc in absurd (omega arith)

agree_named : (ns : List ℕ) (c : Compared) (o : Option Filling) (f : Filling) → Agree no_filling ns c o → o ≡ some f → c ≡ covers f.named
agree_named ns (covers cs) none f a e = absurd a
agree_named ns (covers cs) (some h) f a e = ap covers (sym a.0 ∙ cc)
agree_named ns (differs us k) none f a e = let z : ◌≡◌ {A = ℕ} 0 1 = cc in absurd (omega arith)
agree_named ns (differs us k) (some h) f a e = absurd a

pub verdicts_are_matches : VerdictsAreMatches
verdicts_are_matches X p g good whole q bs = (
  λ e.
      let r = agree_finds (names p.term) c (matcher p.term g) bs agree e in
      (r.0, (exact r.0).0 r.1, r.2),
  λ r. agree_named (names p.term) c (matcher p.term g) r.0 agree ((exact r.0).1 r.1) ∙ ap covers r.2,
)
  where
    S : Signature
    S = signature (vocabulary_of X)

    c : Compared
    c = compare (word_names X) p.term g

    sorted : Sorted S p.term p.kind
    sorted = whole.phrase.term.good.sorted.sorted

    ground : SortedG S g p.kind
    ground = sorted-ground S g p.kind q.situation.good.sorted.sorted

    linear : NoneTwice (names p.term)
    linear = rw whole.phrase.numbered (none_twice_range 0 (length p.variables))

    agree : Agree no_filling (names p.term) c (matcher p.term g)
    agree = agree_term (word_names X) S p.term g p.kind no_filling sorted ground linear

    exact : (f : Filling) → (matcher p.term g ≡ some f) ↔ TurnsInto S p.term p.kind f g
    exact f = matcher_is_exact S p.term p.kind g f sorted ground
