-- Sharing: two terms that ground terms fit share none exactly where they are disjoint; elsewhere they share what both allow.
--
--   fit_both          a ground term fits both terms exactly where they are not disjoint and it fits what both allow
--   fit_disjoint      .. so none fits both where they are disjoint
--   fit_shared        .. and elsewhere those do that fit what both allow
--   same-symbol       what is known of the places of two applications that are not disjoint
--   both-sorted       what both allow has the sort, and no name where the first has none
--   fruitful-nameless   a term with its names opened is fruitful where the term is
--   both-fruitful     what both allow is fruitful where both are
--   meets S s p e     the pattern p is fitted and not disjoint from the entry e
--   meets_apart       .. so it is not disjoint
--   fit_meets         what fits both shows that they meet
--   meets_shared      .. and where they meet and the entry is fitted, something fits both
--   shares_meets      so linear terms share a ground term exactly where they meet
--
use mathlib.Core.Path.{◌≡◌, refl, sym, ◌∙◌, ap, ap₂, subst}
use mathlib.Core.Bool.{Bool, true, false, not, ◌&&◌, ◌||◌, and-true, and-false, and_self, true≢false}
use mathlib.Core.List.{List, [], ◌∷◌}
use mathlib.Core.Logic.{◌↔◌}
use Prim.Native.Nat.{ℕ}
use lib.Dec.{eqb}
use borrow.Author.Tests.{ne_eqb, eqb-true, eqb-false, not-true, not-false}
use Rattle.terms.specs.Signature.{Signature, arguments, WellFormed}
use Rattle.terms.specs.Term.{Term, any, var, app, Terms, nil, cons, Ground, gapp, Grounds, gnil, gcons, Sorted, SortedAll, SortedG, names, names_all, Linear}
use Rattle.terms.specs.Book.{nameless, nameless_all, Shares, disjoint, disjoint_all, both, both_all}
use Rattle.terms.specs.Emptiness.{inhabited}
use Rattle.terms.specs.Productive.{productive, fruitful, fruitful_all, fitted}
use Rattle.terms.specs.Laws.{DisjointSharesNothing}
use Rattle.terms.proofs.Bools.{and_parts, and_both, and_swap, not_or, or_parts, false_of_not}
use Rattle.terms.proofs.Fit.{fit, fit_all, fit_fits, fits_fit}
use Rattle.terms.proofs.Fitted.{fit_fitted, fitted-ground, fitted_is_exact}
use Rattle.terms.proofs.Fresh.{meeting-words}
use Rattle.terms.proofs.Nameless.{none_parts, none_append, fit_nameless, nameless-entry}

-- The symbols of two terms and of a ground term, where a, b, c and d are what is said of their places.
symbols-both : (f q k : ℕ) (a b c d : Bool) → (f ≡ q → (a && b) ≡ (not d && c)) →
    ((eqb f k && a) && (eqb q k && b)) ≡ (not (not (eqb f q) || d) && (eqb f k && c))
symbols-both f q k a b c d rest = go (eqb f q) refl (eqb f k) refl
  where
    go : (x : Bool) → eqb f q ≡ x → (y : Bool) → eqb f k ≡ y → ((y && a) && (eqb q k && b)) ≡ (not (not x || d) && (y && c))
    go true e true h = rw (← eqb-true f q e, h) (rest (eqb-true f q e))
    go true e false h = sym (and-false (not d))
    go false e true h = rw (ne_eqb q k (λ r. eqb-false f q e (eqb-true f k h ∙ sym r))) (and-false a)
    go false e false h = refl

mutual
  pub fit_both : (S : Signature) (e p : Term) (s : ℕ) (g : Ground) → Sorted S e s → Sorted S p s →
      (fit e g && fit p g) ≡ (not (disjoint e p) && fit (both e p) g)
  fit_both S any p s g h k = sym (fit_nameless p g)
  fit_both S (var n) p s g h k = sym (fit_nameless p g)
  fit_both S (app f es) any s g h k = and-true (fit (app f es) g)
  fit_both S (app f es) (var n) s g h k = and-true (fit (app f es) g)
  fit_both S (app f es) (app q ps) s (gapp j gs) h k =
      symbols-both f q j (fit_all es gs) (fit_all ps gs) (fit_all (both_all es ps) gs) (disjoint_all es ps)
      (λ e. fit_both_all S es ps (arguments S f) gs h.2 (subst (λ n. SortedAll S ps (arguments S n)) (sym e) k.2))

  fit_both_all : (S : Signature) (es ps : Terms) (ks : List ℕ) (gs : Grounds) → SortedAll S es ks → SortedAll S ps ks →
      (fit_all es gs && fit_all ps gs) ≡ (not (disjoint_all es ps) && fit_all (both_all es ps) gs)
  fit_both_all S nil nil ks gs h k = and_self (fit_all nil gs)
  fit_both_all S nil (cons p ps) [] gs h k = absurd k
  fit_both_all S nil (cons p ps) (i ∷ ks) gs h k = absurd h
  fit_both_all S (cons e es) nil [] gs h k = absurd h
  fit_both_all S (cons e es) nil (i ∷ ks) gs h k = absurd k
  fit_both_all S (cons e es) (cons p ps) [] gs h k = absurd h
  fit_both_all S (cons e es) (cons p ps) (i ∷ ks) gnil h k = sym (and-false (not (disjoint e p || disjoint_all es ps)))
  fit_both_all S (cons e es) (cons p ps) (i ∷ ks) (gcons g gs) h k =
      and_swap (fit e g) (fit_all es gs) (fit p g) (fit_all ps gs) ∙
      ap₂ ◌&&◌ (fit_both S e p i g h.0 k.0) (fit_both_all S es ps ks gs h.1 k.1) ∙
      and_swap (not (disjoint e p)) (fit (both e p) g) (not (disjoint_all es ps)) (fit_all (both_all es ps) gs) ∙
      ap (λ b. b && (fit (both e p) g && fit_all (both_all es ps) gs)) (sym (not_or (disjoint e p) (disjoint_all es ps)))

module _ (S : Signature) (e p : Term) (s : ℕ) (g : Ground) (h : Sorted S e s) (k : Sorted S p s) where
  pub fit_disjoint : disjoint e p ≡ true → (fit e g && fit p g) ≡ false
  fit_disjoint d = fit_both S e p s g h k ∙ ap (λ b. not b && fit (both e p) g) d

  pub fit_shared : disjoint e p ≡ false → (fit e g && fit p g) ≡ fit (both e p) g
  fit_shared d = fit_both S e p s g h k ∙ ap (λ b. not b && fit (both e p) g) d

pub same-symbol : (S : Signature) (f q : ℕ) (es ps : Terms) → disjoint (app f es) (app q ps) ≡ false → SortedAll S ps (arguments S q) →
    SortedAll S ps (arguments S f) × (disjoint_all es ps ≡ false)
same-symbol S f q es ps d k =
    let meet = meeting-words f q es ps d in
    (subst (λ n. SortedAll S ps (arguments S n)) (sym meet.0) k, meet.1)

mutual
  pub both-sorted : (S : Signature) (e p : Term) (s : ℕ) → Sorted S e s → Sorted S p s → disjoint e p ≡ false →
      Sorted S (both e p) s × (names e ≡ [] → names (both e p) ≡ [])
  both-sorted S any p s h k d = let r = nameless-entry S p s k in (r.0, λ e. r.1)
  both-sorted S (var n) p s h k d = let r = nameless-entry S p s k in (r.0, λ e. r.1)
  both-sorted S (app f es) any s h k d = (h, λ e. e)
  both-sorted S (app f es) (var n) s h k d = (h, λ e. e)
  both-sorted S (app f es) (app q ps) s h k d =
      let places = same-symbol S f q es ps d k.2 in
      let r = both_sorted_all S es ps (arguments S f) h.2 places.0 places.1 in
      ((h.0, h.1, r.0), r.1)

  both_sorted_all : (S : Signature) (es ps : Terms) (ks : List ℕ) → SortedAll S es ks → SortedAll S ps ks → disjoint_all es ps ≡ false →
      SortedAll S (both_all es ps) ks × (names_all es ≡ [] → names_all (both_all es ps) ≡ [])
  both_sorted_all S nil ps ks h k d = (h, λ e. e)
  both_sorted_all S (cons e es) nil [] h k d = absurd h
  both_sorted_all S (cons e es) nil (i ∷ ks) h k d = absurd k
  both_sorted_all S (cons e es) (cons p ps) [] h k d = absurd h
  both_sorted_all S (cons e es) (cons p ps) (i ∷ ks) h k d =
      let apart = or_parts (disjoint e p) (disjoint_all es ps) d in
      let r = both-sorted S e p i h.0 k.0 apart.0 in
      let q = both_sorted_all S es ps ks h.1 k.1 apart.1 in (
        (r.0, q.0),
        λ none. let n = none_parts (names e) (names_all es) none in none_append (names (both e p)) (names_all (both_all es ps)) (r.1 n.0) (q.1 n.1),
      )

-- Names bear no symbol.
mutual
  pub fruitful-nameless : (S : Signature) (t : Term) → fruitful S (nameless t) ≡ fruitful S t
  fruitful-nameless S any = refl
  fruitful-nameless S (var n) = refl
  fruitful-nameless S (app f ts) = ap (λ b. productive S f && b) (fruitful-nameless_all S ts)

  fruitful-nameless_all : (S : Signature) (ts : Terms) → fruitful_all S (nameless_all ts) ≡ fruitful_all S ts
  fruitful-nameless_all S nil = refl
  fruitful-nameless_all S (cons t ts) = ap₂ ◌&&◌ (fruitful-nameless S t) (fruitful-nameless_all S ts)

mutual
  pub both-fruitful : (S : Signature) (e p : Term) → fruitful S e ≡ true → fruitful S p ≡ true → fruitful S (both e p) ≡ true
  both-fruitful S any p h k = fruitful-nameless S p ∙ k
  both-fruitful S (var n) p h k = fruitful-nameless S p ∙ k
  both-fruitful S (app f es) any h k = h
  both-fruitful S (app f es) (var n) h k = h
  both-fruitful S (app f es) (app q ps) h k =
      let a = and_parts (productive S f) (fruitful_all S es) h in
      let b = and_parts (productive S q) (fruitful_all S ps) k in
      and_both (productive S f) (fruitful_all S (both_all es ps)) a.0 (both-fruitful_all S es ps a.1 b.1)

  both-fruitful_all : (S : Signature) (es ps : Terms) → fruitful_all S es ≡ true → fruitful_all S ps ≡ true → fruitful_all S (both_all es ps) ≡ true
  both-fruitful_all S nil ps h k = refl
  both-fruitful_all S (cons e es) nil h k = refl
  both-fruitful_all S (cons e es) (cons p ps) h k =
      let a = and_parts (fruitful S e) (fruitful_all S es) h in
      let b = and_parts (fruitful S p) (fruitful_all S ps) k in
      and_both (fruitful S (both e p)) (fruitful_all S (both_all es ps)) (both-fruitful S e p a.0 b.0) (both-fruitful_all S es ps a.1 b.1)

abbrev pub meets : Signature → ℕ → Term → Term → Bool
meets S s p e = fitted S s p && not (disjoint e p)

pub meets_apart : (S : Signature) (s : ℕ) (p e : Term) → meets S s p e ≡ true → disjoint e p ≡ false
meets_apart S s p e m = not-true (disjoint e p) (and_parts (fitted S s p) (not (disjoint e p)) m).1

module _ (S : Signature) (s : ℕ) (e p : Term) (wf : WellFormed S) (h : Sorted S e s) (k : Sorted S p s) where
  pub fit_meets : (g : Ground) → SortedG S g s → (fit e g && fit p g) ≡ true → meets S s p e ≡ true
  fit_meets g a f =
      and_both (fitted S s p) (not (disjoint e p)) (fit_fitted S wf p g s a (and_parts (fit e g) (fit p g) f).1)
      (and_parts (not (disjoint e p)) (fit (both e p) g) (sym (fit_both S e p s g h k) ∙ f)).0

  -- What both allow is fitted, and what fits it is shared.
  pub meets_shared : fitted S s e ≡ true → meets S s p e ≡ true → (g : Ground) × SortedG S g s × (fit e g ≡ true) × (fit p g ≡ true)
  meets_shared i m =
      let d = meets_apart S s p e m in
      let he = and_parts (inhabited S s) (fruitful S e) i in
      let hp = and_parts (inhabited S s) (fruitful S p) (and_parts (fitted S s p) (not (disjoint e p)) m).0 in
      let allowed = and_both (inhabited S s) (fruitful S (both e p)) he.0 (both-fruitful S e p he.1 hp.1) in
      let (g, a, f) = fitted-ground S (both e p) s (both-sorted S e p s h k d).0 allowed in
      let each = and_parts (fit e g) (fit p g) (fit_shared S e p s g h k d ∙ f) in
      (g, a, each.0, each.1)

  pub shares_meets : Linear e → Linear p → fitted S s e ≡ true → Shares S s e p ↔ (meets S s p e ≡ true)
  shares_meets u v i = (
    λ (g, a, f, j). fit_meets g a (and_both (fit e g) (fit p g) (fits_fit S e s g f) (fits_fit S p s g j)),
    λ m. let (g, a, f, j) = meets_shared i m in (g, a, fit_fits S e s g u a f, fit_fits S p s g v a j),
  )

pub disjoint_shares_nothing : DisjointSharesNothing
disjoint_shares_nothing S s e p wf he le hp lp fe fp = (
  λ d share. true≢false (sym d ∙ meets_apart S s p e (iff.0 share)),
  λ none. not-false (disjoint e p) (false_of_not (not (disjoint e p)) (λ d. none (iff.1 (and_both (fitted S s p) (not (disjoint e p)) fitted-p d)))),
)
  where
    fitted-p : fitted S s p ≡ true
    fitted-p = (fitted_is_exact S p s wf hp lp).1 fp

    iff : Shares S s e p ↔ (meets S s p e ≡ true)
    iff = shares_meets S s e p wf he hp le lp ((fitted_is_exact S e s wf he le).1 fe)
