-- Fitted: what is computed of a linear term tells whether some ground term fits it.
--
--   fruitful-ground      a fruitful term of an inhabited sort has a ground term with its symbols
--   fitted-ground        .. and so has a fitted term
--   fit_fruitful         a term is fruitful where some ground term has its symbols
--   fit_fitted           .. and fitted, with that ground term's sort
--   fitted_is_exact      a linear term is fitted exactly where some ground term fits it
--   fitted_decides       .. of each of some linear patterns
--   ground-fitted        an open place is fitted where its sort has a ground term
--   count-fitted         leaving out what is not fitted leaves out nothing that a ground term fits
--   all-fruitful         over inhabited sorts every term is fruitful
--   all-fitted           .. and, where its sort is one of the signature, fitted
--   keep_fitted_all      .. so nothing is left out
--
use mathlib.Core.Path.{◌≡◌, refl, ◌∙◌, ap}
use mathlib.Core.Bool.{true, false≢true}
use mathlib.Core.List.{List, [], ◌∷◌}
use Prim.Native.Nat.{ℕ, ◌<◌}
use lib.Dec.{eqb}
use borrow.Author.Tests.{eqb-true}
use Rattle.terms.specs.Lists.{All, keep}
use Rattle.terms.specs.Signature.{Signature, arguments, WellFormed}
use Rattle.terms.specs.Term.{Term, any, var, app, Terms, nil, cons, Ground, gapp, Grounds, gnil, gcons, Sorted, SortedAll, SortedG, SortedGs}
use Rattle.terms.specs.Inhabited.{HasGround, Inhabited}
use Rattle.terms.specs.Listing.{Fitted}
use Rattle.terms.specs.Emptiness.{covered, reached, inhabited}
use Rattle.terms.specs.Productive.{productive, fruitful, fruitful_all, fitted}
use Rattle.terms.specs.Laws.{FittedIsExact, PatternsOfSort}
use Rattle.terms.proofs.Bools.{eqb_refl, and_parts, and_both, and_where}
use Rattle.terms.proofs.All.{all_implies}
use Rattle.terms.proofs.Keep.{keep_agree, keep_all}
use Rattle.terms.proofs.Kept.{Decides}
use Rattle.terms.proofs.Count.{count, count_same, count-keep}
use Rattle.terms.proofs.Inhabited.{emptiness_is_exact, inhabited-ground, ground-inhabited, ground-productive, all-productive}
use Rattle.terms.proofs.Fit.{fit, fit_all, fit_fits, fits_fit}

-- ---- what is fitted has a ground term

mutual
  pub fruitful-ground : (S : Signature) (t : Term) (s : ℕ) → Sorted S t s → inhabited S s ≡ true → fruitful S t ≡ true →
      (g : Ground) × SortedG S g s × (fit t g ≡ true)
  fruitful-ground S any s h i e = let w = inhabited-ground S s i in (w.0, w.1, refl)
  fruitful-ground S (var n) s h i e = let w = inhabited-ground S s i in (w.0, w.1, refl)
  fruitful-ground S (app f ts) s h i e =
      let r = and_parts (productive S f) (fruitful_all S ts) e in
      let w = fruitful-grounds S ts (arguments S f) h.2 r.0 r.1 in
      (gapp f w.0, (h.0, h.1, w.1), and_both _ _ (eqb_refl f) w.2)

  fruitful-grounds : (S : Signature) (ts : Terms) (ks : List ℕ) →
      SortedAll S ts ks → covered ks (reached S S.sorts) ≡ true → fruitful_all S ts ≡ true →
      (gs : Grounds) × SortedGs S gs ks × (fit_all ts gs ≡ true)
  fruitful-grounds S nil [] h c e = (gnil, tt, refl)
  fruitful-grounds S nil (k ∷ ks) h c e = absurd h
  fruitful-grounds S (cons t ts) [] h c e = absurd h
  fruitful-grounds S (cons t ts) (k ∷ ks) h c e =
      let i = and_parts (inhabited S k) (covered ks (reached S S.sorts)) c in
      let r = and_parts (fruitful S t) (fruitful_all S ts) e in
      let w = fruitful-ground S t k h.0 i.0 r.0 in
      let v = fruitful-grounds S ts ks h.1 i.1 r.1 in
      (gcons w.0 v.0, (w.1, v.1), and_both _ _ w.2 v.2)

pub fitted-ground : (S : Signature) (t : Term) (s : ℕ) → Sorted S t s → fitted S s t ≡ true → (g : Ground) × SortedG S g s × (fit t g ≡ true)
fitted-ground S t s h e = let r = and_parts (inhabited S s) (fruitful S t) e in fruitful-ground S t s h r.0 r.1

-- ---- what a ground term has the symbols of is fitted

module _ (S : Signature) (wf : WellFormed S) where
  mutual
    pub fit_fruitful : (t : Term) (g : Ground) (s : ℕ) → SortedG S g s → fit t g ≡ true → fruitful S t ≡ true
    fit_fruitful any g s k e = refl
    fit_fruitful (var n) g s k e = refl
    fit_fruitful (app f ts) (gapp h gs) s k e =
        let r = and_parts (eqb f h) (fit_all ts gs) e in
        and_both (productive S f) (fruitful_all S ts)
        (ap (productive S) (eqb-true f h r.0) ∙ ground-productive S wf h gs k.2) (fit_fruitful_all ts gs (arguments S h) k.2 r.1)

    fit_fruitful_all : (ts : Terms) (gs : Grounds) (ks : List ℕ) → SortedGs S gs ks → fit_all ts gs ≡ true → fruitful_all S ts ≡ true
    fit_fruitful_all nil gs ks k e = refl
    fit_fruitful_all (cons t ts) gnil ks k e = absurd (false≢true e)
    fit_fruitful_all (cons t ts) (gcons g gs) [] k e = absurd k
    fit_fruitful_all (cons t ts) (gcons g gs) (s ∷ ks) k e =
        let r = and_parts (fit t g) (fit_all ts gs) e in
        and_both (fruitful S t) (fruitful_all S ts) (fit_fruitful t g s k.0 r.0) (fit_fruitful_all ts gs ks k.1 r.1)

  pub fit_fitted : (t : Term) (g : Ground) (s : ℕ) → SortedG S g s → fit t g ≡ true → fitted S s t ≡ true
  fit_fitted t g s k e = and_both (inhabited S s) (fruitful S t) (ground-inhabited S wf g s k) (fit_fruitful t g s k e)

  pub count-fitted : (g : Ground) (s : ℕ) → SortedG S g s → (l : List Term) →
      count (λ e. fit e g) (keep (fitted S s) l) ≡ count (λ e. fit e g) l
  count-fitted g s k l =
      count-keep (λ e. fit e g) (fitted S s) l ∙
      count_same _ _ l (λ e. and_where (fitted S s e) true (fit e g) (fit_fitted e g s k))

pub fitted_is_exact : FittedIsExact
fitted_is_exact S t s wf h u = (there, λ (g, k, f). fit_fitted S wf t g s k (fits_fit S t s g f))
  where
    there : fitted S s t ≡ true → Fitted S s t
    there e = let w = fitted-ground S t s h e in (w.0, w.1, fit_fits S t s w.0 u w.1 w.2)

pub fitted_decides : (S : Signature) (s : ℕ) (l : List Term) → WellFormed S → PatternsOfSort S s l → All (Decides (Fitted S s) (fitted S s)) l
fitted_decides S s l wf a = all_implies _ _ (λ t (h, u). fitted_is_exact S t s wf h u) l a

pub ground-fitted : (S : Signature) (s : ℕ) → HasGround S s → Fitted S s any
ground-fitted S s (g, k) = (g, k, fit_fits S any s g tt k refl)

-- ---- over inhabited sorts

module _ (S : Signature) (wf : WellFormed S) (full : Inhabited S) where
  mutual
    pub all-fruitful : (t : Term) (s : ℕ) → Sorted S t s → fruitful S t ≡ true
    all-fruitful any s h = refl
    all-fruitful (var n) s h = refl
    all-fruitful (app f ts) s h =
        and_both (productive S f) (fruitful_all S ts) (all-productive S wf full f h.0) (all-fruitful_all ts (arguments S f) h.2)

    all-fruitful_all : (ts : Terms) (ks : List ℕ) → SortedAll S ts ks → fruitful_all S ts ≡ true
    all-fruitful_all nil ks h = refl
    all-fruitful_all (cons t ts) [] h = absurd h
    all-fruitful_all (cons t ts) (k ∷ ks) h = and_both (fruitful S t) (fruitful_all S ts) (all-fruitful t k h.0) (all-fruitful_all ts ks h.1)

  pub all-fitted : (s : ℕ) → s < S.sorts → (t : Term) → Sorted S t s → fitted S s t ≡ true
  all-fitted s b t h = and_both (inhabited S s) (fruitful S t) (((emptiness_is_exact S wf).ground s).1 (full s b)) (all-fruitful t s h)

  pub keep_fitted_all : (s : ℕ) → s < S.sorts → (l : List Term) → All (λ t. Sorted S t s) l → keep (fitted S s) l ≡ l
  keep_fitted_all s b l a = keep_agree (fitted S s) (λ t. true) l (all_implies _ _ (all-fitted s b) l a) ∙ keep_all l
