-- Partition: every ground term of the sort is counted once among the pattern and its entries.
--
--   counted-once             the count, which needs no pattern to be linear, over all entries
--   counted_once_listed   .. and over those that some ground term fits
--   counted_fits_one         of linear terms, a ground term that is counted once fits exactly one, by one filling
--   partition                every ground term fits exactly one of a linear pattern and its entries, by one filling
--
use mathlib.Core.Path.{◌≡◌, refl, sym, ◌∙◌, ap, subst}
use mathlib.Core.Bool.{Bool, true, false, not, ◌&&◌, and-true, true≢false}
use mathlib.Core.List.{List, [], ◌∷◌}
use Prim.Native.Nat.{ℕ, ◌+◌, ◌<◌}
use native.Mathlib.Omega.{arith}
use lib.Dec.{eqb}
use lib.ListN.{length, get_or}
use borrow.Author.Tests.{eq-eqb, eqb-true}
use Rattle.terms.specs.Lists.{range}
use Rattle.terms.specs.Signature.{Signature, result, arguments, WellFormed}
use Rattle.terms.specs.Term.{Term, any, var, app, Terms, nil, cons, Ground, gapp, Grounds, gnil, gcons, Sorted, SortedAll, SortedG, SortedGs, Linear}
use Rattle.terms.specs.Listing.{others, bare, open_every, listing, listing_all, FitsExactlyOne}
use Rattle.terms.specs.Productive.{fitted, listing_of}
use Rattle.terms.specs.Laws.{Partition, PatternsOfSort}
use Rattle.terms.proofs.Bools.{eqb_sym, and_always, and_where, false_of_not}
use Rattle.terms.proofs.Count.{bit, count, count_same, count_never, count_beside, count-keep, count-range, count-one, count-maps}
use Rattle.terms.proofs.All.{all-at}
use Rattle.terms.proofs.Fit.{fit, fit_all, open_fits, fit_once, fits_fit}
use Rattle.terms.proofs.Inhabited.{ground-inhabited}
use Rattle.terms.proofs.Entries.{open_every-all_open}
use Rattle.terms.proofs.Fitted.{fit_fitted, count-fitted}
use Rattle.terms.proofs.Listing.{listing_of-fitted, listing_of_open, is_listing-of, entries_are_linear_patterns}

-- A symbol with every place open fits the terms of that symbol and no others.
opened-fits : (S : Signature) (h k : ℕ) (gs : Grounds) → SortedGs S gs (arguments S k) → fit (bare S h) (gapp k gs) ≡ eqb h k
opened-fits S h k gs a = go (eqb h k) refl
  where
    go : (b : Bool) → eqb h k ≡ b → fit (bare S h) (gapp k gs) ≡ eqb h k
    go true e = and_always (eqb h k) _ (open_fits S gs (arguments S h) (rw (eqb-true h k e) a))
    go false e = rw e

-- Among the other symbols of f's result sort, k of that sort stands once, unless it is f.
count-others : (S : Signature) (f k : ℕ) → k < length S.symbols → result S k ≡ result S f →
    count (λ h. eqb h k) (others S f) ≡ bit (not (eqb k f))
count-others S f k below e =
    count-keep (λ h. eqb h k) _ (range 0 (length S.symbols)) ∙
    count_same _ _ (range 0 (length S.symbols)) (λ h. and_where _ _ (eqb h k) (there h)) ∙
    go (eqb k f)
  where
    there : (h : ℕ) → eqb h k ≡ true → (not (eqb h f) && eqb (result S h) (result S f)) ≡ not (eqb k f)
    there h d = rw (eqb-true h k d) (and_always (not (eqb k f)) _ (eq-eqb (result S k) (result S f) e))

    go : (b : Bool) → count (λ h. not b && eqb h k) (range 0 (length S.symbols)) ≡ bit (not b)
    go true = count_never (λ h. false) (range 0 (length S.symbols)) (λ h. refl)
    go false = count-range k 0 (length S.symbols) (omega arith) (omega arith)

-- The entries of f with the places ts, counted by the two parts of the listing.
count-app : (S : Signature) (f : ℕ) (ts : Terms) (k : ℕ) (gs : Grounds) → SortedGs S gs (arguments S k) →
    k < length S.symbols → result S k ≡ result S f →
    (k ≡ f → bit (fit_all ts gs) + count (λ es. fit_all es gs) (listing_all S ts) ≡ 1) →
    bit (fit (app f ts) (gapp k gs)) + count (λ e. fit e (gapp k gs)) (listing S (app f ts)) ≡ 1
count-app S f ts k gs a below e rest = rw (parts, eqb_sym f k) (go (eqb k f) refl)
  where
    parts : count (λ e. fit e (gapp k gs)) (listing S (app f ts)) ≡ bit (not (eqb k f)) + count (λ es. eqb f k && fit_all es gs) (listing_all S ts)
    parts =
        count-maps (λ e. fit e (gapp k gs)) (bare S) (app f) (others S f) (listing_all S ts) ∙
        ap (λ n. n + count (λ es. eqb f k && fit_all es gs) (listing_all S ts))
        (count_same _ _ (others S f) (λ h. opened-fits S h k gs a) ∙ count-others S f k below e)

    go : (b : Bool) → eqb k f ≡ b → bit (b && fit_all ts gs) + (bit (not b) + count (λ es. b && fit_all es gs) (listing_all S ts)) ≡ 1
    go true d = omega (arith, rest (eqb-true k f d))
    go false d = omega (arith, count_never (λ (es : Terms). false) (listing_all S ts) (λ es. refl))

-- The entries of one more place, counted by the two parts of the listing.
count-cons : (S : Signature) (t : Term) (ts : Terms) (ks : List ℕ) (g : Ground) (gs : Grounds) → SortedAll S ts ks → SortedGs S gs ks →
    bit (fit t g) + count (λ e. fit e g) (listing S t) ≡ 1 →
    bit (fit_all ts gs) + count (λ es. fit_all es gs) (listing_all S ts) ≡ 1 →
    bit (fit_all (cons t ts) (gcons g gs)) + count (λ es. fit_all es (gcons g gs)) (listing_all S (cons t ts)) ≡ 1
count-cons S t ts ks g gs h a one rest =
    let places = count_beside (fit t g) (fit_all ts gs) true (λ es. fit_all es gs) (λ es. fit t g && fit_all es gs) (listing_all S ts) (λ es. refl) (λ e. rest) in
    rw parts (omega (arith, places, ap bit (and-true (fit t g))))
  where
    parts : count (λ es. fit_all es (gcons g gs)) (listing_all S (cons t ts)) ≡
        count (λ e. fit e g) (listing S t) + count (λ es. fit t g && fit_all es gs) (listing_all S ts)
    parts =
        count-maps (λ es. fit_all es (gcons g gs)) (λ e. cons e (open_every ts)) (cons t) (listing S t) (listing_all S ts) ∙
        ap (λ n. n + count (λ es. fit t g && fit_all es gs) (listing_all S ts))
        (count_same _ _ (listing S t) (λ e. and_always (fit e g) _ (rw (open_every-all_open S ts ks h) (open_fits S gs ks a))))

mutual
  pub counted-once : (S : Signature) (p : Term) (s : ℕ) (g : Ground) → Sorted S p s → SortedG S g s →
      bit (fit p g) + count (λ e. fit e g) (listing S p) ≡ 1
  counted-once S any s g h a = refl
  counted-once S (var n) s g h a = refl
  counted-once S (app f ts) s (gapp k gs) h a =
      count-app S f ts k gs a.2 a.0 (a.1 ∙ sym h.1)
      (λ e. counted_once_all S ts (arguments S f) gs h.2 (subst (λ n. SortedGs S gs (arguments S n)) e a.2))

  counted_once_all : (S : Signature) (ts : Terms) (ks : List ℕ) (gs : Grounds) → SortedAll S ts ks → SortedGs S gs ks →
      bit (fit_all ts gs) + count (λ es. fit_all es gs) (listing_all S ts) ≡ 1
  counted_once_all S nil [] gnil h a = refl
  counted_once_all S nil [] (gcons g gs) h a = absurd a
  counted_once_all S nil (k ∷ ks) gs h a = absurd h
  counted_once_all S (cons t ts) [] gs h a = absurd h
  counted_once_all S (cons t ts) (k ∷ ks) gnil h a = absurd a
  counted_once_all S (cons t ts) (k ∷ ks) (gcons g gs) h a =
      count-cons S t ts ks g gs h.1 a.1 (counted-once S t k g h.0 a.0) (counted_once_all S ts ks gs h.1 a.1)

-- Where the pattern is not fitted, no ground term fits it, and every one fits the open place that is listed.
pub counted_once_listed : (S : Signature) (p : Term) (s : ℕ) (g : Ground) → WellFormed S → Sorted S p s → SortedG S g s →
    bit (fit p g) + count (λ e. fit e g) (listing_of S s p) ≡ 1
counted_once_listed S p s g wf h k = go (fitted S s p) refl
  where
    go : (b : Bool) → fitted S s p ≡ b → bit (fit p g) + count (λ e. fit e g) (listing_of S s p) ≡ 1
    go true e = rw (listing_of-fitted S s p e, count-fitted S wf g s k (listing S p)) (counted-once S p s g h k)
    go false e =
        let n : fit p g ≡ false = false_of_not (fit p g) (λ t. true≢false (sym (fit_fitted S wf p g s k t) ∙ e)) in
        rw (listing_of_open S s p e (ground-inhabited S wf g s k), n) (omega arith)

pub counted_fits_one : (S : Signature) (l : List Term) (s : ℕ) → PatternsOfSort S s l → (g : Ground) → SortedG S g s →
    count (λ e. fit e g) l ≡ 1 → FitsExactlyOne S l s g
counted_fits_one S l s a g k c =
    let one = count-one (λ e. fit e g) any l c in
    let entry = all-at (λ e. Sorted S e s × Linear e) any l a one.0 one.1 in
    record {
      index = one.0;
      below = one.1;
      once = fit_once S (get_or l one.0 any) s g entry.0 entry.1 k one.2;
      only = λ j b f. one.3 j b (fits_fit S (get_or l j any) s g f);
    }

pub partition : Partition
partition S p s l wf h u is g k =
    let once : bit (fit p g) + count (λ e. fit e g) l ≡ 1 = rw (is_listing-of S p s wf h u l is) (counted_once_listed S p s g wf h k) in
    counted_fits_one S (p ∷ l) s ((h, u), entries_are_linear_patterns S p s l h u is) g k once
