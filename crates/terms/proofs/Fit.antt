-- Fit: a test on the shape alone, which for a linear pattern is the same as having a filling.
--
--   fit t g                g has the symbols of t wherever t has one: each variable stands for anything
--   fit_all ts gs           the same of the terms at a symbol's places, which are as many
--   fit_fits, fits_fit     the test against `Fits`
--   fit_once               .. and against `FitsOnce`
--
use mathlib.Core.Path.{◌≡◌, refl, sym, ◌∙◌, ap}
use mathlib.Core.Bool.{Bool, true, false, ◌&&◌, false≢true}
use mathlib.Core.List.{List, [], ◌∷◌, ◌++◌, map-append, append-nil, append_assoc}
use mathlib.Core.Option.{some}
use Prim.Native.Nat.{ℕ}
use lib.Dec.{eqb}
use lib.ListN.{drop}
use Rattle.terms.specs.Lists.{NoneTwice}
use Rattle.terms.specs.Signature.{Signature}
use Rattle.terms.specs.Term.{Term, any, var, app, Terms, nil, cons, Ground, gapp, Grounds, gnil, gcons, Sorted, SortedG, SortedGs, names, names_all, Linear, openings}
use Rattle.terms.specs.Filling.{Binding, Filling, fill_from, fill_all, Fits, FitsOnce}
use Rattle.terms.specs.Matcher.{with_open, with_name, match_from, match_all, no_filling}
use Rattle.terms.specs.Listing.{all_open}
use Rattle.terms.proofs.Bools.{eqb_refl, and_parts, and_both}
use Rattle.terms.proofs.Occurs.{none_twice_front, none_twice_last}
use Rattle.terms.proofs.Binding.{keys_of}
use Rattle.terms.proofs.Filling.{one-filling}
use Rattle.terms.proofs.Matcher.{match_name-new, match_app, match_cons, matcher-sound}

abbrev mutual
  pub fit : Term → Ground → Bool
  fit any g = true
  fit (var n) g = true
  fit (app f ts) (gapp h gs) = eqb f h && fit_all ts gs

  pub fit_all : Terms → Grounds → Bool
  fit_all nil gnil = true
  fit_all nil (gcons g gs) = false
  fit_all (cons t ts) gnil = false
  fit_all (cons t ts) (gcons g gs) = fit t g && fit_all ts gs

-- Open places, as many as are due, fit anything of the sorts.
pub open_fits : (S : Signature) (gs : Grounds) (ks : List ℕ) → SortedGs S gs ks → fit_all (all_open ks) gs ≡ true
open_fits S gnil [] h = refl
open_fits S gnil (k ∷ ks) h = absurd h
open_fits S (gcons g gs) [] h = absurd h
open_fits S (gcons g gs) (k ∷ ks) h = open_fits S gs ks h.1

-- A filled term has the term's symbols.
mutual
  fit_fill : (t : Term) (bs : List Binding) (gs : List Ground) → fit t (fill_from bs t gs) ≡ true
  fit_fill any bs gs = refl
  fit_fill (var n) bs gs = refl
  fit_fill (app f ts) bs gs = and_both (eqb f f) (fit_all ts (fill_all bs ts gs)) (eqb_refl f) (fit_fill_all ts bs gs)

  fit_fill_all : (ts : Terms) (bs : List Binding) (gs : List Ground) → fit_all ts (fill_all bs ts gs) ≡ true
  fit_fill_all nil bs gs = refl
  fit_fill_all (cons t ts) bs gs =
      and_both (fit t (fill_from bs t gs)) (fit_all ts (fill_all bs ts (drop (openings t) gs))) (fit_fill t bs gs) (fit_fill_all ts bs (drop (openings t) gs))

-- Where no variable stands twice, each is new to the matcher, which then accepts what passes the test.
mutual
  fit_match : (t : Term) (g : Ground) (f : Filling) → NoneTwice (keys_of f.named ++ names t) → fit t g ≡ true →
      (h : Filling) × (match_from t g f ≡ some h) × (keys_of h.named ≡ keys_of f.named ++ names t)
  fit_match any g f u e = (with_open f g, refl, sym (append-nil (keys_of f.named)))
  fit_match (var n) g f u e =
      (with_name f n g, match_name-new n g f (none_twice_last (keys_of f.named) n u), map-append (λ b. b.name) f.named _)
  fit_match (app k ts) (gapp h gs) f u e =
      let b = and_parts (eqb k h) (fit_all ts gs) e in
      let r = fit_match_all ts gs f u b.1 in
      (r.0, match_app k h ts gs f b.0 ∙ r.1, r.2)

  fit_match_all : (ts : Terms) (gs : Grounds) (f : Filling) → NoneTwice (keys_of f.named ++ names_all ts) → fit_all ts gs ≡ true →
      (h : Filling) × (match_all ts gs f ≡ some h) × (keys_of h.named ≡ keys_of f.named ++ names_all ts)
  fit_match_all nil gnil f u e = (f, refl, sym (append-nil (keys_of f.named)))
  fit_match_all nil (gcons g gs) f u e = absurd (false≢true e)
  fit_match_all (cons t ts) gnil f u e = absurd (false≢true e)
  fit_match_all (cons t ts) (gcons g gs) f u e =
      let b = and_parts (fit t g) (fit_all ts gs) e in
      let v : NoneTwice ((keys_of f.named ++ names t) ++ names_all ts) = rw append_assoc u in
      let r = fit_match t g f (none_twice_front (keys_of f.named ++ names t) (names_all ts) v) b.0 in
      let q = fit_match_all ts gs r.0 (rw r.2 v) b.1 in
      (q.0, match_cons t ts g gs f r.0 r.1 ∙ q.1, q.2 ∙ rw r.2 (append_assoc (keys_of f.named) (names t) (names_all ts)))

pub fit_fits : (S : Signature) (p : Term) (s : ℕ) (g : Ground) → Linear p → SortedG S g s → fit p g ≡ true → Fits S p s g
fit_fits S p s g u k e =
    let r = fit_match p g no_filling u e in
    (r.0, matcher-sound S p s g r.0 k r.1)

pub fit_once : (S : Signature) (p : Term) (s : ℕ) (g : Ground) → Sorted S p s → Linear p → SortedG S g s → fit p g ≡ true → FitsOnce S p s g
fit_once S p s g h u k e =
    let r = fit_fits S p s g u k e in
    record {
      filling = r.0;
      turns = r.1;
      only = λ f (i, d). one-filling S p s f r.0 h i r.1.0 (d ∙ sym r.1.1);
    }

pub fits_fit : (S : Signature) (p : Term) (s : ℕ) (g : Ground) → Fits S p s g → fit p g ≡ true
fits_fit S p s g (f, (h, e)) = ap (fit p) (sym e) ∙ fit_fill p f.named f.opened
