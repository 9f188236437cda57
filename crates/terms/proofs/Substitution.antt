-- Substitution: sorts add nothing to matching between two terms of one sort, and for a ground term of the sort, matching
-- is the same as having a filling.
--
--   image_sorted         where a term and what a map carries it to have one sort, the map keeps the sorts of its variables
--   with_variables-sorted   a sorted pattern with its variables is a term of its sort
--   value_by f            the terms that the filling f gives the variables of names and of open places
--   fits_instance        a filling is a substitution that keeps sorts
--   to_ground t           the ground term that t is, where it holds no variable
--   IsGround t           t holds no variable
--   instance_fits        what a substitution that keeps sorts gives the variables of a pattern is a filling
--
use mathlib.Core.Path.{◌≡◌, refl, sym, ◌∙◌, ap, ap₂}
use mathlib.Core.Bool.{true}
use mathlib.Core.List.{List, [], ◌∷◌}
use mathlib.Core.Logic.{◌↔◌}
use Prim.Native.Nat.{ℕ, ◌+◌, ◌<◌}
use native.Mathlib.Nat.{zero-add, add-zero}
use lib.ListN.{length, get_or, drop}
use lib.Seq.{drop-drop, get_or-drop}
use Rattle.terms.specs.Lists.{All, occurs}
use Rattle.terms.specs.Signature.{Signature, arguments}
use Rattle.terms.specs.Term.{Term, any, var, app, Terms, nil, cons, Ground, gapp, Grounds, gnil, gcons, Sorted, SortedAll, SortedG, SortedGs, occurrences, WellSorted, names, open_sorts, openings, sort_in}
use Rattle.terms.specs.Filling.{Filling, no_ground, value_of, fill_from, fill_all, fill, Fits}
use Rattle.terms.specs.Laws.{open_at, Gives, SortsAddNothing, MatchingIsFitting}
use Rattle.terms.specs.Substitution.{Var, name, place, Tm, tvar, tapp, Tms, tnil, tcons, Substitution, carry, carry_all, as_tm, as_tms, with_variables_from, with_variables_all, with_variables}
use Rattle.terms.specs.Instance.{sort_of, SortedT, SortedTs, KeepsSorts, Instance}
use Rattle.terms.proofs.Sorts.{sorts_in}
use Rattle.terms.proofs.All.{all_implies, all_both, all_append}
use Rattle.terms.proofs.Term.{occurrences-named}
use Rattle.terms.proofs.Fill.{sorted_each_at}
use Rattle.terms.proofs.Filling.{each_choice_has_a_filling}
use Rattle.terms.proofs.Variables.{vars, vars_all, carry_agree, instance_by, Places, all_vars, names-all, places-all}

mutual
  image_sorted : (S : Signature) (v : Var → Tm) (t : Tm) (s : ℕ) → SortedT S t s → SortedT S (carry v t) s →
      All (λ x. SortedT S (v x) (sort_of x)) (vars t)
  image_sorted S v (tvar x) s h k = (rw h k, tt)
  image_sorted S v (tapp f ts) s h k = images_sorted S v ts (arguments S f) h.2 k.2

  images_sorted : (S : Signature) (v : Var → Tm) (ts : Tms) (ks : List ℕ) → SortedTs S ts ks → SortedTs S (carry_all v ts) ks →
      All (λ x. SortedT S (v x) (sort_of x)) (vars_all ts)
  images_sorted S v tnil ks h k = tt
  images_sorted S v (tcons t ts) [] h k = absurd h
  images_sorted S v (tcons t ts) (r ∷ ks) h k =
      all_append (λ x. SortedT S (v x) (sort_of x)) (vars t) (vars_all ts)
      (image_sorted S v t r h.0 k.0) (images_sorted S v ts ks h.1 k.1)

pub sorts_add_nothing : SortsAddNothing
sorts_add_nothing S t u s h k = (
  (λ (σ, e). instance_by S t u σ.value (image_sorted S σ.value t s h (rw e k)) e),
  (λ (σ, keeps, e). (σ, e)),
)

-- A sorted ground term is a sorted term, and the other way round.
mutual
  ground-sorted : (S : Signature) (g : Ground) (s : ℕ) → SortedG S g s → SortedT S (as_tm g) s
  ground-sorted S (gapp f gs) s h = (h.0, h.1, grounds-sorted S gs (arguments S f) h.2)

  grounds-sorted : (S : Signature) (gs : Grounds) (ks : List ℕ) → SortedGs S gs ks → SortedTs S (as_tms gs) ks
  grounds-sorted S gnil [] h = h
  grounds-sorted S gnil (k ∷ ks) h = h
  grounds-sorted S (gcons g gs) [] h = h
  grounds-sorted S (gcons g gs) (k ∷ ks) h = (ground-sorted S g k h.0, grounds-sorted S gs ks h.1)

mutual
  sorted-ground : (S : Signature) (g : Ground) (s : ℕ) → SortedT S (as_tm g) s → SortedG S g s
  sorted-ground S (gapp f gs) s h = (h.0, h.1, sorted-grounds S gs (arguments S f) h.2)

  sorted-grounds : (S : Signature) (gs : Grounds) (ks : List ℕ) → SortedTs S (as_tms gs) ks → SortedGs S gs ks
  sorted-grounds S gnil [] h = h
  sorted-grounds S gnil (k ∷ ks) h = h
  sorted-grounds S (gcons g gs) [] h = h
  sorted-grounds S (gcons g gs) (k ∷ ks) h = (sorted-ground S g k h.0, sorted-grounds S gs ks h.1)

-- A sorted pattern with its variables is a term of its sort.
mutual
  pub with_variables-sorted : (S : Signature) (p : Term) (s i : ℕ) → Sorted S p s → SortedT S (with_variables_from S p s i) s
  with_variables-sorted S any s i h = refl
  with_variables-sorted S (var n) s i h = refl
  with_variables-sorted S (app f ts) s i h = (h.0, h.1, with_variables_sorted_all S ts (arguments S f) i h.2)

  with_variables_sorted_all : (S : Signature) (ts : Terms) (ks : List ℕ) (i : ℕ) → SortedAll S ts ks → SortedTs S (with_variables_all S ts ks i) ks
  with_variables_sorted_all S nil [] i h = h
  with_variables_sorted_all S nil (k ∷ ks) i h = h
  with_variables_sorted_all S (cons t ts) [] i h = absurd h
  with_variables_sorted_all S (cons t ts) (k ∷ ks) i h = (with_variables-sorted S t k i h.0, with_variables_sorted_all S ts ks (i + openings t) h.1)

abbrev value_by : Filling → Var → Tm
value_by f (name n s) = as_tm (value_of f.named n)
value_by f (place i s) = as_tm (open_at f i)

-- To carry a pattern with its variables along a filling is to fill the pattern.
mutual
  carry-fill : (S : Signature) (f : Filling) (p : Term) (s i : ℕ) → Sorted S p s →
      carry (value_by f) (with_variables_from S p s i) ≡ as_tm (fill_from f.named p (drop i f.opened))
  carry-fill S f any s i h = rw (get_or-drop, add-zero) refl
  carry-fill S f (var n) s i h = refl
  carry-fill S f (app k ts) s i h = ap (tapp k) (carry-fill_all S f ts (arguments S k) i h.2)

  carry-fill_all : (S : Signature) (f : Filling) (ts : Terms) (ks : List ℕ) (i : ℕ) → SortedAll S ts ks →
      carry_all (value_by f) (with_variables_all S ts ks i) ≡ as_tms (fill_all f.named ts (drop i f.opened))
  carry-fill_all S f nil ks i h = refl
  carry-fill_all S f (cons t ts) [] i h = absurd h
  carry-fill_all S f (cons t ts) (k ∷ ks) i h =
      ap₂ tcons (carry-fill S f t k i h.0)
      (carry-fill_all S f ts ks (i + openings t) h.1 ∙ ap (λ gs. as_tms (fill_all f.named ts gs)) (sym (drop-drop (openings t) i f.opened)))

fits_instance : (S : Signature) (p : Term) (s : ℕ) (g : Ground) → WellSorted S p s → Fits S p s g → Instance S (with_variables S p s) (as_tm g)
fits_instance S p s g w (f, (h, e)) =
    instance_by S (with_variables S p s) (as_tm g) (value_by f)
    (all_vars (λ x. SortedT S (value_by f x) (sort_of x)) S p s 0 w.sorted bound placed)
    (carry-fill S f p s 0 w.sorted ∙ ap as_tm e)
  where
    bound : All (λ o. SortedT S (as_tm (value_of f.named o.name)) o.sort) (occurrences S p s)
    bound = all_implies (λ o. SortedG S (value_of f.named o.name) o.sort) (λ o. SortedT S (as_tm (value_of f.named o.name)) o.sort)
        (λ o k. ground-sorted S (value_of f.named o.name) o.sort k) (occurrences S p s) h.bound

    placed : Places (λ x. SortedT S (value_by f x) (sort_of x)) 0 (open_sorts S p s)
    placed j b = rw zero-add (ground-sorted S (open_at f j) (get_or (open_sorts S p s) j 0) (sorted_each_at S f.opened (open_sorts S p s) h.placed j b))

abbrev mutual
  to_ground : Tm → Ground
  to_ground (tvar x) = no_ground
  to_ground (tapp f ts) = gapp f (to_grounds ts)

  to_grounds : Tms → Grounds
  to_grounds tnil = gnil
  to_grounds (tcons t ts) = gcons (to_ground t) (to_grounds ts)

mutual
  to_ground_as : (g : Ground) → to_ground (as_tm g) ≡ g
  to_ground_as (gapp f gs) = ap (gapp f) (to_grounds_as gs)

  to_grounds_as : (gs : Grounds) → to_grounds (as_tms gs) ≡ gs
  to_grounds_as gnil = refl
  to_grounds_as (gcons g gs) = ap₂ gcons (to_ground_as g) (to_grounds_as gs)

-- The term holds no variable.
abbrev IsGround : Tm → Type 0
IsGround t = as_tm (to_ground t) ≡ t

-- Where a term is carried to a ground one, its variables have ground values.
mutual
  ground-values : (v : Var → Tm) (t : Tm) → IsGround (carry v t) → All (λ x. IsGround (v x)) (vars t)
  ground-values v (tvar x) h = (h, tt)
  ground-values v (tapp f ts) h = ground_values_all v ts (cc)

  ground_values_all : (v : Var → Tm) (ts : Tms) → as_tms (to_grounds (carry_all v ts)) ≡ carry_all v ts → All (λ x. IsGround (v x)) (vars_all ts)
  ground_values_all v tnil h = tt
  ground_values_all v (tcons t ts) h =
      all_append (λ x. IsGround (v x)) (vars t) (vars_all ts) (ground-values v t (cc)) (ground_values_all v ts (cc))

module _ (S : Signature) (p : Term) (s : ℕ) (g : Ground) (w : WellSorted S p s) (σ : Substitution) (keeps : KeepsSorts S σ) (e : carry σ.value (with_variables S p s) ≡ as_tm g) where
  -- The value of each variable and of each open place.
  abbrev chosen_name : ℕ → Ground
  chosen_name n = to_ground (σ.value (name n (sort_in (occurrences S p s) n)))

  abbrev chosen_place : ℕ → Ground
  chosen_place i = to_ground (σ.value (place i (get_or (open_sorts S p s) i 0)))

  values-ground : All (λ x. IsGround (σ.value x)) (vars (with_variables S p s))
  values-ground = ground-values σ.value (with_variables S p s) (rw e (ap as_tm (to_ground_as g)))

  value-sorted : (x : Var) (v : Ground) → as_tm v ≡ σ.value x → SortedG S v (sort_of x)
  value-sorted x v h = sorted-ground S v (sort_of x) (rw h (keeps x))

  -- The choice gives each occurrence of a name what the substitution gives it.
  name-value : All (λ o. as_tm (chosen_name o.name) ≡ σ.value (name o.name o.sort)) (occurrences S p s)
  name-value =
      all_implies (λ o. IsGround (σ.value (name o.name o.sort)) × (sort_in (occurrences S p s) o.name ≡ o.sort))
      (λ o. as_tm (chosen_name o.name) ≡ σ.value (name o.name o.sort)) (λ o h. rw h.1 h.0) (occurrences S p s)
      (all_both (λ o. IsGround (σ.value (name o.name o.sort))) (λ o. sort_in (occurrences S p s) o.name ≡ o.sort) (occurrences S p s)
      (names-all (λ x. IsGround (σ.value x)) S p s 0 values-ground) (sorts_in (occurrences S p s) w.consistent))

  place-value : (i : ℕ) → i < length (open_sorts S p s) → as_tm (chosen_place i) ≡ σ.value (place i (get_or (open_sorts S p s) i 0))
  place-value i b = rw zero-add at (places-all (λ x. IsGround (σ.value x)) S p s 0 w.sorted values-ground i b)

  -- A filling that gives these values turns the pattern into the ground term.
  gives_fills : (f : Filling) → Gives S p s chosen_name chosen_place f → fill p f ≡ g
  gives_fills f c =
      sym (to_ground_as (fill p f))
      ∙ ap to_ground (sym (carry-fill S f p s 0 w.sorted) ∙ carry_agree (value_by f) σ.value (with_variables S p s) agree ∙ e)
      ∙ to_ground_as g
    where
      named : All (λ o. value_by f (name o.name o.sort) ≡ σ.value (name o.name o.sort)) (occurrences S p s)
      named =
          all_implies (λ o. (occurs o.name (names p) ≡ true) × (as_tm (chosen_name o.name) ≡ σ.value (name o.name o.sort)))
          (λ o. value_by f (name o.name o.sort) ≡ σ.value (name o.name o.sort))
          (λ o h. ap as_tm (c.named o.name h.0) ∙ h.1) (occurrences S p s)
          (all_both (λ o. occurs o.name (names p) ≡ true) (λ o. as_tm (chosen_name o.name) ≡ σ.value (name o.name o.sort)) (occurrences S p s)
          (occurrences-named S p s w.sorted) name-value)

      placed : Places (λ x. value_by f x ≡ σ.value x) 0 (open_sorts S p s)
      placed j b = rw zero-add (ap as_tm (c.opened j b) ∙ place-value j b)

      agree : All (λ x. value_by f x ≡ σ.value x) (vars (with_variables S p s))
      agree = all_vars (λ x. value_by f x ≡ σ.value x) S p s 0 w.sorted named placed

  instance_fits : Fits S p s g
  instance_fits = let r = each_choice_has_a_filling S p s w.sorted chosen_name chosen_place bound placed in (r.0, (r.1, gives_fills r.0 r.2))
    where
      bound : All (λ o. SortedG S (chosen_name o.name) o.sort) (occurrences S p s)
      bound = all_implies (λ o. as_tm (chosen_name o.name) ≡ σ.value (name o.name o.sort)) (λ o. SortedG S (chosen_name o.name) o.sort)
          (λ o h. value-sorted (name o.name o.sort) (chosen_name o.name) h) (occurrences S p s) name-value

      placed : (i : ℕ) → i < length (open_sorts S p s) → SortedG S (chosen_place i) (get_or (open_sorts S p s) i 0)
      placed i b = value-sorted (place i (get_or (open_sorts S p s) i 0)) (chosen_place i) (place-value i b)

-- What has a filling is what is an instance, for any ground term.
pub fitting_is_instance : (S : Signature) (p : Term) (s : ℕ) (g : Ground) → WellSorted S p s → Fits S p s g ↔ Instance S (with_variables S p s) (as_tm g)
fitting_is_instance S p s g w = (fits_instance S p s g w, λ (σ, keeps, e). instance_fits S p s g w σ keeps e)

pub matching_is_fitting : MatchingIsFitting
matching_is_fitting S p s g w k =
    let fits = fitting_is_instance S p s g w in
    let sorts = sorts_add_nothing S (with_variables S p s) (as_tm g) s (with_variables-sorted S p s 0 w.sorted) (ground-sorted S g s k) in
    ((λ h. sorts.1 (fits.0 h)), (λ m. fits.1 (sorts.0 m)))
