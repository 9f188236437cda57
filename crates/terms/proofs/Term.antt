-- Term: what `same` decides, how a term's sorts, names and open places go together, and that a linear term is well-sorted.
use mathlib.Core.Path.{◌≡◌, refl, sym, ◌∙◌, ap₂}
use mathlib.Core.Bool.{true}
use mathlib.Core.List.{List, [], ◌∷◌, ◌++◌, map, map-append}
use Prim.Native.Nat.{ℕ, ◌+◌, ◌<◌}
use lib.Dec.{eqb}
use lib.ListN.{length, length-append}
use borrow.Author.Tests.{eqb-true}
use Rattle.terms.specs.Lists.{All, occurs, NoneTwice}
use Rattle.terms.specs.Signature.{Signature, arguments}
use Rattle.terms.specs.Term.{Term, any, var, app, Terms, nil, cons, Ground, gapp, Grounds, gnil, gcons, Sorted, SortedAll, Occurrence, occurrences, occurrences_all, Consistent, WellSorted, names, names_all, Linear, open_sorts, open_sorts_all, openings, openings_all}
use Rattle.terms.specs.Matcher.{same, same_all}
use Rattle.terms.proofs.Bools.{eqb_refl, and_parts, and_both}
use Rattle.terms.proofs.All.{all_implies, all_both, all_append}
use Rattle.terms.proofs.Occurs.{all-occurs, all-other}

mutual
  pub same_true : (g h : Ground) → same g h ≡ true → g ≡ h
  same_true (gapp f gs) (gapp h hs) e =
      let r = and_parts (eqb f h) (same_all gs hs) e in
      ap₂ gapp (eqb-true f h r.0) (same_all_true gs hs r.1)

  same_all_true : (gs hs : Grounds) → same_all gs hs ≡ true → gs ≡ hs
  same_all_true gnil gnil e = refl
  same_all_true gnil (gcons h hs) e = cc
  same_all_true (gcons g gs) gnil e = cc
  same_all_true (gcons g gs) (gcons h hs) e =
      let r = and_parts (same g h) (same_all gs hs) e in
      ap₂ gcons (same_true g h r.0) (same_all_true gs hs r.1)

mutual
  pub same_refl : (g : Ground) → same g g ≡ true
  same_refl (gapp f gs) = and_both (eqb f f) (same_all gs gs) (eqb_refl f) (same_all_refl gs)

  same_all_refl : (gs : Grounds) → same_all gs gs ≡ true
  same_all_refl gnil = refl
  same_all_refl (gcons g gs) = and_both (same g g) (same_all gs gs) (same_refl g) (same_all_refl gs)

-- The variables of a sorted term, one of each occurrence.
mutual
  pub names-occurrences : (S : Signature) (t : Term) (s : ℕ) → Sorted S t s → map (λ o. o.name) (occurrences S t s) ≡ names t
  names-occurrences S any s h = refl
  names-occurrences S (var n) s h = refl
  names-occurrences S (app f ts) s h = names-occurrences_all S ts (arguments S f) h.2

  names-occurrences_all : (S : Signature) (ts : Terms) (ks : List ℕ) → SortedAll S ts ks → map (λ o. o.name) (occurrences_all S ts ks) ≡ names_all ts
  names-occurrences_all S nil ks h = refl
  names-occurrences_all S (cons t ts) [] h = absurd h
  names-occurrences_all S (cons t ts) (k ∷ ks) h =
      map-append (λ o. o.name) (occurrences S t k) (occurrences_all S ts ks) ∙
      ap₂ ◌++◌ (names-occurrences S t k h.0) (names-occurrences_all S ts ks h.1)

-- The variable of an occurrence is one of the term's names.
pub occurrences-named : (S : Signature) (t : Term) (s : ℕ) → Sorted S t s → All (λ o. occurs o.name (names t) ≡ true) (occurrences S t s)
occurrences-named S t s h = rw (names-occurrences S t s h) at (all-occurs (λ o. o.name) (occurrences S t s))

-- What holds of a term's sort and of the sorts that symbols ask for holds of the sort of each occurrence.
module _ (S : Signature) (P : ℕ → Type 0) (asked : (f : ℕ) → f < length S.symbols → All P (arguments S f)) where
  mutual
    pub occurrences-sorts : (t : Term) (s : ℕ) → Sorted S t s → P s → All (λ o. P o.sort) (occurrences S t s)
    occurrences-sorts any s h p = tt
    occurrences-sorts (var n) s h p = (p, tt)
    occurrences-sorts (app f ts) s h p = occurrences_sorts_all ts (arguments S f) h.2 (asked f h.0)

    occurrences_sorts_all : (ts : Terms) (ks : List ℕ) → SortedAll S ts ks → All P ks → All (λ o. P o.sort) (occurrences_all S ts ks)
    occurrences_sorts_all nil ks h p = tt
    occurrences_sorts_all (cons t ts) [] h p = tt
    occurrences_sorts_all (cons t ts) (k ∷ ks) h p =
        all_append (λ o. P o.sort) (occurrences S t k) (occurrences_all S ts ks) (occurrences-sorts t k h.0 p.0) (occurrences_sorts_all ts ks h.1 p.1)

-- A sorted term has a sort due at each of its open places.
mutual
  pub length-open_sorts : (S : Signature) (t : Term) (s : ℕ) → Sorted S t s → length (open_sorts S t s) ≡ openings t
  length-open_sorts S any s h = refl
  length-open_sorts S (var n) s h = refl
  length-open_sorts S (app f ts) s h = length-open_sorts_all S ts (arguments S f) h.2

  length-open_sorts_all : (S : Signature) (ts : Terms) (ks : List ℕ) → SortedAll S ts ks → length (open_sorts_all S ts ks) ≡ openings_all ts
  length-open_sorts_all S nil ks h = refl
  length-open_sorts_all S (cons t ts) [] h = absurd h
  length-open_sorts_all S (cons t ts) (k ∷ ks) h =
      length-append (open_sorts S t k) (open_sorts_all S ts ks) ∙ ap₂ ◌+◌ (length-open_sorts S t k h.0) (length-open_sorts_all S ts ks h.1)

-- Where no variable has two occurrences, each has one sort.
none_twice_consistent : (l : List Occurrence) → NoneTwice (map (λ o. o.name) l) → Consistent l
none_twice_consistent [] u = tt
none_twice_consistent (o ∷ l) u =
    let a = all-other (λ o'. o'.name) o.name l u.0 in (
      (λ e. refl, all_implies _ _ (λ o' d e. absurd (d e)) l a),
      all_implies _ _ (λ o' d. (λ e. absurd (d.0 (sym e)), d.1)) l (all_both _ _ l a (none_twice_consistent l u.1)),
    )

pub linear_well_sorted : (S : Signature) (p : Term) (s : ℕ) → Sorted S p s → Linear p → WellSorted S p s
linear_well_sorted S p s h u =
    record { sorted = h; consistent = none_twice_consistent (occurrences S p s) (rw (names-occurrences S p s h) u) }
