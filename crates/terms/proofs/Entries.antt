-- Entries: each entry of a listing is a linear pattern of the pattern's sort.
use mathlib.Core.Path.{◌≡◌, refl, ◌∙◌, ap}
use mathlib.Core.Bool.{true, ◌&&◌, not}
use mathlib.Core.List.{List, [], ◌∷◌, ◌++◌, append-nil, append_assoc}
use Prim.Native.Nat.{ℕ, ◌+◌, ◌<◌}
use native.Mathlib.Omega.{arith}
use lib.Dec.{eqb}
use lib.ListN.{length}
use borrow.Author.Tests.{eqb-true}
use Rattle.terms.specs.Lists.{All, NoneTwice, range}
use Rattle.terms.specs.Signature.{Signature, result, arguments}
use Rattle.terms.specs.Term.{Term, any, var, app, Terms, nil, cons, Sorted, SortedAll, names, names_all, Linear}
use Rattle.terms.specs.Listing.{others, all_open, bare, open_every, listing, listing_all}
use Rattle.terms.specs.Laws.{PatternsOfSort}
use Rattle.terms.proofs.Bools.{and_parts}
use Rattle.terms.proofs.All.{all_always, all_implies, all_both, all_append, all_left, all_right, all_keep, all-maps, all-range}
use Rattle.terms.proofs.Occurs.{none_twice_front}

pub open_sorted : (S : Signature) (ks : List ℕ) → SortedAll S (all_open ks) ks
open_sorted S [] = tt
open_sorted S (k ∷ ks) = (tt, open_sorted S ks)

-- The places of a sorted term, none of them closed, are open places of the sorts due.
pub open_every-all_open : (S : Signature) (ts : Terms) (ks : List ℕ) → SortedAll S ts ks → open_every ts ≡ all_open ks
open_every-all_open S nil [] h = refl
open_every-all_open S nil (k ∷ ks) h = absurd h
open_every-all_open S (cons t ts) [] h = absurd h
open_every-all_open S (cons t ts) (k ∷ ks) h = ap (cons any) (open_every-all_open S ts ks h.1)

-- Each of the other symbols, with every place open, is of the sort.
pub others-sorted : (S : Signature) (f s : ℕ) → result S f ≡ s → All (λ h. Sorted S (bare S h) s) (others S f)
others-sorted S f s e = all_implies _ _ one (others S f) (all_keep _ _ (range 0 n) (all-range 0 n))
  where
    n : ℕ
    n = length S.symbols

    one : (h : ℕ) → (h < 0 + length S.symbols) × ((not (eqb h f) && eqb (result S h) (result S f)) ≡ true) → Sorted S (bare S h) s
    one h a = (
      omega arith,
      eqb-true (result S h) (result S f) (and_parts (not (eqb h f)) (eqb (result S h) (result S f)) a.1).1 ∙ e,
      open_sorted S (arguments S h),
    )

mutual
  pub entries_sorted : (S : Signature) (p : Term) (s : ℕ) → Sorted S p s → All (λ e. Sorted S e s) (listing S p)
  entries_sorted S any s h = tt
  entries_sorted S (var n) s h = tt
  entries_sorted S (app f ts) s h =
      all-maps (λ e. Sorted S e s) (bare S) (app f) (others S f) (listing_all S ts) (others-sorted S f s h.1)
      (all_implies (λ es. SortedAll S es (arguments S f)) (λ es. Sorted S (app f es) s) (λ es k. (h.0, h.1, k)) (listing_all S ts)
      (entries_sorted_all S ts (arguments S f) h.2))

  entries_sorted_all : (S : Signature) (ts : Terms) (ks : List ℕ) → SortedAll S ts ks → All (λ es. SortedAll S es ks) (listing_all S ts)
  entries_sorted_all S nil ks h = tt
  entries_sorted_all S (cons t ts) [] h = absurd h
  entries_sorted_all S (cons t ts) (k ∷ ks) h =
      all-maps (λ es. SortedAll S es (k ∷ ks)) (λ e. cons e (open_every ts)) (cons t) (listing S t) (listing_all S ts)
      (all_implies (λ e. Sorted S e k) (λ e. SortedAll S (cons e (open_every ts)) (k ∷ ks))
      (λ e a. (a, rw (open_every-all_open S ts ks h.1) (open_sorted S ks))) (listing S t) (entries_sorted S t k h.0))
      (all_implies (λ es. SortedAll S es ks) (λ es. SortedAll S (cons t es) (k ∷ ks)) (λ es a. (h.0, a)) (listing_all S ts)
      (entries_sorted_all S ts ks h.1))

pub open_names : (ks : List ℕ) → names_all (all_open ks) ≡ []
open_names [] = refl
open_names (k ∷ ks) = open_names ks

pub open_every-names : (ts : Terms) → names_all (open_every ts) ≡ []
open_every-names nil = refl
open_every-names (cons t ts) = open_every-names ts

-- The names of an entry are names of the pattern.
mutual
  pub entries-names : (S : Signature) (P : ℕ → Type 0) (p : Term) → All P (names p) → All (λ e. All P (names e)) (listing S p)
  entries-names S P any a = tt
  entries-names S P (var n) a = tt
  entries-names S P (app f ts) a =
      all-maps (λ e. All P (names e)) (bare S) (app f) (others S f) (listing_all S ts)
      (all_always (λ h. All P (names (bare S h))) (λ h. rw (open_names (arguments S h)) tt) (others S f))
      (entries-names_all S P ts a)

  entries-names_all : (S : Signature) (P : ℕ → Type 0) (ts : Terms) → All P (names_all ts) → All (λ es. All P (names_all es)) (listing_all S ts)
  entries-names_all S P nil a = tt
  entries-names_all S P (cons t ts) a =
      let here = all_left P (names t) (names_all ts) a in
      let behind = all_right P (names t) (names_all ts) a in
      all-maps (λ es. All P (names_all es)) (λ e. cons e (open_every ts)) (cons t) (listing S t) (listing_all S ts)
      (all_implies (λ e. All P (names e)) (λ e. All P (names e ++ names_all (open_every ts)))
      (λ e h. rw (open_every-names ts, append-nil) h) (listing S t) (entries-names S P t here))
      (all_implies (λ es. All P (names_all es)) (λ es. All P (names t ++ names_all es))
      (λ es h. all_append P (names t) (names_all es) here h) (listing_all S ts) (entries-names_all S P ts behind))

-- Behind any names l, an entry has no name twice where the pattern has none: it keeps names of lower places only.
mutual
  entries-linear : (S : Signature) (p : Term) (l : List ℕ) → NoneTwice (l ++ names p) → All (λ e. NoneTwice (l ++ names e)) (listing S p)
  entries-linear S any l u = tt
  entries-linear S (var n) l u = tt
  entries-linear S (app f ts) l u =
      all-maps (λ e. NoneTwice (l ++ names e)) (bare S) (app f) (others S f) (listing_all S ts)
      (all_always (λ h. NoneTwice (l ++ names (bare S h))) (λ h. rw (open_names (arguments S h), append-nil) (none_twice_front l (names_all ts) u)) (others S f))
      (entries_linear_all S ts l u)

  entries_linear_all : (S : Signature) (ts : Terms) (l : List ℕ) → NoneTwice (l ++ names_all ts) → All (λ es. NoneTwice (l ++ names_all es)) (listing_all S ts)
  entries_linear_all S nil l u = tt
  entries_linear_all S (cons t ts) l u =
      let v : NoneTwice ((l ++ names t) ++ names_all ts) = rw append_assoc u in
      all-maps (λ es. NoneTwice (l ++ names_all es)) (λ e. cons e (open_every ts)) (cons t) (listing S t) (listing_all S ts)
      (all_implies (λ e. NoneTwice (l ++ names e)) (λ e. NoneTwice (l ++ (names e ++ names_all (open_every ts))))
      (λ e a. rw (open_every-names ts, append-nil) a) (listing S t)
      (entries-linear S t l (none_twice_front (l ++ names t) (names_all ts) v)))
      (all_implies (λ es. NoneTwice ((l ++ names t) ++ names_all es)) (λ es. NoneTwice (l ++ (names t ++ names_all es)))
      (λ es a. rw append_assoc at a) (listing_all S ts) (entries_linear_all S ts (l ++ names t) v))

pub listing-linear : (S : Signature) (p : Term) (s : ℕ) → Sorted S p s → Linear p → PatternsOfSort S s (listing S p)
listing-linear S p s h u =
    all_both (λ e. Sorted S e s) Linear (listing S p) (entries_sorted S p s h) (entries-linear S p [] u)
