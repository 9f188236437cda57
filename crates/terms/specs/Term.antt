-- Term: terms over a signature (source 000, section 1; document 01: patterns, situations, entries).
--
--   Term, Terms                            a term, and the terms at a symbol's argument places, lowest place first
--   Ground, Grounds                        ground terms, of any size and depth (document 01: complete situations)
--   as_term g, as_terms gs                   a ground term as a term, ground terms as terms
--   Sorted S t s, SortedAll S ts ks        t is a term of sort s, ts are terms of the sorts ks
--   SortedG S g s, SortedGs S gs ks        g is a ground term of sort s, gs are ground terms of the sorts ks
--   Occurrence                             a variable and the sort due where it stands
--   occurrences S t s, occurrences_all S ts ks   the occurrences of variables, from left to right
--   sort_in l n                             the sort at which the variable n stands, by its first occurrence in l
--   Consistent l                           one variable, one sort
--   WellSorted S t s                       document 01's patterns of kind s: Sorted, and its variables Consistent
--   names t, names_all ts                   the variables, an entry an occurrence, from left to right
--   Linear t                               no variable stands twice in t
--   open_sorts S t s, open_sorts_all S ts ks  the sorts due at the open places, from left to right
--   openings t, openings_all ts             how many open places there are
--
use Rattle.std.specs.Prelude.{◌≡◌, cond, List, [], ◌∷◌, ◌++◌, ℕ, ◌+◌, ◌<◌, eqb, length}
use Rattle.terms.specs.Lists.{All, NoneTwice}
use Rattle.terms.specs.Signature.{Signature, result, arguments}

mutual
  pub data Term : Type 0 where
    -- Document 01: an open place, or a 255 at the root: a nameless variable of its own.
    any : Term
    -- Document 01: a name.
    var : ℕ → Term
    -- Document 01: a word, with a term at each of its places.
    app : ℕ → Terms → Term

  pub data Terms : Type 0 where
    nil : Terms
    cons : Term → Terms → Terms

mutual
  pub data Ground : Type 0 where
    gapp : ℕ → Grounds → Ground

  pub data Grounds : Type 0 where
    gnil : Grounds
    gcons : Ground → Grounds → Grounds

abbrev mutual
  pub as_term : Ground → Term
  as_term (gapp f gs) = app f (as_terms gs)

  pub as_terms : Grounds → Terms
  as_terms gnil = nil
  as_terms (gcons g gs) = cons (as_term g) (as_terms gs)

abbrev mutual
  pub Sorted : Signature → Term → ℕ → Type 0
  Sorted S any s = Unit {0}
  Sorted S (var n) s = Unit {0}
  Sorted S (app f ts) s = (f < length S.symbols) × (result S f ≡ s) × SortedAll S ts (arguments S f)

  pub SortedAll : Signature → Terms → List ℕ → Type 0
  SortedAll S nil [] = Unit {0}
  SortedAll S nil (k ∷ ks) = ⊥
  SortedAll S (cons t ts) [] = ⊥
  SortedAll S (cons t ts) (k ∷ ks) = Sorted S t k × SortedAll S ts ks

abbrev mutual
  pub SortedG : Signature → Ground → ℕ → Type 0
  SortedG S (gapp f gs) s = (f < length S.symbols) × (result S f ≡ s) × SortedGs S gs (arguments S f)

  pub SortedGs : Signature → Grounds → List ℕ → Type 0
  SortedGs S gnil [] = Unit {0}
  SortedGs S gnil (k ∷ ks) = ⊥
  SortedGs S (gcons g gs) [] = ⊥
  SortedGs S (gcons g gs) (k ∷ ks) = SortedG S g k × SortedGs S gs ks

pub record Occurrence : Type 0 where
  pub name : ℕ
  pub sort : ℕ

abbrev mutual
  pub occurrences : Signature → Term → ℕ → List Occurrence
  occurrences S any s = []
  occurrences S (var n) s = record { name = n; sort = s } ∷ []
  occurrences S (app f ts) s = occurrences_all S ts (arguments S f)

  pub occurrences_all : Signature → Terms → List ℕ → List Occurrence
  occurrences_all S nil ks = []
  occurrences_all S (cons t ts) [] = []
  occurrences_all S (cons t ts) (k ∷ ks) = occurrences S t k ++ occurrences_all S ts ks

abbrev pub sort_in : List Occurrence → ℕ → ℕ
sort_in [] n = 0
sort_in (o ∷ l) n = cond (eqb n o.name) o.sort (sort_in l n)

-- Document 01: "It may stand several times, always at places of one kind."
abbrev pub Consistent : List Occurrence → Type 0
Consistent l = All (λ o. All (λ o'. o.name ≡ o'.name → o.sort ≡ o'.sort) l) l

pub record WellSorted (S : Signature) (t : Term) (s : ℕ) : Type 0 where
  pub sorted : Sorted S t s
  pub consistent : Consistent (occurrences S t s)

abbrev mutual
  pub names : Term → List ℕ
  names any = []
  names (var n) = n ∷ []
  names (app f ts) = names_all ts

  pub names_all : Terms → List ℕ
  names_all nil = []
  names_all (cons t ts) = names t ++ names_all ts

-- Demand 3: "with no name twice in the pattern".
abbrev pub Linear : Term → Type 0
Linear t = NoneTwice (names t)

abbrev mutual
  pub open_sorts : Signature → Term → ℕ → List ℕ
  open_sorts S any s = s ∷ []
  open_sorts S (var n) s = []
  open_sorts S (app f ts) s = open_sorts_all S ts (arguments S f)

  pub open_sorts_all : Signature → Terms → List ℕ → List ℕ
  open_sorts_all S nil ks = []
  open_sorts_all S (cons t ts) [] = []
  open_sorts_all S (cons t ts) (k ∷ ks) = open_sorts S t k ++ open_sorts_all S ts ks

abbrev mutual
  pub openings : Term → ℕ
  openings any = 1
  openings (var n) = 0
  openings (app f ts) = openings_all ts

  pub openings_all : Terms → ℕ
  openings_all nil = 0
  openings_all (cons t ts) = openings t + openings_all ts
