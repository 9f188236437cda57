-- Ground: ground terms as terms: their sorts, that they hold no variable and no open place, and the same with variables.
use mathlib.Core.Path.{◌≡◌, refl, ap, ap₂}
use mathlib.Core.List.{List, [], ◌∷◌}
use Prim.Native.Nat.{ℕ, ◌+◌}
use Rattle.terms.specs.Signature.{Signature, arguments}
use Rattle.terms.specs.Term.{Ground, gapp, Grounds, gnil, gcons, as_term, as_terms, Sorted, SortedAll, SortedG, SortedGs, occurrences, occurrences_all, names, names_all, openings, openings_all}
use Rattle.terms.specs.Substitution.{tapp, tcons, as_tm, as_tms, with_variables_from, with_variables_all}

-- A ground term has the sort of its term.
mutual
  pub ground-sorted : (S : Signature) (g : Ground) (s : ℕ) → SortedG S g s → Sorted S (as_term g) s
  ground-sorted S (gapp f gs) s h = (h.0, h.1, grounds-sorted S gs (arguments S f) h.2)

  grounds-sorted : (S : Signature) (gs : Grounds) (ks : List ℕ) → SortedGs S gs ks → SortedAll S (as_terms gs) ks
  grounds-sorted S gnil [] h = tt
  grounds-sorted S gnil (k ∷ ks) h = h
  grounds-sorted S (gcons g gs) [] h = h
  grounds-sorted S (gcons g gs) (k ∷ ks) h = (ground-sorted S g k h.0, grounds-sorted S gs ks h.1)

mutual
  pub sorted-ground : (S : Signature) (g : Ground) (s : ℕ) → Sorted S (as_term g) s → SortedG S g s
  sorted-ground S (gapp f gs) s h = (h.0, h.1, sorted-grounds S gs (arguments S f) h.2)

  sorted-grounds : (S : Signature) (gs : Grounds) (ks : List ℕ) → SortedAll S (as_terms gs) ks → SortedGs S gs ks
  sorted-grounds S gnil [] h = tt
  sorted-grounds S gnil (k ∷ ks) h = h
  sorted-grounds S (gcons g gs) [] h = h
  sorted-grounds S (gcons g gs) (k ∷ ks) h = (sorted-ground S g k h.0, sorted-grounds S gs ks h.1)

-- A ground term has no variables ..
mutual
  pub ground-names : (g : Ground) → names (as_term g) ≡ []
  ground-names (gapp f gs) = grounds-names gs

  grounds-names : (gs : Grounds) → names_all (as_terms gs) ≡ []
  grounds-names gnil = refl
  grounds-names (gcons g gs) = rw (ground-names g) (grounds-names gs)

mutual
  pub ground-occurrences : (S : Signature) (g : Ground) (s : ℕ) → occurrences S (as_term g) s ≡ []
  ground-occurrences S (gapp f gs) s = grounds-occurrences S gs (arguments S f)

  grounds-occurrences : (S : Signature) (gs : Grounds) (ks : List ℕ) → occurrences_all S (as_terms gs) ks ≡ []
  grounds-occurrences S gnil ks = refl
  grounds-occurrences S (gcons g gs) [] = refl
  grounds-occurrences S (gcons g gs) (k ∷ ks) = rw (ground-occurrences S g k) (grounds-occurrences S gs ks)

-- .. and no open places.
mutual
  pub ground-openings : (g : Ground) → openings (as_term g) ≡ 0
  ground-openings (gapp f gs) = grounds-openings gs

  grounds-openings : (gs : Grounds) → openings_all (as_terms gs) ≡ 0
  grounds-openings gnil = refl
  grounds-openings (gcons g gs) = ap₂ ◌+◌ (ground-openings g) (grounds-openings gs)

-- So it is itself with its variables.
mutual
  pub ground-variables : (S : Signature) (g : Ground) (s i : ℕ) → SortedG S g s → with_variables_from S (as_term g) s i ≡ as_tm g
  ground-variables S (gapp f gs) s i h = ap (tapp f) (grounds-variables S gs (arguments S f) i h.2)

  grounds-variables : (S : Signature) (gs : Grounds) (ks : List ℕ) (i : ℕ) → SortedGs S gs ks → with_variables_all S (as_terms gs) ks i ≡ as_tms gs
  grounds-variables S gnil ks i h = refl
  grounds-variables S (gcons g gs) [] i h = absurd h
  grounds-variables S (gcons g gs) (k ∷ ks) i h =
      ap₂ tcons (ground-variables S g k i h.0) (grounds-variables S gs ks (i + openings (as_term g)) h.1)
