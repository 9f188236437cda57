-- Represents: the listing's entries represent the non-instances of a linear pattern.
--
--   SomeInstance S l s g     g is an instance of some term of l with its variables
--   some_instance            .. which is to fit some term of l
--   variables-sorted         the terms of l with their variables have the sort
--
use mathlib.Core.List.{List, ◌∷◌, map, Memᴰ}
use mathlib.Core.Logic.{◌↔◌}
use Prim.Native.Nat.{ℕ, zero, suc, ◌<◌}
use native.Mathlib.Omega.{arith}
use lib.ListN.{length, get_or}
use Rattle.terms.specs.Lists.{All}
use Rattle.terms.specs.Signature.{Signature, WellFormed}
use Rattle.terms.specs.Term.{Term, any, Ground, Sorted, SortedG, Linear}
use Rattle.terms.specs.Filling.{Fits}
use Rattle.terms.specs.Substitution.{Tm, as_tm, with_variables}
use Rattle.terms.specs.Instance.{SortedT, Instance}
use Rattle.terms.specs.Listing.{IsListing}
use Rattle.terms.specs.Book.{FitsSome}
use Rattle.terms.specs.Laws.{ListingRepresents, PatternsOfSort}
use Rattle.terms.proofs.All.{all_implies, all-at, all_map}
use Rattle.terms.proofs.Members.{mem_map_at, at_of_mem}
use Rattle.terms.proofs.Term.{linear_well_sorted}
use Rattle.terms.proofs.Listing.{entries_are_linear_patterns}
use Rattle.terms.proofs.Partition.{partition}
use Rattle.terms.proofs.Substitution.{with_variables-sorted, fitting_is_instance}

abbrev pub SomeInstance : Signature → List Term → ℕ → Ground → Type 0
SomeInstance S l s g = (b : Tm) × Memᴰ b (map (λ e. with_variables S e s) l) × Instance S b (as_tm g)

-- What fits a linear pattern is an instance of it with its variables.
linear_iff : (S : Signature) (p : Term) (s : ℕ) → Sorted S p s × Linear p → (g : Ground) → Fits S p s g ↔ Instance S (with_variables S p s) (as_tm g)
linear_iff S p s h g = fitting_is_instance S p s g (linear_well_sorted S p s h.0 h.1)

module _ (S : Signature) (l : List Term) (s : ℕ) (linear : PatternsOfSort S s l) where
  pub some_instance : (g : Ground) → FitsSome S l s g ↔ SomeInstance S l s g
  some_instance g = (there, back)
    where
      iff : (j : ℕ) → j < length l → Fits S (get_or l j any) s g ↔ Instance S (with_variables S (get_or l j any) s) (as_tm g)
      iff j b = linear_iff S (get_or l j any) s (all-at (λ e. Sorted S e s × Linear e) any l linear j b) g

      there : FitsSome S l s g → SomeInstance S l s g
      there (j, b, h) = (with_variables S (get_or l j any) s, mem_map_at (λ e. with_variables S e s) any l j b, (iff j b).0 h)

      back : SomeInstance S l s g → FitsSome S l s g
      back (b, m, h) = let (j, within, eq) = at_of_mem (λ e. with_variables S e s) b any l m in (j, within, (iff j within).1 (rw eq at h))

  pub variables-sorted : All (λ b. SortedT S b s) (map (λ e. with_variables S e s) l)
  variables-sorted =
      all_map (λ b. SortedT S b s) (λ e. with_variables S e s) l
      (all_implies (λ e. Sorted S e s × Linear e) (λ e. SortedT S (with_variables S e s) s) (λ e h. with_variables-sorted S e s 0 h.0) l linear)

module _ (S : Signature) (p : Term) (s : ℕ) (l : List Term) (wf : WellFormed S) (sorted : Sorted S p s) (linear : Linear p) (is : IsListing S s p l) where
  -- What is no instance of the pattern is one of the entry that Partition finds.
  some_entry : (g : Ground) → SortedG S g s → (Instance S (with_variables S p s) (as_tm g) → ⊥) → SomeInstance S l s g
  some_entry g k not-instance = let r = partition S p s l wf sorted linear is g k in go r.index r.below (r.once.filling, r.once.turns)
    where
      go : (i : ℕ) → i < length (p ∷ l) → Fits S (get_or (p ∷ l) i any) s g → SomeInstance S l s g
      go zero b h = absurd (not-instance ((linear_iff S p s (sorted, linear) g).0 h))
      go (suc j) b h = (some_instance S l s (entries_are_linear_patterns S p s l sorted linear is) g).0 (j, omega arith, h)

  -- An instance of an entry is none of the pattern: Partition finds one index.
  not_pattern_lem : (g : Ground) → SortedG S g s → SomeInstance S l s g → Instance S (with_variables S p s) (as_tm g) → ⊥
  not_pattern_lem g k some match =
      let r = partition S p s l wf sorted linear is g k in
      let (j, within, h) = (some_instance S l s (entries_are_linear_patterns S p s l sorted linear is) g).1 some in
      let entry = r.only (suc j) (omega arith) h in
      let root = r.only 0 (omega arith) ((linear_iff S p s (sorted, linear) g).1 match) in
      omega arith

pub listing-represents : ListingRepresents
listing-represents S p s l wf sorted linear is =
    record {
      term = with_variables-sorted S p s 0 sorted;
      each = variables-sorted S l s (entries_are_linear_patterns S p s l sorted linear is);
      exact = λ g k. (some_entry S p s l wf sorted linear is g k, not_pattern_lem S p s l wf sorted linear is g k);
    }
