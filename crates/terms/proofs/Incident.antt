-- Incident: the theorems on document 01's vocabulary A and its pattern wait(up, free).
--
--   A                      document 01's vocabulary A as a signature: step 0, button 1, queue 2
--   p                      the pattern wait(up, free)
--   incident               the situation wait(up, full)
--   entries                done, wait(down, _) and wait(up, full)
--   inhabited              each of A's sorts has a ground term
--   listed                 the leftovers are these entries
--   incident_third         the situation fits the third leftover
--   incident_only_third    .. and neither the pattern nor another leftover
--   each_has_its_own       each leftover has a ground term that fits it and nothing else
--
use mathlib.Core.Path.{◌≡◌, refl, sym, ◌∙◌}
use mathlib.Core.List.{List, [], ◌∷◌}
use Prim.Native.Nat.{ℕ, ◌<◌}
use native.Mathlib.Omega.{arith}
use lib.ListN.{get_or}
use Rattle.terms.specs.Signature.{Symbol, Signature, WellFormed}
use Rattle.terms.specs.Term.{Term, any, app, nil, cons, Ground, gapp, gnil, gcons, Sorted, SortedG, Linear}
use Rattle.terms.specs.Filling.{Fits}
use Rattle.terms.specs.Matcher.{no_filling}
use Rattle.terms.specs.Inhabited.{Inhabited}
use Rattle.terms.specs.Listing.{IsListing, Needed}
use Rattle.terms.proofs.Theorems.{matcher_is_exact, entries_are_linear_patterns, earlier_listings, partition, strike_out, emptiness_is_exact}

abbrev word : ℕ → List ℕ → Symbol
word s ks = record { result = s; arguments = ks }

-- wait, up, down, free, full, done.
abbrev A : Signature
A = record {
  sorts = 3;
  symbols = word 0 (1 ∷ 2 ∷ []) ∷ word 1 [] ∷ word 1 [] ∷ word 2 [] ∷ word 2 [] ∷ word 0 [] ∷ [];
}

abbrev p : Term
p = app 0 (cons (app 1 nil) (cons (app 3 nil) nil))

abbrev incident : Ground
incident = gapp 0 (gcons (gapp 1 gnil) (gcons (gapp 4 gnil) gnil))

abbrev entries : List Term
entries = app 5 nil ∷ app 0 (cons (app 2 nil) (cons any nil)) ∷ app 0 (cons (app 1 nil) (cons (app 4 nil) nil)) ∷ []

well_formed : WellFormed A
well_formed = omega arith

p-sorted : Sorted A p 0
p-sorted = omega arith

p-linear : Linear p
p-linear = tt

incident_sorted : SortedG A incident 0
incident_sorted = omega arith

inhabited : Inhabited A
inhabited = (emptiness_is_exact A well_formed).missed.0 refl

listed : IsListing A 0 p entries
listed = (earlier_listings A p 0 well_formed inhabited (omega arith) p-sorted p-linear entries).1 refl

incident_third : Fits A (get_or (p ∷ entries) 3 any) 0 incident
incident_third =
    let entry = (entries_are_linear_patterns A p 0 entries p-sorted p-linear listed).1.1.0 in
    (no_filling, (matcher_is_exact A (get_or (p ∷ entries) 3 any) 0 incident no_filling entry.0 incident_sorted).0 refl)

incident_only_third : (j : ℕ) → j < 4 → Fits A (get_or (p ∷ entries) j any) 0 incident → j ≡ 3
incident_only_third j b h =
    let one = partition A p 0 entries well_formed p-sorted p-linear listed incident incident_sorted in
    one.only j b h ∙ sym (one.only 3 (omega arith) incident_third)

each_has_its_own : (i : ℕ) → i < 3 → Needed A p entries 0 i
each_has_its_own = strike_out A p 0 entries well_formed p-sorted p-linear listed
