-- ListExample: document 01's bench example, derived from what list promises.
--
--   says_three        of wait(up, free) under A with 15 bytes lent the promise gives: 3 entries, 15 bytes
--   entries_of_A      .. and demand 3 of what stands in the slice after the call
--   incident_listed   .. and wait(up, full) fits the third of the entries that stand in the slice
--   incident_only     .. and neither the pattern nor another entry
--
use mathlib.Core.Path.{◌≡◌, refl, sym, ap, subst, ◌∙◌}
use mathlib.Core.List.{List, [], ◌∷◌}
use Prim.Native.Nat.{ℕ, ◌<◌}
use native.Mathlib.Omega.{arith}
use lib.ListN.{length, get_or}
use Rattle.terms.specs.Term.{Term, any, app, nil, cons, Ground, gapp, gnil, gcons, Sorted, SortedG}
use Rattle.terms.specs.Filling.{Fits}
use Rattle.terms.specs.Matcher.{no_filling}
use Rattle.terms.proofs.Theorems.{matcher_is_exact}
use Rattle.wire.specs.Reply.{Reply, accepted, IsBytes}
use Rattle.wire.specs.Vocabulary.{Word, Vocabulary, signature}
use Rattle.terms.specs.Productive.{listing_of}
use Rattle.wire.specs.Leftovers.{HoldsPattern, Entries, ListPromise}
use Rattle.wire.specs.Starred.{A, wait_up_free}
use Rattle.wire.proofs.Leftovers.{pattern-read, the_listing, is_listing_lem}

abbrev word : ℕ → ℕ → List ℕ → Word
word s m ks = record { result = s; place_map = m; kinds = ks }

-- Vocabulary A: wait, up, down, free, full, done.
abbrev W : Vocabulary
W = record {
  kinds = 3;
  words = word 0 3 (1 ∷ 2 ∷ []) ∷ word 1 0 [] ∷ word 1 0 [] ∷ word 2 0 [] ∷ word 2 0 [] ∷ word 0 0 [] ∷ [];
}

abbrev pattern : Term
pattern = app 0 (cons (app 1 nil) (cons (app 3 nil) nil))

-- Button up, queue full.
abbrev incident : Ground
incident = gapp 0 (gcons (gapp 1 gnil) (gcons (gapp 4 gnil) gnil))

incident_sorted : SortedG (signature W) incident 0
incident_sorted = omega arith

A-bytes : IsBytes A
A-bytes = omega arith

p-bytes : IsBytes wait_up_free
p-bytes = omega arith

written : HoldsPattern A wait_up_free W 0 pattern
written = pattern-read A wait_up_free W (record { kind = 0; term = pattern }) A-bytes p-bytes refl refl

-- wait(up, full) as a pattern.
abbrev up_full : Term
up_full = app 0 (cons (app 1 nil) (cons (app 4 nil) nil))

up_full_sorted : Sorted (signature W) up_full 0
up_full_sorted = omega arith

up_full_fits : Fits (signature W) up_full 0 incident
up_full_fits =
    (no_filling, (matcher_is_exact (signature W) up_full 0 incident no_filling up_full_sorted incident_sorted).0 refl)

-- The promise at 15 lent bytes, whatever they are.
module _ (before after : List ℕ) (r : Reply) (fifteen : length before ≡ 15) (m : ListPromise A wait_up_free before after r) where
  pub says_three : r ≡ accepted (3 ∷ 15 ∷ [])
  says_three = (m.answered (3 ∷ 15 ∷ [])).1 (W, 0, pattern, listing_of (signature W) 0 pattern, written, is_listing_lem A wait_up_free W 0 pattern written, omega arith, refl)

  -- What stands in the slice after the call.
  pub entries_of_A : Entries W 0 pattern wait_up_free 3 15 after
  entries_of_A = m.entries 3 15 says_three W 0 pattern written

  -- The entries that stand in the slice.
  abbrev standing : List Term
  standing = entries_of_A.entries

  same : standing ≡ listing_of (signature W) 0 pattern
  same = (the_listing A wait_up_free W 0 pattern written standing).0 entries_of_A.order

  pub incident_listed : Fits (signature W) (get_or standing 2 any) 0 incident
  incident_listed =
      subst (λ e. Fits (signature W) e 0 incident) (sym (ap (λ l. get_or l 2 any) same)) up_full_fits

  pub incident_only : (j : ℕ) → j < 4 → Fits (signature W) (get_or (pattern ∷ standing) j any) 0 incident → j ≡ 3
  incident_only j b h =
      let one = entries_of_A.once incident incident_sorted in
      let three : length (pattern ∷ standing) ≡ 4 = ap (λ l. length (pattern ∷ l)) same in
      one.only j (omega arith) h ∙ sym (one.only 3 (omega arith) incident_listed)
