-- EntryLevels: no entry of a listing has more levels than the pattern.
use mathlib.Core.Path.{◌≡◌, refl}
use mathlib.Core.List.{List, [], ◌∷◌, map}
use Prim.Native.Nat.{ℕ, ◌≤◌}
use native.Mathlib.Omega.{arith}
use Rattle.terms.specs.Lists.{All}
use Rattle.terms.specs.Signature.{Signature, arguments}
use Rattle.terms.specs.Term.{Term, any, var, app, Terms, nil, cons}
use Rattle.terms.specs.Listing.{others, all_open, bare, open_every, listing, listing_all, Fitted, IsListing, fits_something, fits_nothing, none_to_fit}
use Rattle.terms.proofs.Kept.{kept-all}
use Rattle.terms.proofs.All.{all_always, all_implies, all_append, all_map}
use Rattle.wire.specs.TermBytes.{levels, levels_all, deepest}

-- Open places take no level.
pub open_levels : (ks : List ℕ) → levels_all (all_open ks) ≡ 0
open_levels [] = refl
open_levels (k ∷ ks) = omega (arith, open_levels ks)

pub open_every-levels : (ts : Terms) → levels_all (open_every ts) ≡ 0
open_every-levels nil = refl
open_every-levels (cons t ts) = omega (arith, open_every-levels ts)

mutual
  entries-levels : (S : Signature) (p : Term) → All (λ e. levels e ≤ levels p) (listing S p)
  entries-levels S any = tt
  entries-levels S (var n) = tt
  entries-levels S (app f ts) =
      all_append (λ e. levels e ≤ levels (app f ts)) (map (bare S) (others S f)) (map (app f) (listing_all S ts))
      (all_map (λ e. levels e ≤ levels (app f ts)) (bare S) (others S f)
      (all_always _ (λ h. omega (arith, open_levels (arguments S h))) (others S f)))
      (all_map (λ e. levels e ≤ levels (app f ts)) (app f) (listing_all S ts)
      (all_implies (λ es. levels_all es ≤ levels_all ts) _ (λ es h. omega arith) (listing_all S ts) (entries-levels_all S ts)))

  entries-levels_all : (S : Signature) (ts : Terms) → All (λ es. levels_all es ≤ levels_all ts) (listing_all S ts)
  entries-levels_all S nil = tt
  entries-levels_all S (cons t ts) =
      all_append (λ es. levels_all es ≤ levels_all (cons t ts)) (map (λ e. cons e (open_every ts)) (listing S t)) (map (cons t) (listing_all S ts))
      (all_map (λ es. levels_all es ≤ levels_all (cons t ts)) (λ e. cons e (open_every ts)) (listing S t)
      (all_implies (λ e. levels e ≤ levels t) _ (λ e h. omega (arith, open_every-levels ts)) (listing S t) (entries-levels S t)))
      (all_map (λ es. levels_all es ≤ levels_all (cons t ts)) (cons t) (listing_all S ts)
      (all_implies (λ es. levels_all es ≤ levels_all ts) _ (λ es h. omega arith) (listing_all S ts) (entries-levels_all S ts)))

pub entries-deepest : (S : Signature) (p : Term) → All (λ e. deepest e ≤ deepest p) (listing S p)
entries-deepest S p = all_implies (λ e. levels e ≤ levels p) _ (λ e h. omega arith) (listing S p) (entries-levels S p)

pub listing-deepest : (S : Signature) (s : ℕ) (p : Term) {l : List Term} → IsListing S s p l → All (λ e. deepest e ≤ deepest p) l
listing-deepest S s p (fits_something l fitted kept) = kept-all (Fitted S s) (λ e. deepest e ≤ deepest p) (listing S p) l (entries-deepest S p) kept
listing-deepest S s p (fits_nothing none ground) = (omega arith, tt)
listing-deepest S s p (none_to_fit empty) = tt
