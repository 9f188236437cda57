-- Listing: what is computed is the listing of a pattern, and there is no other.
--
--   listing_of-fitted, listing_of_open, listing_of_none    what is computed: of a fitted pattern, of another, of an empty sort
--   listing_of_is            what is computed is a listing
--   is_listing-of            .. and each listing is what is computed
--   listing_is_one               both together
--   entries_are_linear_patterns  each entry of a listing is a linear pattern of the sort
--   entries-fitted               .. that some ground term fits
--   earlier_listings             over inhabited sorts the listing is document 01's
--
use mathlib.Core.Path.{◌≡◌, refl, sym, ◌∙◌, subst}
use mathlib.Core.Bool.{Bool, true, false, cond, true≢false}
use mathlib.Core.List.{List, [], ◌∷◌}
use mathlib.Core.Logic.{◌↔◌}
use Prim.Native.Nat.{ℕ}
use Rattle.terms.specs.Lists.{All, keep}
use Rattle.terms.specs.Signature.{Signature, WellFormed}
use Rattle.terms.specs.Term.{Term, any, Sorted, Linear}
use Rattle.terms.specs.Listing.{listing, Fitted, IsListing, fits_something, fits_nothing, none_to_fit}
use Rattle.terms.specs.Emptiness.{inhabited}
use Rattle.terms.specs.Productive.{fitted, listing_of}
use Rattle.terms.specs.Laws.{ListingIsOne, EntriesAreLinearPatterns, EarlierListings}
use Rattle.terms.proofs.Bools.{false_of_not}
use Rattle.terms.proofs.Kept.{kept-keep, keep-kept, kept-all, kept-holds}
use Rattle.terms.proofs.Inhabited.{emptiness_is_exact, inhabited-ground, ground-inhabited}
use Rattle.terms.proofs.Entries.{entries_sorted, listing-linear}
use Rattle.terms.proofs.Fitted.{fitted_is_exact, fitted_decides, ground-fitted, all-fitted, keep_fitted_all}

module _ (S : Signature) (s : ℕ) (p : Term) where
  pub listing_of-fitted : fitted S s p ≡ true → listing_of S s p ≡ keep (fitted S s) (listing S p)
  listing_of-fitted e = rw e

  pub listing_of_open : fitted S s p ≡ false → inhabited S s ≡ true → listing_of S s p ≡ any ∷ []
  listing_of_open e i = rw (e, i)

  pub listing_of_none : inhabited S s ≡ false → listing_of S s p ≡ []
  listing_of_none i = rw i

module _ (S : Signature) (p : Term) (s : ℕ) (wf : WellFormed S) (h : Sorted S p s) (u : Linear p) where
  pub listing_of_is : IsListing S s p (listing_of S s p)
  listing_of_is = go (fitted S s p) (inhabited S s) refl refl
    where
      go : (b i : Bool) → fitted S s p ≡ b → inhabited S s ≡ i → IsListing S s p (cond b (keep (fitted S s) (listing S p)) (cond i (any ∷ []) []))
      go true i e d =
          fits_something (keep (fitted S s) (listing S p)) ((fitted_is_exact S p s wf h u).0 e)
          (keep-kept (Fitted S s) (fitted S s) (listing S p) (fitted_decides S s (listing S p) wf (listing-linear S p s h u)))
      go false true e d = fits_nothing (λ f. true≢false (sym ((fitted_is_exact S p s wf h u).1 f) ∙ e)) (inhabited-ground S s d)
      go false false e d = none_to_fit (λ g k. true≢false (sym (ground-inhabited S wf g s k) ∙ d))

  pub is_listing-of : (l : List Term) → IsListing S s p l → l ≡ listing_of S s p
  is_listing-of l (fits_something m f k) =
      kept-keep (Fitted S s) (fitted S s) (listing S p) m (fitted_decides S s (listing S p) wf (listing-linear S p s h u)) k
      ∙ sym (listing_of-fitted S s p ((fitted_is_exact S p s wf h u).1 f))
  is_listing-of l (fits_nothing n g) =
      let e : fitted S s p ≡ false = false_of_not (fitted S s p) (λ t. n ((fitted_is_exact S p s wf h u).0 t)) in
      sym (listing_of_open S s p e (((emptiness_is_exact S wf).ground s).1 g))
  is_listing-of l (none_to_fit n) =
      sym (listing_of_none S s p (false_of_not (inhabited S s) (λ i. let w = inhabited-ground S s i in n w.0 w.1)))

pub listing_is_one : ListingIsOne
listing_is_one S p s wf h u l =
    (is_listing-of S p s wf h u l, λ e. subst (IsListing S s p) (sym e) (listing_of_is S p s wf h u))

pub entries_are_linear_patterns : EntriesAreLinearPatterns
entries_are_linear_patterns S p s l h u (fits_something m f k) = kept-all (Fitted S s) (λ e. Sorted S e s × Linear e) (listing S p) m (listing-linear S p s h u) k
entries_are_linear_patterns S p s l h u (fits_nothing n g) = ((tt, tt), tt)
entries_are_linear_patterns S p s l h u (none_to_fit n) = tt

pub entries-fitted : (S : Signature) (p : Term) (s : ℕ) (l : List Term) → IsListing S s p l → All (Fitted S s) l
entries-fitted S p s l (fits_something m f k) = kept-holds (Fitted S s) (listing S p) m k
entries-fitted S p s l (fits_nothing n g) = (ground-fitted S s g, tt)
entries-fitted S p s l (none_to_fit n) = tt

pub earlier_listings : EarlierListings
earlier_listings S p s wf full b h u l = subst (λ m. IsListing S s p l ↔ (l ≡ m)) same (listing_is_one S p s wf h u l)
  where
    same : listing_of S s p ≡ listing S p
    same = listing_of-fitted S s p (all-fitted S wf full s b p h) ∙ keep_fitted_all S wf full s b (listing S p) (entries_sorted S p s h)
