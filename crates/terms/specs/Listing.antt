-- Listing: the non-instances of a pattern (document 01: leftovers, "Listing order"; document 02 (iv): models without the part).
--
--   others S f                  the other symbols of f's result sort, by ascending number
--   all_open ks                  open places, as many as there are sorts in ks
--   bare S f                    the symbol f with every place open
--   open_every ts                ts with every place open
--   listing S p, listing_all S ts   the entries, in document 01's order: of a pattern, of the places of a symbol
--   Fitted S s t                some ground term of sort s fits t
--   IsListing S s p l           l is the listing of the pattern p of sort s, as document 02 (iv) has it
--   FitsExactlyOne S l s g      g fits exactly one entry of l, and exactly one filling turns that one into g
--   Needed S p l s i            some ground term fits entry i of l, and neither p nor any other entry
--
use Rattle.std.specs.Prelude.{◌≡◌, ◌&&◌, not, List, [], ◌∷◌, ◌++◌, map, ℕ, ◌<◌, eqb, length, get_or}
use Rattle.terms.specs.Lists.{range, keep, Kept}
use Rattle.terms.specs.Signature.{Signature, result, arguments}
use Rattle.terms.specs.Term.{Term, any, var, app, Terms, nil, cons, Ground, SortedG}
use Rattle.terms.specs.Filling.{Fits, FitsOnce}
use Rattle.terms.specs.Inhabited.{HasGround, Empty}

-- Document 01: "every other word of the same result kind, by ascending number".
abbrev pub others : Signature → ℕ → List ℕ
others S f = keep (λ h. not (eqb h f) && eqb (result S h) (result S f)) (range 0 (length S.symbols))

abbrev pub all_open : List ℕ → Terms
all_open [] = nil
all_open (k ∷ ks) = cons any (all_open ks)

-- Document 01: a word "with written map 0".
abbrev pub bare : Signature → ℕ → Term
bare S f = app f (all_open (arguments S f))

-- Document 01: "the higher places open".
abbrev pub open_every : Terms → Terms
open_every nil = nil
open_every (cons t ts) = cons any (open_every ts)

abbrev mutual
  pub listing : Signature → Term → List Term
  -- "For 255, a name or an open place: no entry."
  listing S any = []
  listing S (var n) = []
  -- "For a word: first every other word .. Then, for each written place from the lowest ..". An open
  -- place has no entry, so it is all one whether places that are not written are passed over.
  listing S (app f ts) = map (bare S) (others S f) ++ map (app f) (listing_all S ts)

  pub listing_all : Signature → Terms → List Terms
  listing_all S nil = []
  -- ".. the listing of that place's term, each put in that place with the lower places exactly as in
  -- the pattern and the higher places open."
  listing_all S (cons t ts) = map (λ e. cons e (open_every ts)) (listing S t) ++ map (cons t) (listing_all S ts)

abbrev pub Fitted : Signature → ℕ → Term → Type 0
Fitted S s t = (g : Ground) × SortedG S g s × Fits S t s g

pub data IsListing (S : Signature) (s : ℕ) (p : Term) : List Term → Type 0 where
  -- "A listing .. now leaves out every entry that no complete situation fits."
  fits_something : (l : List Term) → Fitted S s p → Kept (Fitted S s) (listing S p) l → IsListing S s p l
  -- "If no complete situation fits the pattern, the listing is 255 alone, ..
  fits_nothing : (Fitted S s p → ⊥) → HasGround S s → IsListing S s p (any ∷ [])
  -- .. or nothing where the kind itself has none."
  none_to_fit : Empty S s → IsListing S s p []

-- Demand 3: a complete situation "fits exactly one .., and exactly one filling turns that one into it". Entries are told
-- apart by where they stand.
pub record FitsExactlyOne (S : Signature) (l : List Term) (s : ℕ) (g : Ground) : Type 0 where
  pub index : ℕ
  pub below : index < length l
  pub once : FitsOnce S (get_or l index any) s g
  pub only : (j : ℕ) → j < length l → Fits S (get_or l j any) s g → j ≡ index

-- Demand 3: "there is a complete situation of that kind that fits this entry and neither the pattern nor any other entry".
pub record Needed (S : Signature) (p : Term) (l : List Term) (s i : ℕ) : Type 0 where
  pub situation : Ground
  pub sorted : SortedG S situation s
  pub fits : Fits S (get_or l i any) s situation
  pub not_pattern : Fits S p s situation → ⊥
  pub only : (j : ℕ) → j < length l → Fits S (get_or l j any) s situation → j ≡ i
