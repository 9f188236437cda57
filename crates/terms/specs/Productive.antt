-- Productive: which listings leave out what, computed (document 02 (iv)).
--
-- This file is an algorithm, and nothing in it has to be believed: FittedIsExact, ListingIsOne, BookListingIsOne, FruitfulListing,
-- FruitfulTurn and BarrenTurn (Laws) fix what it gives.
--
--   productive S f                every argument sort of the symbol f has a ground term
--   fruitful S t, fruitful_all S ts   every symbol of t, or of ts, is productive
--   fitted S s t                  some ground term fits the linear term t of sort s
--   whole_of S s                   255 where the sort s has a ground term
--   listing_of S s p               the listing of the pattern p of sort s
--   remains_of S s p e             what remains of the entry e behind the pattern p
--   against_of S s p l             what remains of the entries l behind the pattern p
--   left_behind S s p l            .. without the entries that no ground term fits
--   left_in_turn S s ps l           the same behind the patterns ps, taken in turn
--   book_listing_of S s ps          the entries of a book
--   BookEntry S s e               e is a pattern of sort s without names that some ground term fits
--   settled_symbol S e k           the symbol k, with the result sort e where it is not productive
--   settled_by S o, settled S      the signature S with every symbol that is not productive moved to the lowest sort without ground
--                                 terms: what S lists for a fruitful pattern is document 01's listing over this one
--
use Rattle.std.specs.Prelude.{◌≡◌, Bool, true, not, ◌&&◌, cond, List, [], ◌∷◌, ◌++◌, map, ℕ}
use Rattle.std.proofs.Math.Option.{Option, some, none}
use Rattle.terms.specs.Lists.{keep}
use Rattle.terms.specs.Signature.{Symbol, Signature, arguments}
use Rattle.terms.specs.Term.{Term, any, var, app, Terms, nil, cons, Sorted, names}
use Rattle.terms.specs.Listing.{listing}
use Rattle.terms.specs.Book.{disjoint, cut}
use Rattle.terms.specs.Emptiness.{covered, reached, inhabited, first_empty}

abbrev pub productive : Signature → ℕ → Bool
productive S f = covered (arguments S f) (reached S S.sorts)

abbrev mutual
  pub fruitful : Signature → Term → Bool
  fruitful S any = true
  fruitful S (var n) = true
  fruitful S (app f ts) = productive S f && fruitful_all S ts

  pub fruitful_all : Signature → Terms → Bool
  fruitful_all S nil = true
  fruitful_all S (cons t ts) = fruitful S t && fruitful_all S ts

abbrev pub fitted : Signature → ℕ → Term → Bool
fitted S s t = inhabited S s && fruitful S t

abbrev pub whole_of : Signature → ℕ → List Term
whole_of S s = cond (inhabited S s) (any ∷ []) []

abbrev pub listing_of : Signature → ℕ → Term → List Term
listing_of S s p = cond (fitted S s p) (keep (fitted S s) (listing S p)) (whole_of S s)

abbrev pub remains_of : Signature → ℕ → Term → Term → List Term
remains_of S s p e = cond (fitted S s p && not (disjoint e p)) (cut S e p) (e ∷ [])

abbrev pub against_of : Signature → ℕ → Term → List Term → List Term
against_of S s p [] = []
against_of S s p (e ∷ l) = remains_of S s p e ++ against_of S s p l

abbrev pub left_behind : Signature → ℕ → Term → List Term → List Term
left_behind S s p l = keep (fitted S s) (against_of S s p l)

abbrev pub left_in_turn : Signature → ℕ → List Term → List Term → List Term
left_in_turn S s [] l = l
left_in_turn S s (p ∷ ps) l = left_in_turn S s ps (left_behind S s p l)

abbrev pub book_listing_of : Signature → ℕ → List Term → List Term
book_listing_of S s ps = left_in_turn S s ps (whole_of S s)

-- An entry of a book: a pattern of the sort, without names, that some ground term fits.
abbrev pub BookEntry : Signature → ℕ → Term → Type 0
BookEntry S s e = Sorted S e s × (names e ≡ []) × (fitted S s e ≡ true)

-- ---- the signature that listings go by

abbrev pub settled_symbol : Signature → ℕ → Symbol → Symbol
settled_symbol S e k = record { result = cond (covered k.arguments (reached S S.sorts)) k.result e; arguments = k.arguments }

abbrev pub settled_by : Signature → Option ℕ → Signature
settled_by S none = S
settled_by S (some e) = record { sorts = S.sorts; symbols = map (settled_symbol S e) S.symbols }

abbrev pub settled : Signature → Signature
settled S = settled_by S (first_empty S)
