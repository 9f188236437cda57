-- Laws: what is proved of the notions of the theory. Nothing here has to be believed: proofs/ has a proof of each.
--
--   open_at f i                  what the filling f gives the i-th open place, counted from 0
--   Gives S p s v w f           f gives the variables of p the values of v, and its open places those of w
--   EachChoiceHasAFilling       any choice of ground terms of the sorts due is a filling's
--   EqualWhereTheyAgree         two fillings are equal exactly where they give the same values
--   OneFilling                  no two fillings turn a pattern into the same ground term
--   SortsAddNothing             between two terms of one sort, matching is being an instance
--   MatchingIsFitting           for a ground term of the sort, matching is the same as having a filling
--   ReplacingIsSubstitution     names are replaced as source 004 applies a substitution
--   ReplacingIsFilling          .. and, where no place is open, as document 01 carries out a filling
--   FittedIsExact               what is computed of a linear term tells whether some ground term fits it
--   ListingIsOne                what is computed is the listing, and there is no other
--   Partition                   every ground term fits exactly one of the pattern and its entries, by one filling
--   StrikeOut                   each entry has a ground term that fits it and nothing else
--   EntriesAreLinearPatterns    each entry is a linear pattern of the sort
--   ListingRepresents           the entries represent the non-instances (source 000, Definition 2.1)
--   EarlierListings             over inhabited sorts the listing is document 01's
--   FruitfulListing             where every symbol of a pattern is productive its listing is document 01's over the settled signature
--   DisjointSharesNothing       linear terms that ground terms fit share none exactly where they are disjoint
--   PatternsOfSort S s ps       ps are linear patterns of sort s
--   BookListingIsOne            what is computed is the listing of a book, and there is no other
--   BookPartition               every ground term fits some pattern of a book or, by one filling, exactly one entry, not both
--   BookStrikeOut               each entry of a book has a ground term that fits it, no pattern and no other entry
--   BookEntriesArePatterns      each entry of a book is a pattern of the sort, without names, that some ground term fits
--   BookRepresents              the entries of a book represent what its patterns leave (source 000, problem P')
--   OnePatternBook              the entries of a book of one pattern are its own, with their names opened
--   EarlierBooks                over inhabited sorts the listing of a book is what it was before document 02 (iv)
--   FruitfulTurn, BarrenTurn    what is left behind a pattern whose symbols are all productive, and behind any other
--
use Rattle.std.specs.Prelude.{◌≡◌, true, false, List, [], ◌∷◌, map, ◌↔◌, ℕ, ◌<◌, length, get_or}
use Rattle.terms.specs.Lists.{All, occurs}
use Rattle.terms.specs.Signature.{Signature, WellFormed}
use Rattle.terms.specs.Term.{Term, Ground, as_term, SortedG, Sorted, WellSorted, occurrences, names, Linear, open_sorts, openings}
use Rattle.terms.specs.Filling.{Binding, Filling, no_ground, value_of, fill, IsFilling, Fits}
use Rattle.terms.specs.Substitution.{Tm, Substitution, carry, Matches, as_tm, with_variables}
use Rattle.terms.specs.Replacing.{replace, Applies}
use Rattle.terms.specs.Instance.{SortedT, Instance, Represents}
use Rattle.terms.specs.Inhabited.{Inhabited}
use Rattle.terms.specs.Listing.{listing, Fitted, IsListing, FitsExactlyOne, Needed}
use Rattle.terms.specs.Book.{nameless, Shares, IsBookListing, disjoint, against, book_listing, FitsEither, NeededBeside, RepresentsAll}
use Rattle.terms.specs.Productive.{fruitful, fitted, listing_of, left_behind, book_listing_of, BookEntry, settled}

-- ---- fillings

abbrev pub open_at : Filling → ℕ → Ground
open_at f i = get_or f.opened i no_ground

pub record Gives (S : Signature) (p : Term) (s : ℕ) (v w : ℕ → Ground) (f : Filling) : Type 0 where
  pub named : (n : ℕ) → occurs n (names p) ≡ true → value_of f.named n ≡ v n
  pub opened : (i : ℕ) → i < length (open_sorts S p s) → open_at f i ≡ w i

abbrev pub EachChoiceHasAFilling : Type 0
EachChoiceHasAFilling =
    (S : Signature) (p : Term) (s : ℕ) → Sorted S p s → (v w : ℕ → Ground) →
    All (λ o. SortedG S (v o.name) o.sort) (occurrences S p s) →
    ((i : ℕ) → i < length (open_sorts S p s) → SortedG S (w i) (get_or (open_sorts S p s) i 0)) →
    (f : Filling) × IsFilling S p s f × Gives S p s v w f

-- Document 01: "Two fillings are different when some name, open place or 255 gets different terms."
abbrev pub EqualWhereTheyAgree : Type 0
EqualWhereTheyAgree =
    (S : Signature) (p : Term) (s : ℕ) (f h : Filling) → IsFilling S p s f → IsFilling S p s h →
    (f ≡ h) ↔ Gives S p s (value_of h.named) (open_at h) f

abbrev pub OneFilling : Type 0
OneFilling =
    (S : Signature) (p : Term) (s : ℕ) (f h : Filling) → Sorted S p s → IsFilling S p s f → IsFilling S p s h →
    fill p f ≡ fill p h → f ≡ h

-- ---- substitutions

-- A substitution that turns t into u gives the variables of t values of their sorts.
abbrev pub SortsAddNothing : Type 0
SortsAddNothing =
    (S : Signature) (t u : Tm) (s : ℕ) → SortedT S t s → SortedT S u s → Matches t u ↔ Instance S t u

abbrev pub MatchingIsFitting : Type 0
MatchingIsFitting =
    (S : Signature) (p : Term) (s : ℕ) (g : Ground) → WellSorted S p s → SortedG S g s →
    Fits S p s g ↔ Matches (with_variables S p s) (as_tm g)

-- ---- replacing names

-- The substitution that bindings stand for exists, and applied to the pattern it gives the pattern with its names replaced.
abbrev pub ReplacingIsSubstitution : Type 0
ReplacingIsSubstitution =
    (S : Signature) (p : Term) (s : ℕ) (bs : List Binding) → WellSorted S p s →
    All (λ o. SortedG S (value_of bs o.name) o.sort) (occurrences S p s) →
    ((σ : Substitution) × Applies S p s bs σ) ×
    ((σ : Substitution) → Applies S p s bs σ → carry σ.value (with_variables S p s) ≡ with_variables S (replace bs p) s)

abbrev pub ReplacingIsFilling : Type 0
ReplacingIsFilling =
    (p : Term) (bs : List Binding) (f : Filling) → openings p ≡ 0 →
    ((n : ℕ) → occurs n (names p) ≡ true → value_of f.named n ≡ value_of bs n) →
    replace bs p ≡ as_term (fill p f)

-- ---- listings

abbrev pub FittedIsExact : Type 0
FittedIsExact =
    (S : Signature) (t : Term) (s : ℕ) → WellFormed S → Sorted S t s → Linear t → (fitted S s t ≡ true) ↔ Fitted S s t

abbrev pub ListingIsOne : Type 0
ListingIsOne =
    (S : Signature) (p : Term) (s : ℕ) → WellFormed S → Sorted S p s → Linear p →
    (l : List Term) → IsListing S s p l ↔ (l ≡ listing_of S s p)

abbrev pub Partition : Type 0
Partition =
    (S : Signature) (p : Term) (s : ℕ) (l : List Term) → WellFormed S → Sorted S p s → Linear p → IsListing S s p l →
    (g : Ground) → SortedG S g s → FitsExactlyOne S (p ∷ l) s g

abbrev pub StrikeOut : Type 0
StrikeOut =
    (S : Signature) (p : Term) (s : ℕ) (l : List Term) → WellFormed S → Sorted S p s → Linear p → IsListing S s p l →
    (i : ℕ) → i < length l → Needed S p l s i

abbrev pub EntriesAreLinearPatterns : Type 0
EntriesAreLinearPatterns =
    (S : Signature) (p : Term) (s : ℕ) (l : List Term) → Sorted S p s → Linear p → IsListing S s p l → All (λ e. Sorted S e s × Linear e) l

abbrev pub ListingRepresents : Type 0
ListingRepresents =
    (S : Signature) (p : Term) (s : ℕ) (l : List Term) → WellFormed S → Sorted S p s → Linear p → IsListing S s p l →
    Represents S s (with_variables S p s) (map (λ e. with_variables S e s) l)

-- "earlier accepted ones list as before": `listing` is what document 01 says.
abbrev pub EarlierListings : Type 0
EarlierListings =
    (S : Signature) (p : Term) (s : ℕ) → WellFormed S → Inhabited S → s < S.sorts → Sorted S p s → Linear p →
    (l : List Term) → IsListing S s p l ↔ (l ≡ listing S p)

abbrev pub FruitfulListing : Type 0
FruitfulListing =
    (S : Signature) (p : Term) (s : ℕ) → WellFormed S → Sorted S p s → fruitful S p ≡ true →
    (listing_of S s p ≡ listing (settled S) p) × Sorted (settled S) p s

-- ---- books

-- "shares no situation".
abbrev pub DisjointSharesNothing : Type 0
DisjointSharesNothing =
    (S : Signature) (s : ℕ) (e p : Term) → WellFormed S → Sorted S e s → Linear e → Sorted S p s → Linear p →
    Fitted S s e → Fitted S s p → (disjoint e p ≡ true) ↔ (Shares S s e p → ⊥)

abbrev pub PatternsOfSort : Signature → ℕ → List Term → Type 0
PatternsOfSort S s ps = All (λ p. Sorted S p s × Linear p) ps

abbrev pub BookListingIsOne : Type 0
BookListingIsOne =
    (S : Signature) (ps : List Term) (s : ℕ) → WellFormed S → PatternsOfSort S s ps →
    (l : List Term) → IsBookListing S s ps l ↔ (l ≡ book_listing_of S s ps)

abbrev pub BookPartition : Type 0
BookPartition =
    (S : Signature) (ps : List Term) (s : ℕ) (l : List Term) → WellFormed S → PatternsOfSort S s ps → IsBookListing S s ps l →
    (g : Ground) → SortedG S g s → FitsEither S ps l s g

abbrev pub BookStrikeOut : Type 0
BookStrikeOut =
    (S : Signature) (ps : List Term) (s : ℕ) (l : List Term) → WellFormed S → PatternsOfSort S s ps → IsBookListing S s ps l →
    (i : ℕ) → i < length l → NeededBeside S ps l s i

abbrev pub BookEntriesArePatterns : Type 0
BookEntriesArePatterns =
    (S : Signature) (ps : List Term) (s : ℕ) (l : List Term) → WellFormed S → PatternsOfSort S s ps → IsBookListing S s ps l →
    All (λ e. Sorted S e s × (names e ≡ []) × Fitted S s e) l

abbrev pub BookRepresents : Type 0
BookRepresents =
    (S : Signature) (ps : List Term) (s : ℕ) (l : List Term) → WellFormed S → PatternsOfSort S s ps → IsBookListing S s ps l →
    RepresentsAll S s (map (λ p. with_variables S p s) ps) (map (λ e. with_variables S e s) l)

abbrev pub OnePatternBook : Type 0
OnePatternBook =
    (S : Signature) (p : Term) (s : ℕ) (l : List Term) → WellFormed S → Sorted S p s → Linear p → IsListing S s p l →
    IsBookListing S s (p ∷ []) (map nameless l)

-- "earlier accepted ones list as before": `book_listing` is what document 02 (ii) says.
abbrev pub EarlierBooks : Type 0
EarlierBooks =
    (S : Signature) (ps : List Term) (s : ℕ) → WellFormed S → Inhabited S → s < S.sorts → PatternsOfSort S s ps →
    (l : List Term) → IsBookListing S s ps l ↔ (l ≡ book_listing S ps)

abbrev pub FruitfulTurn : Type 0
FruitfulTurn =
    (S : Signature) (s : ℕ) (p : Term) (l : List Term) → WellFormed S → Sorted S p s → fruitful S p ≡ true → All (BookEntry S s) l →
    (left_behind S s p l ≡ against (settled S) p l) × All (BookEntry S s) (left_behind S s p l)

abbrev pub BarrenTurn : Type 0
BarrenTurn =
    (S : Signature) (s : ℕ) (p : Term) (l : List Term) → fruitful S p ≡ false → All (BookEntry S s) l → left_behind S s p l ≡ l
