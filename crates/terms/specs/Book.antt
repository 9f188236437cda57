-- Book: what the patterns of a book leave over (document 02 (ii): leftovers of a whole book; (iv): models without the part).
--
--   nameless t, nameless_all ts    t, or ts, with every variable opened
--   Shares S s e p                some ground term of sort s fits both e and p
--   both e p, both_all es ps       what both allow
--   cut S e p, cut_all S es ps     the leftovers of an entry e that shares something with the pattern p; of the places of a symbol
--   Leaves S s p e r              r is what remains of an entry e behind the pattern p
--   EachLeaves S s p l m          m is what remains of the entries l behind the pattern p
--   InTurn S s ps l r             r is what remains of the entries l behind the patterns ps, taken in turn
--   StartsWith S s l              l is what a book of sort s starts from
--   IsBookListing S s ps l        l has the entries of the book of the patterns ps of sort s
--   disjoint e p, disjoint_all es ps   somewhere e and p, or the terms at two symbols' places, have different symbols
--   remains S p e, against S p l, behind S ps l, book_listing S ps   what remains of an entry and of entries behind a pattern, of
--                                 entries behind patterns, and a book's entries, as (ii) was read before (iv)
--   FitsSome S l s g              g fits some term of l
--   FitsEither S ps l s g         g fits some of the patterns ps, or exactly one entry of l by one filling, and not both
--   NeededBeside S ps l s i       some ground term fits entry i of l, and none of the patterns ps nor any other entry
--   RepresentsAll S s ts l        source 000's sense, for a set of terms: l represents what is no instance of any of ts
--
use Rattle.std.specs.Prelude.{◌≡◌, Bool, true, false, not, ◌||◌, ◌↔◌, ◌⊎◌, ℕ, ◌<◌, eqb, length, get_or}
use mathlib.Core.List.{List, [], ◌∷◌, ◌++◌, map, Memᴰ}
use Rattle.terms.specs.Lists.{All, Kept}
use Rattle.terms.specs.Signature.{Signature}
use Rattle.terms.specs.Term.{Term, any, var, app, Terms, nil, cons, Ground, SortedG}
use Rattle.terms.specs.Filling.{Fits}
use Rattle.terms.specs.Substitution.{Tm, as_tm}
use Rattle.terms.specs.Instance.{SortedT, Instance}
use Rattle.terms.specs.Inhabited.{HasGround, Empty}
use Rattle.terms.specs.Listing.{listing, Fitted, FitsExactlyOne}

-- "Entries here carry no names: each name taken over is written as an open place."
abbrev mutual
  pub nameless : Term → Term
  nameless any = any
  nameless (var n) = any
  nameless (app f ts) = app f (nameless_all ts)

  pub nameless_all : Terms → Terms
  nameless_all nil = nil
  nameless_all (cons t ts) = cons (nameless t) (nameless_all ts)

-- The entry e "shares" a "situation with" the pattern p.
abbrev pub Shares : Signature → ℕ → Term → Term → Type 0
Shares S s e p = (g : Ground) × SortedG S g s × Fits S e s g × Fits S p s g

-- "what both allow". Where they share something, both have the same symbol or one of them is open or named.
abbrev mutual
  pub both : Term → Term → Term
  both any p = nameless p
  both (var n) p = nameless p
  both (app f es) any = app f es
  both (app f es) (var n) = app f es
  both (app f es) (app h ps) = app f (both_all es ps)

  pub both_all : Terms → Terms → Terms
  both_all nil ps = nil
  both_all (cons e es) nil = nil
  both_all (cons e es) (cons p ps) = cons (both e p) (both_all es ps)

-- Document 01's listing, with what no ground term fits still in it: InTurn leaves that out. Entry and pattern share a ground term,
-- so (iv)'s 255 does not come up at a place.
abbrev mutual
  pub cut : Signature → Term → Term → List Term
  -- "where the entry is open or 255, the listing of the pattern's term there". An entry carries no name; one would be as open.
  cut S any p = map nameless (listing S p)
  cut S (var n) p = map nameless (listing S p)
  -- "where the pattern is open, named or 255, none".
  cut S (app f es) any = []
  cut S (app f es) (var n) = []
  -- "where both have the same word, its places in order ..
  cut S (app f es) (app h ps) = map (app f) (cut_all S es ps)

  pub cut_all : Signature → Terms → Terms → List Terms
  cut_all S nil ps = []
  cut_all S (cons e es) nil = []
  -- .. lower places holding what both allow, higher ones as in the entry."
  cut_all S (cons e es) (cons p ps) = map (λ c. cons c es) (cut S e p) ++ map (cons (both e p)) (cut_all S es ps)

pub data Leaves (S : Signature) (s : ℕ) (p e : Term) : List Term → Type 0 where
  -- "an entry that shares no situation with it is kept. ..
  stands : (Shares S s e p → ⊥) → Leaves S s p e (e ∷ [])
  -- .. Any other entry is replaced by its own leftovers against the pattern".
  replaced : Shares S s e p → Leaves S s p e (cut S e p)

pub data EachLeaves (S : Signature) (s : ℕ) (p : Term) : List Term → List Term → Type 0 where
  no_entry : EachLeaves S s p [] []
  next_entry : (e : Term) (l r m : List Term) → Leaves S s p e r → EachLeaves S s p l m → EachLeaves S s p (e ∷ l) (r ++ m)

-- "For each pattern in turn"; (iv): "A listing, in a book after each pattern, now leaves out every entry that no complete
-- situation fits."
pub data InTurn (S : Signature) (s : ℕ) : List Term → List Term → List Term → Type 0 where
  no_more : (l : List Term) → InTurn S s [] l l
  next_pattern : (p : Term) (ps l m k r : List Term) → EachLeaves S s p l m → Kept (Fitted S s) m k → InTurn S s ps k r → InTurn S s (p ∷ ps) l r

pub data StartsWith (S : Signature) (s : ℕ) : List Term → Type 0 where
  -- "The listing now starts from the entry 255."
  from_whole : HasGround S s → StartsWith S s (any ∷ [])
  -- (iv): "Books start with no entry for such a kind."
  from_nothing : Empty S s → StartsWith S s []

-- The order in which the entries stand here means nothing.
pub record IsBookListing (S : Signature) (s : ℕ) (ps l : List Term) : Type 0 where
  pub start : List Term
  pub starts : StartsWith S s start
  pub turns : InTurn S s ps start l

-- ---- before (iv): for EarlierBooks and the ways to compute; no promise rests on it

-- Linear terms that ground terms fit share none exactly where this holds (DisjointSharesNothing).
abbrev mutual
  pub disjoint : Term → Term → Bool
  disjoint any p = false
  disjoint (var n) p = false
  disjoint (app f es) any = false
  disjoint (app f es) (var n) = false
  disjoint (app f es) (app h ps) = not (eqb f h) || disjoint_all es ps

  pub disjoint_all : Terms → Terms → Bool
  disjoint_all nil ps = false
  disjoint_all (cons e es) nil = false
  disjoint_all (cons e es) (cons p ps) = disjoint e p || disjoint_all es ps

-- Over inhabited sorts it is all one whether terms share a ground term or are not disjoint (EarlierBooks).
abbrev pub remains : Signature → Term → Term → List Term
remains S p e =
    elim (disjoint e p) [
      | true ↦ e ∷ []
      | false ↦ cut S e p
    ]

abbrev pub against : Signature → Term → List Term → List Term
against S p [] = []
against S p (e ∷ l) = remains S p e ++ against S p l

abbrev pub behind : Signature → List Term → List Term → List Term
behind S [] l = l
behind S (p ∷ ps) l = behind S ps (against S p l)

abbrev pub book_listing : Signature → List Term → List Term
book_listing S ps = behind S ps (any ∷ [])

-- ---- what is wanted of the entries

abbrev pub FitsSome : Signature → List Term → ℕ → Ground → Type 0
FitsSome S l s g = (i : ℕ) × (i < length l) × Fits S (get_or l i any) s g

-- "Every complete situation of the kind fits some pattern or, by one filling only, a single entry, never both".
pub record FitsEither (S : Signature) (ps l : List Term) (s : ℕ) (g : Ground) : Type 0 where
  pub either : FitsSome S ps s g ⊎ FitsExactlyOne S l s g
  pub not_both : FitsSome S ps s g → FitsSome S l s g → ⊥

-- "no entry can be struck".
pub record NeededBeside (S : Signature) (ps l : List Term) (s i : ℕ) : Type 0 where
  pub situation : Ground
  pub sorted : SortedG S situation s
  pub fits : Fits S (get_or l i any) s situation
  pub no_pattern : FitsSome S ps s situation → ⊥
  pub only : (j : ℕ) → j < length l → Fits S (get_or l j any) s situation → j ≡ i

-- Source 000, section 0, problem P' with a variable for τ: the set "of all Σ-groundterms τ₁ of sort s that are .. not a Σ-instance
-- of any of the τⁱ". For one term it is Definition 2.1 (Represents).
pub record RepresentsAll (S : Signature) (s : ℕ) (ts l : List Tm) : Type 0 where
  pub terms : All (λ t. SortedT S t s) ts
  pub each : All (λ b. SortedT S b s) l
  pub exact :
      (g : Ground) → SortedG S g s →
      All (λ t. Instance S t (as_tm g) → ⊥) ts ↔ ((b : Tm) × Memᴰ b l × Instance S b (as_tm g))
