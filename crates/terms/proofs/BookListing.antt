-- BookListing: what is computed is the listing of a book, and there is no other.
--
--   leaves_remains, remains_leaves    what remains of an entry, against what is computed
--   each-against, against-each        .. of several entries
--   kept-left                         .. and what is left of it
--   turns-behind, behind-turns        .. behind several patterns
--   starts-whole, whole-starts        what a book starts from
--   book_listing_is_one               all of it
--
use mathlib.Core.Path.{◌≡◌, refl, sym, ◌∙◌, ap, ap₂, subst}
use mathlib.Core.Bool.{Bool, true, false, ◌&&◌, cond, true≢false}
use mathlib.Core.List.{List, [], ◌∷◌, ◌++◌, map, append-nil}
use mathlib.Core.Logic.{◌↔◌}
use Prim.Native.Nat.{ℕ}
use Rattle.terms.specs.Lists.{All, keep, Kept}
use Rattle.terms.specs.Signature.{Signature, WellFormed}
use Rattle.terms.specs.Term.{Term, any, Sorted, Linear}
use Rattle.terms.specs.Listing.{listing, Fitted}
use Rattle.terms.specs.Book.{nameless, Shares, cut, Leaves, stands, replaced, EachLeaves, no_entry, next_entry, InTurn, no_more, next_pattern, StartsWith, from_whole, from_nothing}
use Rattle.terms.specs.Emptiness.{inhabited}
use Rattle.terms.specs.Productive.{fruitful, fitted, whole_of, listing_of, remains_of, against_of, left_behind, left_in_turn, book_listing_of, BookEntry}
use Rattle.terms.specs.Laws.{PatternsOfSort, BookListingIsOne, OnePatternBook}
use Rattle.terms.proofs.Bools.{false_of_not}
use Rattle.terms.proofs.Keep.{keep_same, keep-map}
use Rattle.terms.proofs.Kept.{Decides, kept-keep, keep-kept}
use Rattle.terms.proofs.Inhabited.{inhabited-ground, ground-inhabited}
use Rattle.terms.proofs.Fitted.{fitted_decides}
use Rattle.terms.proofs.Listing.{listing_is_one}
use Rattle.terms.proofs.Nameless.{entry-linear}
use Rattle.terms.proofs.Sharing.{meets, shares_meets, fruitful-nameless}
use Rattle.terms.proofs.LeftBehind.{plain, entries-linear, against_of-entries, left-entries, whole-entries}

module _ (S : Signature) (s : ℕ) (wf : WellFormed S) where
  module _ (p : Term) (hp : Sorted S p s × Linear p) where
    shared : (e : Term) → BookEntry S s e → Shares S s e p ↔ (meets S s p e ≡ true)
    shared e b = shares_meets S s e p wf b.0 hp.0 (entry-linear S s e (b.0, b.1)).1 hp.1 b.2

    leaves_remains : (e : Term) (r : List Term) → BookEntry S s e → Leaves S s p e r → r ≡ remains_of S s p e
    leaves_remains e r b (stands none) = rw (false_of_not (meets S s p e) (λ m. none ((shared e b).1 m)))
    leaves_remains e r b (replaced some) = rw ((shared e b).0 some)

    remains_leaves : (e : Term) → BookEntry S s e → Leaves S s p e (remains_of S s p e)
    remains_leaves e b = go (meets S s p e) refl
      where
        go : (x : Bool) → meets S s p e ≡ x → Leaves S s p e (cond x (cut S e p) (e ∷ []))
        go true m = replaced ((shared e b).1 m)
        go false m = stands (λ some. true≢false (sym ((shared e b).0 some) ∙ m))

    each-against : (l m : List Term) → All (BookEntry S s) l → EachLeaves S s p l m → m ≡ against_of S s p l
    each-against l m a no_entry = refl
    each-against l m a (next_entry e l' r m' leaves rest) = ap₂ (λ x y. x ++ y) (leaves_remains e r a.0 leaves) (each-against l' m' a.1 rest)

    against-each : (l : List Term) → All (BookEntry S s) l → EachLeaves S s p l (against_of S s p l)
    against-each [] a = no_entry
    against-each (e ∷ l) a = next_entry e l (remains_of S s p e) (against_of S s p l) (remains_leaves e a.0) (against-each l a.1)

    -- Of what remains, a ground term fits what is fitted.
    against_decided : (l : List Term) → All (BookEntry S s) l → All (Decides (Fitted S s) (fitted S s)) (against_of S s p l)
    against_decided l a =
        fitted_decides S s (against_of S s p l) wf (entries-linear S s (against_of S s p l) (against_of-entries S s p l hp.0 (plain S s l a)))

    kept-left : (l m k : List Term) → All (BookEntry S s) l → EachLeaves S s p l m → Kept (Fitted S s) m k → k ≡ left_behind S s p l
    kept-left l m k a each stay =
        kept-keep (Fitted S s) (fitted S s) (against_of S s p l) k (against_decided l a) (rw (each-against l m a each) at stay)

  turns-behind : (ps l r : List Term) → PatternsOfSort S s ps → All (BookEntry S s) l → InTurn S s ps l r → r ≡ left_in_turn S s ps l
  turns-behind ps l r hs a (no_more _) = refl
  turns-behind ps l r hs a (next_pattern p ps' l' m k r' each stay rest) =
      let e = kept-left p hs.0 l' m k a each stay in
      turns-behind ps' k r' hs.1 (subst (All (BookEntry S s)) (sym e) (left-entries S s p l' hs.0.0 a)) rest ∙ ap (left_in_turn S s ps') e

  behind-turns : (ps l : List Term) → PatternsOfSort S s ps → All (BookEntry S s) l → InTurn S s ps l (left_in_turn S s ps l)
  behind-turns [] l hs a = no_more l
  behind-turns (p ∷ ps) l hs a =
      next_pattern p ps l (against_of S s p l) (left_behind S s p l) (left_in_turn S s ps (left_behind S s p l))
      (against-each p hs.0 l a) (keep-kept (Fitted S s) (fitted S s) (against_of S s p l) (against_decided p hs.0 l a))
      (behind-turns ps (left_behind S s p l) hs.1 (left-entries S s p l hs.0.0 a))

  starts-whole : (l : List Term) → StartsWith S s l → l ≡ whole_of S s
  starts-whole l (from_whole full) = rw (ground-inhabited S wf full.0 s full.1)
  starts-whole l (from_nothing none) = rw (false_of_not (inhabited S s) (λ i. let (g, k) = inhabited-ground S s i in none g k))

  whole-starts : StartsWith S s (whole_of S s)
  whole-starts = go (inhabited S s) refl
    where
      go : (b : Bool) → inhabited S s ≡ b → StartsWith S s (cond b (any ∷ []) [])
      go true i = from_whole (inhabited-ground S s i)
      go false i = from_nothing (λ g k. true≢false (sym (ground-inhabited S wf g s k) ∙ i))

pub book_listing_is_one : BookListingIsOne
book_listing_is_one S ps s wf hs l = (
  λ is. turns-behind S s wf ps (whole_of S s) l hs (whole-entries S s) (rw (starts-whole S s wf is.start is.starts) at is.turns),
  λ e. rw e (record { start = whole_of S s; starts = whole-starts S s wf; turns = behind-turns S s wf ps (whole_of S s) hs (whole-entries S s) }),
)

-- What is computed of a book of one pattern is what is computed of the pattern, with the names of its entries opened.
one-pattern : (S : Signature) (p : Term) (s : ℕ) → map nameless (listing_of S s p) ≡ book_listing_of S s (p ∷ [])
one-pattern S p s = go (inhabited S s) refl (fruitful S p) refl
  where
    same : keep (fitted S s) (map nameless (listing S p)) ≡ map nameless (keep (fitted S s) (listing S p))
    same =
        keep-map (fitted S s) nameless (listing S p)
        ∙ ap (map nameless) (keep_same _ _ (listing S p) (λ e. ap (λ b. inhabited S s && b) (fruitful-nameless S e)))

    go : (i : Bool) → inhabited S s ≡ i → (f : Bool) → fruitful S p ≡ f → map nameless (listing_of S s p) ≡ book_listing_of S s (p ∷ [])
    go false i f q = rw i
    go true i true q = rw (i, q) rw i (sym (ap (keep (fitted S s)) (append-nil (map nameless (listing S p))) ∙ same))
    go true i false q = rw (i, q) (rw (i, i))

pub one_pattern_book : OnePatternBook
one_pattern_book S p s l wf h u is =
    (book_listing_is_one S (p ∷ []) s wf ((h, u), tt) (map nameless l)).1
    (ap (map nameless) ((listing_is_one S p s wf h u l).0 is) ∙ one-pattern S p s)
