-- Book: every ground term of the sort fits some pattern of a book or exactly one of its entries, and no entry can be struck.
--
--   book_linear        a book's entries are linear patterns of the sort
--   fits_some          the test on the shape, against `FitsSome`
--
use mathlib.Core.Path.{◌≡◌, refl, sym, ◌∙◌, ap}
use mathlib.Core.Bool.{Bool, true, false}
use mathlib.Core.List.{List, []}
use mathlib.Core.Logic.{◌↔◌, ◌⊎◌, inl, inr, ⊎_elim}
use Prim.Native.Nat.{ℕ}
use lib.ListN.{get_or}
use Rattle.terms.specs.Lists.{All}
use Rattle.terms.specs.Signature.{Signature, WellFormed}
use Rattle.terms.specs.Term.{Term, any, Ground, Sorted, SortedG, names, Linear}
use Rattle.terms.specs.Listing.{Fitted, FitsExactlyOne}
use Rattle.terms.specs.Book.{IsBookListing, FitsSome}
use Rattle.terms.specs.Productive.{BookEntry}
use Rattle.terms.specs.Laws.{PatternsOfSort, BookEntriesArePatterns, BookPartition, BookStrikeOut}
use Rattle.terms.proofs.All.{all_implies, all-at}
use Rattle.terms.proofs.Count.{unless, count, count_zero, any_passes, any_passes_at, passes_at_any}
use Rattle.terms.proofs.Fit.{fit, fit_fits, fits_fit}
use Rattle.terms.proofs.Fitted.{fitted_is_exact}
use Rattle.terms.proofs.Partition.{counted_fits_one}
use Rattle.terms.proofs.Nameless.{entry-linear}
use Rattle.terms.proofs.LeftBehind.{plain, entries-linear, book_entries_lem, count_book}
use Rattle.terms.proofs.BookListing.{book_listing_is_one}

-- Of linear terms, those that pass the test are those that fit.
pub fits_some : (S : Signature) (l : List Term) (s : ℕ) → PatternsOfSort S s l → (g : Ground) → SortedG S g s →
    (any_passes (λ e. fit e g) l ≡ true) ↔ FitsSome S l s g
fits_some S l s a g k = (
  λ e.
      let (i, b, f) = any_passes_at (λ t. fit t g) any l e in
      (i, b, fit_fits S (get_or l i any) s g (all-at (λ t. Sorted S t s × Linear t) any l a i b).1 k f),
  λ (i, b, f). passes_at_any (λ t. fit t g) any l i b (fits_fit S (get_or l i any) s g f),
)

module _ (S : Signature) (ps : List Term) (s : ℕ) (l : List Term) (wf : WellFormed S) (hs : PatternsOfSort S s ps) (is : IsBookListing S s ps l) where
  book_entry : All (BookEntry S s) l
  book_entry = rw ((book_listing_is_one S ps s wf hs l).0 is) (book_entries_lem S s ps hs)

  pub book_linear : PatternsOfSort S s l
  book_linear = entries-linear S s l (plain S s l book_entry)

  count_entries : (g : Ground) → SortedG S g s → (b : Bool) → any_passes (λ p. fit p g) ps ≡ b → count (λ e. fit e g) l ≡ unless b 1
  count_entries g k b q = ap (count (λ e. fit e g)) ((book_listing_is_one S ps s wf hs l).0 is) ∙ count_book S s wf g k ps hs b q

  either : (g : Ground) → SortedG S g s → (b : Bool) → any_passes (λ p. fit p g) ps ≡ b → FitsSome S ps s g ⊎ FitsExactlyOne S l s g
  either g k true q = inl ((fits_some S ps s hs g k).0 q)
  either g k false q = inr (counted_fits_one S l s book_linear g k (count_entries g k false q))

  not_both_lem : (g : Ground) → SortedG S g s → FitsSome S ps s g → FitsSome S l s g → ⊥
  not_both_lem g k p (j, b, f) =
      count_zero (λ e. fit e g) any l (count_entries g k true ((fits_some S ps s hs g k).1 p)) j b (fits_fit S (get_or l j any) s g f)

pub book_entries_are_patterns : BookEntriesArePatterns
book_entries_are_patterns S ps s l wf hs is =
    all_implies (BookEntry S s) (λ e. Sorted S e s × (names e ≡ []) × Fitted S s e)
    (λ e b. (b.0, b.1, (fitted_is_exact S e s wf b.0 (entry-linear S s e (b.0, b.1)).1).0 b.2)) l (book_entry S ps s l wf hs is)

pub book_partition : BookPartition
book_partition S ps s l wf hs is g k =
    record { either = either S ps s l wf hs is g k (any_passes (λ p. fit p g) ps) refl; not_both = not_both_lem S ps s l wf hs is g k }

pub book_strike_out : BookStrikeOut
book_strike_out S ps s l wf hs is i below =
    let (g, k, fits) = (all-at (λ e. Sorted S e s × (names e ≡ []) × Fitted S s e) any l (book_entries_are_patterns S ps s l wf hs is) i below).2 in
    let r = book_partition S ps s l wf hs is g k in
    let apart : FitsSome S ps s g → ⊥ = λ p. r.not_both p (i, below, fits) in
    record {
      situation = g;
      sorted = k;
      fits = fits;
      no_pattern = apart;
      only = λ j c f. ⊎_elim (λ p. absurd (apart p)) (λ one. one.only j c f ∙ sym (one.only i below fits)) r.either;
    }
