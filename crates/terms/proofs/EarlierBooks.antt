-- EarlierBooks: over inhabited sorts the listing of a book is what it was before document 02 (iv).
use mathlib.Core.Path.{◌≡◌, refl, ◌∙◌, ap}
use mathlib.Core.Bool.{true, cond}
use mathlib.Core.List.{List, [], ◌∷◌}
use Prim.Native.Nat.{ℕ, ◌<◌}
use Rattle.terms.specs.Lists.{All, keep}
use Rattle.terms.specs.Signature.{Signature, WellFormed}
use Rattle.terms.specs.Term.{Term, any, Sorted}
use Rattle.terms.specs.Inhabited.{Inhabited}
use Rattle.terms.specs.Book.{against, behind, book_listing}
use Rattle.terms.specs.Productive.{fitted, left_behind, left_in_turn, book_listing_of}
use Rattle.terms.specs.Laws.{PatternsOfSort, EarlierBooks}
use Rattle.terms.proofs.All.{all_implies}
use Rattle.terms.proofs.Inhabited.{ground-inhabited}
use Rattle.terms.proofs.Fitted.{all-fitted, keep_fitted_all}
use Rattle.terms.proofs.Nameless.{Entry}
use Rattle.terms.proofs.LeftBehind.{against-entries, against_of-fitted}
use Rattle.terms.proofs.BookListing.{book_listing_is_one}

module _ (S : Signature) (s : ℕ) (wf : WellFormed S) (full : Inhabited S) (b : s < S.sorts) where
  -- Nothing is left out behind a pattern ..
  left_earlier : (p : Term) (l : List Term) → Sorted S p s → All (Entry S s) l → left_behind S s p l ≡ against S p l
  left_earlier p l h a =
      ap (keep (fitted S s)) (against_of-fitted S s p l true (all-fitted S wf full s b p h)) ∙
      keep_fitted_all S wf full s b (against S p l) (all_implies (Entry S s) (λ e. Sorted S e s) (λ e c. c.0) (against S p l) (against-entries S s p l h a))

  -- .. nor behind several, in turn.
  behind_earlier : (ps l : List Term) → PatternsOfSort S s ps → All (Entry S s) l → left_in_turn S s ps l ≡ behind S ps l
  behind_earlier [] l hs a = refl
  behind_earlier (p ∷ ps) l hs a =
      ap (left_in_turn S s ps) (left_earlier p l hs.0.0 a) ∙ behind_earlier ps (against S p l) hs.1 (against-entries S s p l hs.0.0 a)

  book_earlier : (ps : List Term) → PatternsOfSort S s ps → book_listing_of S s ps ≡ book_listing S ps
  book_earlier ps hs =
      ap (λ x. left_in_turn S s ps (cond x (any ∷ []) [])) (let (g, k) = full s b in ground-inhabited S wf g s k) ∙ behind_earlier ps (any ∷ []) hs ((tt, refl), tt)

pub earlier_books : EarlierBooks
earlier_books S ps s wf full b hs l = rw (← book_earlier S s wf full b ps hs) (book_listing_is_one S ps s wf hs l)
