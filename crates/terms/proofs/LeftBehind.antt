-- LeftBehind: what is left behind a pattern, and behind the patterns of a book.
--
--   against-entries                   what remained of entries before (iv) are entries
--   count-against                     .. counted as those were where the pattern does not fit, and 0 times where it does
--   against_of-fitted                 behind a pattern that some ground term fits remains what remained before (iv), and behind any other all
--   plain                             a book's entries are entries
--   against_of-entries                what remains of entries are entries
--   left-entries, left_in_turn-entries  what is left of a book's entries are such entries
--   whole-entries, book_entries_lem       .. so all of a book's are
--   entries-linear                    they are linear patterns of the sort
--   count_left, count-left_in_turn    what is left is counted as the entries were where no pattern fits, and 0 times where one does
--   count_book                        .. so a book's entries are counted once where no pattern fits
--
use mathlib.Core.Path.{◌≡◌, refl, sym, ◌∙◌, ap, ap₂}
use mathlib.Core.Bool.{Bool, true, false, not, ◌&&◌, cond, true≢false}
use mathlib.Core.List.{List, [], ◌∷◌, ◌++◌}
use Prim.Native.Nat.{ℕ, ◌+◌}
use Rattle.terms.specs.Lists.{All}
use Rattle.terms.specs.Signature.{Signature, WellFormed}
use Rattle.terms.specs.Term.{Term, any, Ground, Sorted, SortedG, Linear}
use Rattle.terms.specs.Book.{disjoint, cut, remains, against}
use Rattle.terms.specs.Emptiness.{inhabited}
use Rattle.terms.specs.Productive.{fitted, whole_of, remains_of, against_of, left_behind, left_in_turn, book_listing_of, BookEntry}
use Rattle.terms.specs.Laws.{PatternsOfSort}
use Rattle.terms.proofs.Bools.{and_both, false_of_not}
use Rattle.terms.proofs.All.{all_implies, all_append, all_keep}
use Rattle.terms.proofs.Count.{bit, unless, unless_zero, unless_add, unless_or, count, count-append, any_passes}
use Rattle.terms.proofs.Fit.{fit}
use Rattle.terms.proofs.Inhabited.{ground-inhabited}
use Rattle.terms.proofs.Fitted.{fit_fitted, count-fitted}
use Rattle.terms.proofs.Nameless.{Entry, entry-linear}
use Rattle.terms.proofs.Cut.{remains-entries, count-remains}

module _ (S : Signature) (s : ℕ) where
  -- ---- before (iv)

  pub against-entries : (p : Term) (l : List Term) → Sorted S p s → All (Entry S s) l → All (Entry S s) (against S p l)
  against-entries p [] h a = tt
  against-entries p (e ∷ l) h a =
      all_append (Entry S s) (remains S p e) (against S p l) (remains-entries S p e s h a.0) (against-entries p l h a.1)

  pub count-against : (g : Ground) → SortedG S g s → (p : Term) (l : List Term) → Sorted S p s → All (Entry S s) l →
      count (λ e. fit e g) (against S p l) ≡ unless (fit p g) (count (λ e. fit e g) l)
  count-against g k p [] h a = sym (unless_zero (fit p g))
  count-against g k p (e ∷ l) h a =
      count-append (λ c. fit c g) (remains S p e) (against S p l) ∙
      ap₂ ◌+◌ (count-remains S p e s g h a.0.0 k) (count-against g k p l h a.1) ∙
      unless_add (fit p g) (bit (fit e g)) (count (λ c. fit c g) l)

  -- ---- behind one pattern

  remains-of : (p e : Term) (b : Bool) → fitted S s p ≡ b → remains_of S s p e ≡ cond b (remains S p e) (e ∷ [])
  remains-of p e b i = rw i (go b (disjoint e p))
    where
      go : (x d : Bool) →
          cond (x && not d) (cut S e p) (e ∷ []) ≡
          cond x (elim d [
            | true ↦ e ∷ []
            | false ↦ cut S e p
          ]) (e ∷ [])
      go true true = refl
      go true false = refl
      go false d = refl

  pub against_of-fitted : (p : Term) (l : List Term) (b : Bool) → fitted S s p ≡ b → against_of S s p l ≡ cond b (against S p l) l
  against_of-fitted p [] true i = refl
  against_of-fitted p [] false i = refl
  against_of-fitted p (e ∷ l) true i = ap₂ (λ x y. x ++ y) (remains-of p e true i) (against_of-fitted p l true i)
  against_of-fitted p (e ∷ l) false i = ap₂ (λ x y. x ++ y) (remains-of p e false i) (against_of-fitted p l false i)

  -- What holds of what remained before (iv), and of the entries, holds of what remains.
  against_of_cases : (p : Term) (l : List Term) (P : List Term → Type 0) →
      (fitted S s p ≡ true → P (against S p l)) → (fitted S s p ≡ false → P l) → P (against_of S s p l)
  against_of_cases p l P some none = go (fitted S s p) refl
    where
      go : (b : Bool) → fitted S s p ≡ b → P (against_of S s p l)
      go true i = rw (against_of-fitted p l true i) (some i)
      go false i = rw (against_of-fitted p l false i) (none i)

  pub plain : (l : List Term) → All (BookEntry S s) l → All (Entry S s) l
  plain = all_implies (BookEntry S s) (Entry S s) (λ e b. (b.0, b.1))

  pub entries-linear : (l : List Term) → All (Entry S s) l → PatternsOfSort S s l
  entries-linear = all_implies (Entry S s) (λ e. Sorted S e s × Linear e) (entry-linear S s)

  pub against_of-entries : (p : Term) (l : List Term) → Sorted S p s → All (Entry S s) l → All (Entry S s) (against_of S s p l)
  against_of-entries p l h a = against_of_cases p l (All (Entry S s)) (λ i. against-entries p l h a) (λ i. a)

  pub left-entries : (p : Term) (l : List Term) → Sorted S p s → All (BookEntry S s) l → All (BookEntry S s) (left_behind S s p l)
  left-entries p l h a =
      all_implies (λ e. Entry S s e × (fitted S s e ≡ true)) (BookEntry S s) (λ e b. (b.0.0, b.0.1, b.1)) (left_behind S s p l)
      (all_keep (Entry S s) (fitted S s) (against_of S s p l) (against_of-entries p l h (plain l a)))

  pub count_left : WellFormed S → (g : Ground) → SortedG S g s → (p : Term) (l : List Term) → Sorted S p s → All (Entry S s) l →
      count (λ e. fit e g) (left_behind S s p l) ≡ unless (fit p g) (count (λ e. fit e g) l)
  count_left wf g k p l h a =
      count-fitted S wf g s k (against_of S s p l) ∙
      against_of_cases p l (λ m. count (λ e. fit e g) m ≡ unless (fit p g) (count (λ e. fit e g) l))
      (λ i. count-against g k p l h a)
      (λ i. rw (false_of_not (fit p g) (λ f. true≢false (sym (fit_fitted S wf p g s k f) ∙ i))))

  -- ---- behind the patterns of a book

  pub left_in_turn-entries : (ps l : List Term) → PatternsOfSort S s ps → All (BookEntry S s) l → All (BookEntry S s) (left_in_turn S s ps l)
  left_in_turn-entries [] l hs a = a
  left_in_turn-entries (p ∷ ps) l hs a = left_in_turn-entries ps (left_behind S s p l) hs.1 (left-entries p l hs.0.0 a)

  pub whole-entries : All (BookEntry S s) (whole_of S s)
  whole-entries = go (inhabited S s) refl
    where
      go : (b : Bool) → inhabited S s ≡ b → All (BookEntry S s) (cond b (any ∷ []) [])
      go true i = ((tt, refl, and_both (inhabited S s) true i refl), tt)
      go false i = tt

  pub book_entries_lem : (ps : List Term) → PatternsOfSort S s ps → All (BookEntry S s) (book_listing_of S s ps)
  book_entries_lem ps hs = left_in_turn-entries ps (whole_of S s) hs whole-entries

  module _ (wf : WellFormed S) (g : Ground) (k : SortedG S g s) where
    pub count-left_in_turn : (ps l : List Term) → PatternsOfSort S s ps → All (BookEntry S s) l →
        count (λ e. fit e g) (left_in_turn S s ps l) ≡ unless (any_passes (λ p. fit p g) ps) (count (λ e. fit e g) l)
    count-left_in_turn [] l hs a = refl
    count-left_in_turn (p ∷ ps) l hs a =
        count-left_in_turn ps (left_behind S s p l) hs.1 (left-entries p l hs.0.0 a) ∙
        ap (unless (any_passes (λ q. fit q g) ps)) (count_left wf g k p l hs.0.0 (plain l a)) ∙
        unless_or (fit p g) (any_passes (λ q. fit q g) ps) (count (λ e. fit e g) l)

    count-whole : count (λ e. fit e g) (whole_of S s) ≡ 1
    count-whole = ap (λ b. count (λ e. fit e g) (cond b (any ∷ []) [])) (ground-inhabited S wf g s k)

    pub count_book : (ps : List Term) → PatternsOfSort S s ps → (b : Bool) → any_passes (λ p. fit p g) ps ≡ b →
        count (λ e. fit e g) (book_listing_of S s ps) ≡ unless b 1
    count_book ps hs b q = count-left_in_turn ps (whole_of S s) hs whole-entries ∙ ap₂ unless q count-whole
