-- BookLevels: no entry of a book has more levels than its patterns may have.
use mathlib.Core.Bool.{Bool, true, false, not, ◌&&◌, cond}
use mathlib.Core.List.{List, [], ◌∷◌}
use Prim.Native.Nat.{ℕ, ◌≤◌}
use native.Mathlib.Omega.{arith}
use Rattle.terms.specs.Lists.{All}
use Rattle.terms.specs.Signature.{Signature}
use Rattle.terms.specs.Term.{Term, any}
use Rattle.terms.specs.Book.{disjoint, cut}
use Rattle.terms.specs.Emptiness.{inhabited}
use Rattle.terms.specs.Productive.{fitted, whole_of, remains_of, against_of, left_behind, left_in_turn, book_listing_of}
use Rattle.terms.proofs.All.{all_implies, all_append, all_keep}
use Rattle.wire.specs.TermBytes.{levels}
use Rattle.wire.proofs.AgainstSizes.{cut-levels}

module _ (S : Signature) (m : ℕ) where
  abbrev Low : Term → Type 0
  Low t = levels t ≤ m

  remains-levels : (s : ℕ) (p e : Term) → Low p → Low e → All Low (remains_of S s p e)
  remains-levels s p e h k = go (fitted S s p && not (disjoint e p))
    where
      go : (b : Bool) → All Low (cond b (cut S e p) (e ∷ []))
      go true = all_implies _ Low (λ c a. omega arith) (cut S e p) (cut-levels S e p)
      go false = (k, tt)

  against-levels : (s : ℕ) (p : Term) (l : List Term) → Low p → All Low l → All Low (against_of S s p l)
  against-levels s p [] h k = tt
  against-levels s p (e ∷ l) h k = all_append Low (remains_of S s p e) (against_of S s p l) (remains-levels s p e h k.0) (against-levels s p l h k.1)

  pub left-levels : (s : ℕ) (p : Term) (l : List Term) → Low p → All Low l → All Low (left_behind S s p l)
  left-levels s p l h k =
      all_implies _ Low (λ e x. x.0) (left_behind S s p l) (all_keep Low (fitted S s) (against_of S s p l) (against-levels s p l h k))

  behind-levels : (s : ℕ) (ps l : List Term) → All Low ps → All Low l → All Low (left_in_turn S s ps l)
  behind-levels s [] l h k = k
  behind-levels s (p ∷ ps) l h k = behind-levels s ps (left_behind S s p l) h.1 (left-levels s p l h.0 k)

  pub book_levels : (s : ℕ) (ps : List Term) → All Low ps → All Low (book_listing_of S s ps)
  book_levels s ps h = behind-levels s ps (whole_of S s) h (go (inhabited S s))
    where
      go : (b : Bool) → All Low (cond b (any ∷ []) [])
      go true = (omega arith, tt)
      go false = tt
