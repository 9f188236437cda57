-- BookTurns: what is left behind a pattern is document 02 (ii)'s over the settled signature where every symbol of the pattern is
-- productive, and all of the entries elsewhere.
--
--   cut-settled        over the settled signature, the leftovers of a fruitful entry against a fruitful pattern are the fruitful ones
--   remains-settled    .. and so is what remains of it
--   against-settled    .. and of several
--
use mathlib.Core.Path.{◌≡◌, refl, sym, ◌∙◌, ap, ap₂}
use mathlib.Core.Bool.{Bool, true, false, ◌&&◌, and-false}
use mathlib.Core.List.{List, [], ◌∷◌, ◌++◌, map}
use Prim.Native.Nat.{ℕ}
use Rattle.terms.specs.Lists.{All, keep}
use Rattle.terms.specs.Signature.{Signature, arguments, WellFormed}
use Rattle.terms.specs.Term.{Term, any, var, app, Terms, nil, cons, Sorted, SortedAll}
use Rattle.terms.specs.Listing.{listing}
use Rattle.terms.specs.Book.{nameless, both, disjoint, cut, cut_all, remains, against}
use Rattle.terms.specs.Emptiness.{inhabited}
use Rattle.terms.specs.Productive.{productive, fruitful, fruitful_all, fitted, left_behind, settled, BookEntry}
use Rattle.terms.specs.Laws.{FruitfulTurn, BarrenTurn}
use Rattle.terms.proofs.Bools.{and_parts, and_both, and_always}
use Rattle.terms.proofs.All.{all_implies}
use Rattle.terms.proofs.Keep.{keep_same, keep_agree, keep_all, keep_append, keep-map, keep-maps}
use Rattle.terms.proofs.Settled.{listing-settled}
use Rattle.terms.proofs.Sharing.{fruitful-nameless, both-fruitful}
use Rattle.terms.proofs.LeftBehind.{against_of-fitted, left-entries}

module _ (S : Signature) (wf : WellFormed S) where
  open_settled : (p : Term) (s : ℕ) → Sorted S p s → fruitful S p ≡ true → cut (settled S) any p ≡ keep (fruitful S) (cut S any p)
  open_settled p s h k =
      ap (map nameless) (listing-settled S wf p s h k ∙ keep_same (fruitful S) _ (listing S p) (λ t. sym (fruitful-nameless S t)))
      ∙ sym (keep-map (fruitful S) nameless (listing S p))

  mutual
    pub cut-settled : (e p : Term) (s : ℕ) → Sorted S p s → fruitful S e ≡ true → fruitful S p ≡ true →
        cut (settled S) e p ≡ keep (fruitful S) (cut S e p)
    cut-settled any p s h i k = open_settled p s h k
    cut-settled (var n) p s h i k = open_settled p s h k
    cut-settled (app f es) any s h i k = refl
    cut-settled (app f es) (var n) s h i k = refl
    cut-settled (app f es) (app q ps) s h i k =
        let a = and_parts (productive S f) (fruitful_all S es) i in
        let b = and_parts (productive S q) (fruitful_all S ps) k in
        ap (map (app f))
        (cut_settled_all es ps (arguments S q) h.2 a.1 b.1
        ∙ keep_same (fruitful_all S) _ (cut_all S es ps) (λ cs. ap (λ b. b && fruitful_all S cs) (sym a.0)))
        ∙ sym (keep-map (fruitful S) (app f) (cut_all S es ps))

    cut_settled_all : (es ps : Terms) (ks : List ℕ) → SortedAll S ps ks → fruitful_all S es ≡ true → fruitful_all S ps ≡ true →
        cut_all (settled S) es ps ≡ keep (fruitful_all S) (cut_all S es ps)
    cut_settled_all nil ps ks h i k = refl
    cut_settled_all (cons e es) nil ks h i k = refl
    cut_settled_all (cons e es) (cons p ps) [] h i k = absurd h
    cut_settled_all (cons e es) (cons p ps) (s ∷ ks) h i k =
        let a = and_parts (fruitful S e) (fruitful_all S es) i in
        let b = and_parts (fruitful S p) (fruitful_all S ps) k in
        ap₂ (λ l m. map (λ c. cons c es) l ++ map (cons (both e p)) m)
        (cut-settled e p s h.0 a.0 b.0) (cut_settled_all es ps ks h.1 a.1 b.1)
        ∙ sym (keep-maps (fruitful_all S) (λ c. cons c es) (cons (both e p)) (fruitful S) (fruitful_all S) (cut S e p) (cut_all S es ps)
        (λ c. and_always (fruitful S c) _ a.1) (λ cs. ap (λ x. x && fruitful_all S cs) (both-fruitful S e p a.0 b.0)))

  module _ (p : Term) (s : ℕ) (h : Sorted S p s) (k : fruitful S p ≡ true) where
    pub remains-settled : (e : Term) → fruitful S e ≡ true → remains (settled S) p e ≡ keep (fruitful S) (remains S p e)
    remains-settled e i = go (disjoint e p)
      where
        go : (b : Bool) →
            elim b [
              | true ↦ e ∷ []
              | false ↦ cut (settled S) e p
            ] ≡
            keep (fruitful S) (elim b [
              | true ↦ e ∷ []
              | false ↦ cut S e p
            ])
        go true = rw i
        go false = cut-settled e p s h i k

    pub against-settled : (l : List Term) → All (λ e. fruitful S e ≡ true) l → against (settled S) p l ≡ keep (fruitful S) (against S p l)
    against-settled [] a = refl
    against-settled (e ∷ l) a =
        ap₂ (λ m r. m ++ r) (remains-settled e a.0) (against-settled l a.1) ∙ sym (keep_append (fruitful S) (remains S p e) (against S p l))

    -- Where the sort has a ground term, the fitted terms are the fruitful ones ..
    left-settled : (l : List Term) → inhabited S s ≡ true → All (BookEntry S s) l → left_behind S s p l ≡ against (settled S) p l
    left-settled l i a =
        ap (keep (fitted S s)) (against_of-fitted S s p l true (and_both (inhabited S s) (fruitful S p) i k))
        ∙ keep_same (fitted S s) (fruitful S) (against S p l) (λ t. ap (λ b. b && fruitful S t) i)
        ∙ sym (against-settled l (all_implies (BookEntry S s) (λ e. fruitful S e ≡ true) (λ e b. (and_parts (inhabited S s) (fruitful S e) b.2).1) l a))

    -- .. and an entry shows that it has one.
    turn_settled : (l : List Term) → All (BookEntry S s) l → left_behind S s p l ≡ against (settled S) p l
    turn_settled [] a = refl
    turn_settled (e ∷ l) a = left-settled (e ∷ l) (and_parts (inhabited S s) (fruitful S e) a.0.2).0 a

pub fruitful_turn : FruitfulTurn
fruitful_turn S s p l wf h k a = (turn_settled S wf p s h k l a, left-entries S s p l h a)

pub barren_turn : BarrenTurn
barren_turn S s p l k a =
    ap (keep (fitted S s)) (against_of-fitted S s p l false (ap (λ b. inhabited S s && b) k ∙ and-false (inhabited S s))) ∙
    keep_agree (fitted S s) (λ e. true) l (all_implies (BookEntry S s) (λ e. fitted S s e ≡ true) (λ e b. b.2) l a) ∙ keep_all l
