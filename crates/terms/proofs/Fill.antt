-- Fill: the sort of a filled term against the sorts of what is put into it.
use mathlib.Core.Path.{◌≡◌, refl, ap}
use mathlib.Core.List.{List, [], ◌∷◌, ◌++◌}
use Prim.Native.Nat.{ℕ, zero, suc, ◌≤◌, ◌<◌}
use native.Mathlib.Omega.{arith}
use lib.ListN.{length, get_or, take, drop, length-drop}
use lib.Seq.{take-add}
use Rattle.terms.specs.Lists.{All}
use Rattle.terms.specs.Signature.{Signature, arguments}
use Rattle.terms.specs.Term.{Term, any, var, app, Terms, nil, cons, Ground, SortedG, SortedGs, occurrences, occurrences_all, open_sorts, open_sorts_all, openings, openings_all}
use Rattle.terms.specs.Filling.{Binding, no_ground, value_of, fill_from, fill_all, SortedEach}
use Rattle.terms.proofs.All.{all_append}

pub sorted_each_length : (S : Signature) (gs : List Ground) (ks : List ℕ) → SortedEach S gs ks → length gs ≡ length ks
sorted_each_length S [] [] h = refl
sorted_each_length S [] (k ∷ ks) h = absurd h
sorted_each_length S (g ∷ gs) [] h = absurd h
sorted_each_length S (g ∷ gs) (k ∷ ks) h = ap suc (sorted_each_length S gs ks h.1)

sorted_each_append :
    (S : Signature) (gs hs : List Ground) (ks js : List ℕ) → SortedEach S gs ks → SortedEach S hs js → SortedEach S (gs ++ hs) (ks ++ js)
sorted_each_append S [] hs [] js h k = k
sorted_each_append S [] hs (i ∷ ks) js h k = absurd h
sorted_each_append S (g ∷ gs) hs [] js h k = absurd h
sorted_each_append S (g ∷ gs) hs (i ∷ ks) js h k = (h.0, sorted_each_append S gs hs ks js h.1 k)

pub sorted_each_at :
    (S : Signature) (gs : List Ground) (ks : List ℕ) → SortedEach S gs ks → (j : ℕ) → j < length ks → SortedG S (get_or gs j no_ground) (get_or ks j 0)
sorted_each_at S [] [] h j b = absurd (omega arith)
sorted_each_at S [] (k ∷ ks) h j b = absurd h
sorted_each_at S (g ∷ gs) [] h j b = absurd h
sorted_each_at S (g ∷ gs) (k ∷ ks) h zero b = h.0
sorted_each_at S (g ∷ gs) (k ∷ ks) h (suc j) b = sorted_each_at S gs ks h.1 j (omega arith)

abbrev pub Bound : Signature → List Binding → Term → ℕ → Type 0
Bound S bs t s = All (λ o. SortedG S (value_of bs o.name) o.sort) (occurrences S t s)

abbrev pub BoundAll : Signature → List Binding → Terms → List ℕ → Type 0
BoundAll S bs ts ks = All (λ o. SortedG S (value_of bs o.name) o.sort) (occurrences_all S ts ks)

-- Where the filled term is sorted, so is what the variables were given ..
mutual
  pub bound-sorted : (S : Signature) (t : Term) (s : ℕ) (bs : List Binding) (gs : List Ground) → SortedG S (fill_from bs t gs) s → Bound S bs t s
  bound-sorted S any s bs gs h = tt
  bound-sorted S (var n) s bs gs h = (h, tt)
  bound-sorted S (app f ts) s bs gs h = bound_all_sorted S ts (arguments S f) bs gs h.2

  bound_all_sorted :
      (S : Signature) (ts : Terms) (ks : List ℕ) (bs : List Binding) (gs : List Ground) → SortedGs S (fill_all bs ts gs) ks → BoundAll S bs ts ks
  bound_all_sorted S nil ks bs gs h = tt
  bound_all_sorted S (cons t ts) [] bs gs h = tt
  bound_all_sorted S (cons t ts) (k ∷ ks) bs gs h =
      all_append _ (occurrences S t k) (occurrences_all S ts ks) (bound-sorted S t k bs gs h.0) (bound_all_sorted S ts ks bs (drop (openings t) gs) h.1)

-- .. and what the open places were given.
mutual
  pub placed-sorted :
      (S : Signature) (t : Term) (s : ℕ) (bs : List Binding) (gs : List Ground) → openings t ≤ length gs →
      SortedG S (fill_from bs t gs) s → SortedEach S (take (openings t) gs) (open_sorts S t s)
  placed-sorted S any s bs [] l h = absurd (omega arith)
  placed-sorted S any s bs (g ∷ gs) l h = (h, tt)
  placed-sorted S (var n) s bs gs l h = tt
  placed-sorted S (app f ts) s bs gs l h = placed_all_sorted S ts (arguments S f) bs gs l h.2

  placed_all_sorted :
      (S : Signature) (ts : Terms) (ks : List ℕ) (bs : List Binding) (gs : List Ground) → openings_all ts ≤ length gs →
      SortedGs S (fill_all bs ts gs) ks → SortedEach S (take (openings_all ts) gs) (open_sorts_all S ts ks)
  placed_all_sorted S nil ks bs gs l h = tt
  placed_all_sorted S (cons t ts) [] bs gs l h = absurd h
  placed_all_sorted S (cons t ts) (k ∷ ks) bs gs l h =
      rw (take-add (openings t) (openings_all ts) gs)
      (sorted_each_append S (take (openings t) gs) (take (openings_all ts) (drop (openings t) gs)) (open_sorts S t k) (open_sorts_all S ts ks)
      (placed-sorted S t k bs gs (omega arith) h.0)
      (placed_all_sorted S ts ks bs (drop (openings t) gs) (omega (arith, length-drop (openings t) gs)) h.1))
