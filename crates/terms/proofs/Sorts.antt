-- Sorts: the sort at which a variable stands.
--
--   sort_in_lem, sorts_in    what holds of every occurrence of a variable holds of its first; of a consistent list it is the sort
--                        of each
--
use mathlib.Core.Path.{◌≡◌, refl, sym, subst}
use mathlib.Core.Bool.{Bool, true, false, cond, ◌||◌, false≢true}
use mathlib.Core.List.{List, [], ◌∷◌, map}
use Prim.Native.Nat.{ℕ}
use lib.Dec.{eqb}
use borrow.Author.Tests.{eqb-true}
use Rattle.terms.specs.Lists.{All, occurs}
use Rattle.terms.specs.Term.{Occurrence, sort_in, Consistent}
use Rattle.terms.proofs.All.{all_implies, all_both}
use Rattle.terms.proofs.Occurs.{all-occurs}

-- What holds of every occurrence of a variable and its sort holds of the variable's first.
pub sort_in_lem : (P : ℕ → ℕ → Type 0) (n : ℕ) (l : List Occurrence) → occurs n (map (λ o. o.name) l) ≡ true →
    All (λ o. P o.name o.sort) l → P n (sort_in l n)
sort_in_lem P n [] h a = absurd (false≢true h)
sort_in_lem P n (o ∷ l) h a = go (eqb n o.name) refl h (λ k. sort_in_lem P n l k a.1)
  where
    go : (b : Bool) → eqb n o.name ≡ b → (b || occurs n (map (λ o. o.name) l)) ≡ true →
        (occurs n (map (λ o. o.name) l) ≡ true → P n (sort_in l n)) → P n (cond b o.sort (sort_in l n))
    go true e k below = subst (λ m. P m o.sort) (sym (eqb-true n o.name e)) a.0
    go false e k below = below k

-- Of a consistent list it is the sort of each.
pub sorts_in : (l : List Occurrence) → Consistent l → All (λ o. sort_in l o.name ≡ o.sort) l
sorts_in l c =
    all_implies (λ o. (occurs o.name (map (λ o. o.name) l) ≡ true) × All (λ o'. o.name ≡ o'.name → o.sort ≡ o'.sort) l)
    (λ o. sort_in l o.name ≡ o.sort) (λ o k. sym (sort_in_lem (λ n s. o.name ≡ n → o.sort ≡ s) o.name l k.0 k.1 refl)) l
    (all_both (λ o. occurs o.name (map (λ o. o.name) l) ≡ true) (λ o. All (λ o'. o.name ≡ o'.name → o.sort ≡ o'.sort) l) l
    (all-occurs (λ o. o.name) l) c)
