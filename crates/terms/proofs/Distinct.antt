-- Distinct: each number of a list once, by first occurrence, and the same gathered from left to right.
--
--   add_name ks n      n behind ks, where it is not there yet
--   add_names ks l     the numbers of l, one after the other
--
use mathlib.Core.Path.{◌≡◌, refl, sym, ◌∙◌, ap}
use mathlib.Core.Bool.{Bool, true, false, cond, not, ◌&&◌, ◌||◌}
use mathlib.Core.List.{List, [], ◌∷◌, ◌++◌, append-nil}
use Prim.Native.Nat.{ℕ}
use lib.Dec.{eqb}
use lib.Seq.{append_snoc}
use borrow.Author.Tests.{eqb-true}
use Rattle.terms.specs.Lists.{occurs, NoneTwice, keep, without, distinct}
use Rattle.terms.proofs.Bools.{eqb_refl, eqb_sym}
use Rattle.terms.proofs.Occurs.{missing, occurs-append}
use Rattle.terms.proofs.Keep.{keep-keep, keep_same, keep_all, occurs-keep, none_twice_keep}

occurs-without : (n m : ℕ) (l : List ℕ) → occurs n (without m l) ≡ (not (eqb m n) && occurs n l)
occurs-without n m l = occurs-keep (λ k. not (eqb m k)) n l

pub occurs-distinct : (n : ℕ) (l : List ℕ) → occurs n (distinct l) ≡ occurs n l
occurs-distinct n [] = refl
occurs-distinct n (m ∷ l) =
    rw (occurs-without n m (distinct l), eqb_sym m n, occurs-distinct n l) (go (eqb n m))
  where
    go : (b : Bool) → (b || (not b && occurs n l)) ≡ (b || occurs n l)
    go true = refl
    go false = refl

pub none_twice_distinct : (l : List ℕ) → NoneTwice (distinct l)
none_twice_distinct [] = tt
none_twice_distinct (n ∷ l) = (
  occurs-without n n (distinct l) ∙ ap (λ b. not b && occurs n (distinct l)) (eqb_refl n),
  none_twice_keep (λ m. not (eqb n m)) (distinct l) (none_twice_distinct l),
)

abbrev pub add_name : List ℕ → ℕ → List ℕ
add_name ks n = cond (occurs n ks) ks (ks ++ (n ∷ []))

abbrev pub add_names : List ℕ → List ℕ → List ℕ
add_names ks [] = ks
add_names ks (n ∷ l) = add_names (add_name ks n) l

pub add_names_append : (ks l m : List ℕ) → add_names ks (l ++ m) ≡ add_names (add_names ks l) m
add_names_append ks [] m = refl
add_names_append ks (n ∷ l) m = add_names_append (add_name ks n) l m

missing_known : (ks : List ℕ) (n m : ℕ) → occurs n ks ≡ true → (not (eqb n m) && missing ks m) ≡ missing ks m
missing_known ks n m h = go (eqb n m) refl
  where
    go : (b : Bool) → eqb n m ≡ b → (not b && missing ks m) ≡ missing ks m
    go true e = ap not (sym h) ∙ ap (λ k. missing ks k) (eqb-true n m e)
    go false e = refl

missing_more : (ks : List ℕ) (n m : ℕ) → (not (eqb n m) && missing ks m) ≡ missing (ks ++ (n ∷ [])) m
missing_more ks n m = rw (occurs-append m ks (n ∷ []), eqb_sym m n) (go (eqb n m) (occurs m ks))
  where
    go : (b c : Bool) → (not b && not c) ≡ not (c || (b || false))
    go true true = refl
    go true false = refl
    go false true = refl
    go false false = refl

-- What is added is what was not there.
add_names_distinct : (ks l : List ℕ) → add_names ks l ≡ ks ++ keep (missing ks) (distinct l)
add_names_distinct ks [] = sym (append-nil ks)
add_names_distinct ks (n ∷ l) = go (occurs n ks) refl (λ ks'. add_names_distinct ks' l)
  where
    rest : List ℕ
    rest = keep (missing ks) (without n (distinct l))

    apart : rest ≡ keep (λ m. not (eqb n m) && missing ks m) (distinct l)
    apart = keep-keep (missing ks) (λ m. not (eqb n m)) (distinct l)

    go : (b : Bool) → occurs n ks ≡ b → ((ks' : List ℕ) → add_names ks' l ≡ ks' ++ keep (missing ks') (distinct l)) →
        add_names (cond b ks (ks ++ (n ∷ []))) l ≡ ks ++ cond (not b) (n ∷ rest) rest
    go true e ih =
        ih ks ∙ ap (λ r. ks ++ r) (sym (apart ∙ keep_same _ _ (distinct l) (λ m. missing_known ks n m e)))
    go false e ih =
        ih (ks ++ (n ∷ [])) ∙ append_snoc ks n _ ∙
        ap (λ r. ks ++ (n ∷ r)) (sym (apart ∙ keep_same _ _ (distinct l) (missing_more ks n)))

pub add_names_none : (l : List ℕ) → add_names [] l ≡ distinct l
add_names_none l = add_names_distinct [] l ∙ keep_all (distinct l)
