-- Variables: what holds of the variables of a term, and of those of a pattern with its variables.
--
--   vars t             the variables of t, an entry an occurrence, from left to right
--   only v l           the map v on the variables of l, and every other variable itself
--   only-on, only-finite   what it does on the variables of l, and on others
--   instance_by        what a map that keeps the sorts of a term's variables carries the term to is an instance of it
--   carry_agree        two maps that agree on a term's variables carry it to the same term
--   Places P i ks      P holds of the variables of open places of the sorts ks, numbered from i
--   all_vars           what holds of a pattern's names and open places holds of the variables of with_variables
--   names-all          and the other way round, for names
--   places-all         and for open places
--
use mathlib.Core.Path.{◌≡◌, refl, sym, ◌∙◌, ap, ap₂, subst, subst₂}
use mathlib.Core.Bool.{Bool, true, false, ◌&&◌, cond, false≢true}
use mathlib.Core.List.{List, [], ◌∷◌, ◌++◌, Memᴰ}
use Prim.Native.Nat.{ℕ, zero, suc, ◌+◌, ◌-◌, ◌<◌}
use native.Mathlib.Nat.{add-zero, add_assoc}
use native.Mathlib.Omega.{arith}
use lib.Dec.{eqb, ltb}
use lib.ListN.{length, length-append, get_or, get_or-append}
use lib.Seq.{get_or-append-add}
use borrow.Author.Tests.{eqb-true, ltb-true, ltb-false}
use Rattle.terms.specs.Lists.{All}
use Rattle.terms.specs.Signature.{Signature, arguments}
use Rattle.terms.specs.Term.{Term, any, var, app, Terms, nil, cons, Sorted, SortedAll, occurrences, occurrences_all, open_sorts, open_sorts_all, openings}
use Rattle.terms.specs.Substitution.{Var, name, place, Tm, tvar, tapp, Tms, tnil, tcons, Substitution, carry, carry_all, with_variables_from, with_variables_all}
use Rattle.terms.specs.Instance.{sort_of, SortedT, Instance}
use Rattle.terms.proofs.Bools.{eqb_refl, and_parts, and_both}
use Rattle.terms.proofs.All.{all_implies, all_append, all_left, all_right}
use Rattle.terms.proofs.Term.{length-open_sorts}

abbrev mutual
  pub vars : Tm → List Var
  vars (tvar x) = x ∷ []
  vars (tapp f ts) = vars_all ts

  pub vars_all : Tms → List Var
  vars_all tnil = []
  vars_all (tcons t ts) = vars t ++ vars_all ts

mutual
  pub carry_agree : (v w : Var → Tm) (t : Tm) → All (λ x. v x ≡ w x) (vars t) → carry v t ≡ carry w t
  carry_agree v w (tvar x) h = h.0
  carry_agree v w (tapp f ts) h = ap (tapp f) (carry_agree_all v w ts h)

  carry_agree_all : (v w : Var → Tm) (ts : Tms) → All (λ x. v x ≡ w x) (vars_all ts) → carry_all v ts ≡ carry_all w ts
  carry_agree_all v w tnil h = refl
  carry_agree_all v w (tcons t ts) h =
      ap₂ tcons (carry_agree v w t (all_left (λ x. v x ≡ w x) (vars t) (vars_all ts) h))
      (carry_agree_all v w ts (all_right (λ x. v x ≡ w x) (vars t) (vars_all ts) h))

-- Two variables are the same.
abbrev same_var : Var → Var → Bool
same_var (name n s) (name m r) = eqb n m && eqb s r
same_var (name n s) (place j r) = false
same_var (place i s) (name m r) = false
same_var (place i s) (place j r) = eqb i j && eqb s r

same-both : (a b c d : ℕ) → (eqb a b && eqb c d) ≡ true → (a ≡ b) × (c ≡ d)
same-both a b c d h = let r = and_parts (eqb a b) (eqb c d) h in (eqb-true a b r.0, eqb-true c d r.1)

same-var : (x y : Var) → same_var x y ≡ true → x ≡ y
same-var (name n s) (name m r) h = let e = same-both n m s r h in ap₂ name e.0 e.1
same-var (name n s) (place j r) h = absurd (false≢true h)
same-var (place i s) (name m r) h = absurd (false≢true h)
same-var (place i s) (place j r) h = let e = same-both i j s r h in ap₂ place e.0 e.1

same_var_self : (x : Var) → same_var x x ≡ true
same_var_self (name n s) = and_both (eqb n n) (eqb s s) (eqb_refl n) (eqb_refl s)
same_var_self (place n s) = and_both (eqb n n) (eqb s s) (eqb_refl n) (eqb_refl s)

abbrev pub only : (Var → Tm) → List Var → Var → Tm
only v [] x = tvar x
only v (y ∷ l) x = cond (same_var x y) (v x) (only v l x)

only_keeps : (S : Signature) (v : Var → Tm) (l : List Var) → All (λ x. SortedT S (v x) (sort_of x)) l → (x : Var) → SortedT S (only v l x) (sort_of x)
only_keeps S v [] h x = refl
only_keeps S v (y ∷ l) h x = go (same_var x y) refl (only_keeps S v l h.1 x)
  where
    go : (b : Bool) → same_var x y ≡ b → SortedT S (only v l x) (sort_of x) → SortedT S (cond b (v x) (only v l x)) (sort_of x)
    go true e below = subst (λ z. SortedT S (v z) (sort_of z)) (sym (same-var x y e)) h.0
    go false e below = below

pub only-finite : (v : Var → Tm) (l : List Var) (x : Var) → (Memᴰ x l → ⊥) → only v l x ≡ tvar x
only-finite v [] x h = refl
only-finite v (y ∷ l) x h = go (same_var x y) refl (only-finite v l x (λ m. h (Memᴰ.tail m)))
  where
    go : (b : Bool) → same_var x y ≡ b → only v l x ≡ tvar x → cond b (v x) (only v l x) ≡ tvar x
    go true e below = absurd (h (Memᴰ.head (same-var x y e)))
    go false e below = below

pub only-on : (v : Var → Tm) (l : List Var) → All (λ x. only v l x ≡ v x) l
only-on v [] = tt
only-on v (y ∷ l) = (rw (same_var_self y) refl, all_implies (λ x. only v l x ≡ v x) (λ x. only v (y ∷ l) x ≡ v x) step l (only-on v l))
  where
    step : (x : Var) → only v l x ≡ v x → only v (y ∷ l) x ≡ v x
    step x h = go (same_var x y)
      where
        go : (b : Bool) → cond b (v x) (only v l x) ≡ v x
        go true = refl
        go false = h

pub instance_by : (S : Signature) (t u : Tm) (v : Var → Tm) → All (λ x. SortedT S (v x) (sort_of x)) (vars t) → carry v t ≡ u → Instance S t u
instance_by S t u v h e = (σ, only_keeps S v (vars t) h, carry_agree (only v (vars t)) v t (only-on v (vars t)) ∙ e)
  where
    σ : Substitution
    σ = record { value = only v (vars t); relaxed_core = vars t; finite = only-finite v (vars t) }

-- P holds of the variables of open places of the sorts ks, which are numbered from i.
abbrev pub Places : (Var → Type 0) → ℕ → List ℕ → Type 0
Places P i ks = (j : ℕ) → j < length ks → P (place (i + j) (get_or ks j 0))

module _ (P : Var → Type 0) (i : ℕ) (ks ls : List ℕ) where
  places-left : Places P i (ks ++ ls) → Places P i ks
  places-left h j b = rw get_or-append at (h j (rw length-append (omega arith)))

  places_right : (n : ℕ) → length ks ≡ n → Places P i (ks ++ ls) → Places P (i + n) ls
  places_right n e h j b =
      subst₂ (λ m k. P (place m k)) (sym (add_assoc i n j)) (ap (λ m. get_or (ks ++ ls) (m + j) 0) (sym e) ∙ get_or-append-add ks ls j 0)
      (h (n + j) (rw length-append (omega arith)))

  places_join : (n : ℕ) → length ks ≡ n → Places P i ks → Places P (i + n) ls → Places P i (ks ++ ls)
  places_join n e a b j l = go (ltb j n) refl
    where
      go : (c : Bool) → ltb j n ≡ c → P (place (i + j) (get_or (ks ++ ls) j 0))
      go true q = let within : j < length ks = omega (arith, ltb-true j n q) in rw get_or-append (a j within)
      go false q =
          let behind = ltb-false j n q in
          subst₂ (λ m k. P (place m k)) (omega arith)
          (sym (get_or-append-add ks ls (j - n) 0) ∙ ap (λ m. get_or (ks ++ ls) m 0) (omega arith))
          (b (j - n) (omega (arith, length-append ks ls)))

mutual
  pub all_vars : (P : Var → Type 0) (S : Signature) (p : Term) (s i : ℕ) → Sorted S p s →
      All (λ o. P (name o.name o.sort)) (occurrences S p s) → Places P i (open_sorts S p s) → All P (vars (with_variables_from S p s i))
  all_vars P S any s i h a b = (rw add-zero at (b 0 (omega arith)), tt)
  all_vars P S (var n) s i h a b = a
  all_vars P S (app f ts) s i h a b = all_vars_all P S ts (arguments S f) i h.2 a b

  all_vars_all : (P : Var → Type 0) (S : Signature) (ts : Terms) (ks : List ℕ) (i : ℕ) → SortedAll S ts ks →
      All (λ o. P (name o.name o.sort)) (occurrences_all S ts ks) → Places P i (open_sorts_all S ts ks) → All P (vars_all (with_variables_all S ts ks i))
  all_vars_all P S nil ks i h a b = tt
  all_vars_all P S (cons t ts) [] i h a b = absurd h
  all_vars_all P S (cons t ts) (k ∷ ks) i h a b =
      all_append P (vars (with_variables_from S t k i)) (vars_all (with_variables_all S ts ks (i + openings t)))
      (all_vars P S t k i h.0
      (all_left (λ o. P (name o.name o.sort)) (occurrences S t k) (occurrences_all S ts ks) a)
      (places-left P i (open_sorts S t k) (open_sorts_all S ts ks) b))
      (all_vars_all P S ts ks (i + openings t) h.1
      (all_right (λ o. P (name o.name o.sort)) (occurrences S t k) (occurrences_all S ts ks) a)
      (places_right P i (open_sorts S t k) (open_sorts_all S ts ks) (openings t) (length-open_sorts S t k h.0) b))

mutual
  pub names-all : (P : Var → Type 0) (S : Signature) (p : Term) (s i : ℕ) →
      All P (vars (with_variables_from S p s i)) → All (λ o. P (name o.name o.sort)) (occurrences S p s)
  names-all P S any s i a = tt
  names-all P S (var n) s i a = a
  names-all P S (app f ts) s i a = names_all-all P S ts (arguments S f) i a

  names_all-all : (P : Var → Type 0) (S : Signature) (ts : Terms) (ks : List ℕ) (i : ℕ) →
      All P (vars_all (with_variables_all S ts ks i)) → All (λ o. P (name o.name o.sort)) (occurrences_all S ts ks)
  names_all-all P S nil ks i a = tt
  names_all-all P S (cons t ts) [] i a = tt
  names_all-all P S (cons t ts) (k ∷ ks) i a =
      all_append (λ o. P (name o.name o.sort)) (occurrences S t k) (occurrences_all S ts ks)
      (names-all P S t k i (all_left P (vars (with_variables_from S t k i)) (vars_all (with_variables_all S ts ks (i + openings t))) a))
      (names_all-all P S ts ks (i + openings t) (all_right P (vars (with_variables_from S t k i)) (vars_all (with_variables_all S ts ks (i + openings t))) a))

mutual
  pub places-all : (P : Var → Type 0) (S : Signature) (p : Term) (s i : ℕ) → Sorted S p s →
      All P (vars (with_variables_from S p s i)) → Places P i (open_sorts S p s)
  places-all P S any s i h a zero b = rw add-zero a.0
  places-all P S any s i h a (suc j) b = absurd (omega arith)
  places-all P S (var n) s i h a j b = absurd (omega arith)
  places-all P S (app f ts) s i h a j b = places_all_all P S ts (arguments S f) i h.2 a j b

  places_all_all : (P : Var → Type 0) (S : Signature) (ts : Terms) (ks : List ℕ) (i : ℕ) → SortedAll S ts ks →
      All P (vars_all (with_variables_all S ts ks i)) → Places P i (open_sorts_all S ts ks)
  places_all_all P S nil ks i h a j b = absurd (omega arith)
  places_all_all P S (cons t ts) [] i h a j b = absurd h
  places_all_all P S (cons t ts) (k ∷ ks) i h a j b =
      places_join P i (open_sorts S t k) (open_sorts_all S ts ks) (openings t) (length-open_sorts S t k h.0)
      (λ j' b'. places-all P S t k i h.0 (all_left P (vars (with_variables_from S t k i)) (vars_all (with_variables_all S ts ks (i + openings t))) a) j' b')
      (λ j' b'. places_all_all P S ts ks (i + openings t) h.1 (all_right P (vars (with_variables_from S t k i)) (vars_all (with_variables_all S ts ks (i + openings t))) a) j' b')
      j b
