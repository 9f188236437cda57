-- Replacing: names are replaced as source 004 applies a substitution and, where no place is open, as a filling is carried out.
--
--   replace-openings      what is replaced opens no place and shuts none
--   replace-names, replace-occurrences    and leaves no variable
--   replace-sorted        values of the sorts due leave the sort as it was
--   replace-fill          where no place is open, replacing is filling
--   replacing_is_substitution, replacing_is_filling    the laws
--
use mathlib.Core.Path.{◌≡◌, refl, sym, ◌∙◌, ap, ap₂}
use mathlib.Core.Bool.{true}
use mathlib.Core.List.{List, [], ◌∷◌, map}
use Prim.Native.Nat.{ℕ, ◌+◌}
use native.Mathlib.Omega.{arith}
use lib.ListN.{get_or, drop}
use Rattle.terms.specs.Lists.{occurs}
use Rattle.terms.specs.Signature.{Signature, arguments}
use Rattle.terms.specs.Term.{Term, any, var, app, Terms, nil, cons, Ground, as_term, as_terms, SortedG, Sorted, SortedAll, Occurrence, occurrences, occurrences_all, names, names_all, open_sorts, openings, openings_all}
use Rattle.terms.specs.Filling.{Binding, value_of, fill_from, fill_all}
use Rattle.terms.specs.Substitution.{Var, name, place, Tm, tvar, tapp, tcons, Substitution, carry, carry_all, as_tm, with_variables_from, with_variables_all, with_variables}
use Rattle.terms.specs.Replacing.{replace, replace_all, Applies}
use Rattle.terms.specs.Laws.{ReplacingIsSubstitution, ReplacingIsFilling}
use Rattle.terms.proofs.Bools.{or_left, or_right}
use Rattle.terms.proofs.All.{all_left, all_right, all_unmap}
use Rattle.terms.proofs.Occurs.{occurs-head, occurs-append}
use Rattle.terms.proofs.Members.{of_mem_map}
use Rattle.terms.proofs.Ground.{ground-sorted, ground-names, ground-occurrences, ground-openings, ground-variables}
use Rattle.terms.proofs.Fill.{Bound, BoundAll}
use Rattle.terms.proofs.Variables.{carry_agree, Places, all_vars, only, only-on, only-finite}

-- ---- open places, variables and sorts

mutual
  pub replace-openings : (bs : List Binding) (t : Term) → openings (replace bs t) ≡ openings t
  replace-openings bs any = refl
  replace-openings bs (var n) = ground-openings (value_of bs n)
  replace-openings bs (app f ts) = replace_all-openings bs ts

  replace_all-openings : (bs : List Binding) (ts : Terms) → openings_all (replace_all bs ts) ≡ openings_all ts
  replace_all-openings bs nil = refl
  replace_all-openings bs (cons t ts) = ap₂ ◌+◌ (replace-openings bs t) (replace_all-openings bs ts)

mutual
  pub replace-names : (bs : List Binding) (t : Term) → names (replace bs t) ≡ []
  replace-names bs any = refl
  replace-names bs (var n) = ground-names (value_of bs n)
  replace-names bs (app f ts) = replace_all-names bs ts

  replace_all-names : (bs : List Binding) (ts : Terms) → names_all (replace_all bs ts) ≡ []
  replace_all-names bs nil = refl
  replace_all-names bs (cons t ts) = rw (replace-names bs t) (replace_all-names bs ts)

mutual
  pub replace-occurrences : (S : Signature) (bs : List Binding) (t : Term) (s : ℕ) → occurrences S (replace bs t) s ≡ []
  replace-occurrences S bs any s = refl
  replace-occurrences S bs (var n) s = ground-occurrences S (value_of bs n) s
  replace-occurrences S bs (app f ts) s = replace_all-occurrences S bs ts (arguments S f)

  replace_all-occurrences : (S : Signature) (bs : List Binding) (ts : Terms) (ks : List ℕ) → occurrences_all S (replace_all bs ts) ks ≡ []
  replace_all-occurrences S bs nil ks = refl
  replace_all-occurrences S bs (cons t ts) [] = refl
  replace_all-occurrences S bs (cons t ts) (k ∷ ks) = rw (replace-occurrences S bs t k) (replace_all-occurrences S bs ts ks)

-- What holds of the values of a word's first argument, and of those behind it.
bound-first : (S : Signature) (bs : List Binding) (t : Term) (ts : Terms) (k : ℕ) (ks : List ℕ) → BoundAll S bs (cons t ts) (k ∷ ks) → Bound S bs t k
bound-first S bs t ts k ks a = all_left (λ o. SortedG S (value_of bs o.name) o.sort) (occurrences S t k) (occurrences_all S ts ks) a

bound-rest : (S : Signature) (bs : List Binding) (t : Term) (ts : Terms) (k : ℕ) (ks : List ℕ) → BoundAll S bs (cons t ts) (k ∷ ks) → BoundAll S bs ts ks
bound-rest S bs t ts k ks a = all_right (λ o. SortedG S (value_of bs o.name) o.sort) (occurrences S t k) (occurrences_all S ts ks) a

mutual
  pub replace-sorted : (S : Signature) (bs : List Binding) (t : Term) (s : ℕ) → Sorted S t s → Bound S bs t s → Sorted S (replace bs t) s
  replace-sorted S bs any s h a = h
  replace-sorted S bs (var n) s h a = ground-sorted S (value_of bs n) s a.0
  replace-sorted S bs (app f ts) s h a = (h.0, h.1, replace_all-sorted S bs ts (arguments S f) h.2 a)

  replace_all-sorted : (S : Signature) (bs : List Binding) (ts : Terms) (ks : List ℕ) → SortedAll S ts ks → BoundAll S bs ts ks →
      SortedAll S (replace_all bs ts) ks
  replace_all-sorted S bs nil [] h a = h
  replace_all-sorted S bs nil (k ∷ ks) h a = h
  replace_all-sorted S bs (cons t ts) [] h a = h
  replace_all-sorted S bs (cons t ts) (k ∷ ks) h a =
      (replace-sorted S bs t k h.0 (bound-first S bs t ts k ks a), replace_all-sorted S bs ts ks h.1 (bound-rest S bs t ts k ks a))

-- ---- as a substitution is applied

-- The terms that the bindings give the variables of names; those of open places stand for themselves.
abbrev value_for : List Binding → Var → Tm
value_for bs (name n s) = as_tm (value_of bs n)
value_for bs (place i s) = tvar (place i s)

mutual
  carry-replace : (S : Signature) (bs : List Binding) (p : Term) (s i : ℕ) → Sorted S p s → Bound S bs p s →
      carry (value_for bs) (with_variables_from S p s i) ≡ with_variables_from S (replace bs p) s i
  carry-replace S bs any s i h a = refl
  carry-replace S bs (var n) s i h a = sym (ground-variables S (value_of bs n) s i a.0)
  carry-replace S bs (app f ts) s i h a = ap (tapp f) (carry-replace_all S bs ts (arguments S f) i h.2 a)

  carry-replace_all : (S : Signature) (bs : List Binding) (ts : Terms) (ks : List ℕ) (i : ℕ) → SortedAll S ts ks → BoundAll S bs ts ks →
      carry_all (value_for bs) (with_variables_all S ts ks i) ≡ with_variables_all S (replace_all bs ts) ks i
  carry-replace_all S bs nil ks i h a = refl
  carry-replace_all S bs (cons t ts) [] i h a = refl
  carry-replace_all S bs (cons t ts) (k ∷ ks) i h a =
      ap₂ tcons (carry-replace S bs t k i h.0 (bound-first S bs t ts k ks a))
      (carry-replace_all S bs ts ks (i + openings t) h.1 (bound-rest S bs t ts k ks a)
      ∙ ap (λ n. with_variables_all S (replace_all bs ts) ks (i + n)) (sym (replace-openings bs t)))

no_name : (i r n s : ℕ) → place i r ≡ name n s → ⊥
no_name i r n s e = let z : ◌≡◌ {A = ℕ} 0 1 = cc in omega arith

pub replacing_is_substitution : ReplacingIsSubstitution
replacing_is_substitution S p s bs w a = ((σ, applied), turns)
  where
    variable : Occurrence → Var
    variable o = name o.name o.sort

    moved : List Var
    moved = map variable (occurrences S p s)

    σ : Substitution
    σ = record { value = only (value_for bs) moved; relaxed_core = moved; finite = only-finite (value_for bs) moved }

    applied : Applies S p s bs σ
    applied = record {
      named = all_unmap (λ x. only (value_for bs) moved x ≡ value_for bs x) variable (occurrences S p s) (only-on (value_for bs) moved);
      others = λ x other. only-finite (value_for bs) moved x (λ m. let o = of_mem_map variable x (occurrences S p s) m in other o.0 o.1 o.2);
    }

    turns : (τ : Substitution) → Applies S p s bs τ → carry τ.value (with_variables S p s) ≡ with_variables S (replace bs p) s
    turns τ h =
        carry_agree τ.value (value_for bs) (with_variables S p s)
        (all_vars (λ x. τ.value x ≡ value_for bs x) S p s 0 w.sorted h.named placed)
        ∙ carry-replace S bs p s 0 w.sorted a
      where
        placed : Places (λ x. τ.value x ≡ value_for bs x) 0 (open_sorts S p s)
        placed j b = h.others (place (0 + j) (get_or (open_sorts S p s) j 0)) (λ o m e. no_name (0 + j) (get_or (open_sorts S p s) j 0) o.name o.sort e)

-- ---- as a filling is carried out

mutual
  pub replace-fill : (t : Term) (bs cs : List Binding) (gs : List Ground) → openings t ≡ 0 →
      ((n : ℕ) → occurs n (names t) ≡ true → value_of cs n ≡ value_of bs n) → replace bs t ≡ as_term (fill_from cs t gs)
  replace-fill any bs cs gs z h = absurd (omega arith)
  replace-fill (var n) bs cs gs z h = ap as_term (sym (h n (occurs-head n [])))
  replace-fill (app f ts) bs cs gs z h = ap (app f) (replace-fill_all ts bs cs gs z h)

  replace-fill_all : (ts : Terms) (bs cs : List Binding) (gs : List Ground) → openings_all ts ≡ 0 →
      ((n : ℕ) → occurs n (names_all ts) ≡ true → value_of cs n ≡ value_of bs n) → replace_all bs ts ≡ as_terms (fill_all cs ts gs)
  replace-fill_all nil bs cs gs z h = refl
  replace-fill_all (cons t ts) bs cs gs z h =
      ap₂ cons
      (replace-fill t bs cs gs (omega arith)
      (λ n o. h n (occurs-append n (names t) (names_all ts) ∙ or_left (occurs n (names t)) (occurs n (names_all ts)) o)))
      (replace-fill_all ts bs cs (drop (openings t) gs) (omega arith)
      (λ n o. h n (occurs-append n (names t) (names_all ts) ∙ or_right (occurs n (names t)) (occurs n (names_all ts)) o)))

pub replacing_is_filling : ReplacingIsFilling
replacing_is_filling p bs f z h = replace-fill p bs f.named f.opened z h
