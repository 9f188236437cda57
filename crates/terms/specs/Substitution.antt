-- Substitution: terms, substitutions and matching as source 004 defines them, with no sort in the definitions.
--
--   Var                  a variable: a name, or the variable of an open place; each has a number and a sort
--   Tm, Tms              source 004's terms: all variables are alike
--   Substitution         source 004, Definition II.1: any mapping of variables to terms that moves finitely many
--   carry v t, carry_all v ts   the term t, or the terms ts, with each variable x replaced by v x
--   Matches t u          source 004, Definition III.1
--   as_tm g, as_tms gs     a ground term as a term, ground terms as terms
--   with_variables S p s  the pattern p: its open places are variables different from each other and from all names
--   with_variables_from S p s i, with_variables_all S ts ks i   the same, with open places numbered from i
--
use Rattle.std.specs.Prelude.{◌≡◌, ℕ, ◌+◌}
use mathlib.Core.List.{List, [], ◌∷◌, Memᴰ}
use Rattle.terms.specs.Signature.{Signature, arguments}
use Rattle.terms.specs.Term.{Term, any, var, app, Terms, nil, cons, Ground, gapp, Grounds, gnil, gcons, openings}

-- A name with its number and sort, or the variable of an open place with its number and sort. Of sorts source 004 knows
-- nothing; they are there for source 000 (Instance). A well-sorted pattern's name has one sort, so it is one variable.
pub data Var : Type 0 where
  name : ℕ → ℕ → Var
  place : ℕ → ℕ → Var

mutual
  pub data Tm : Type 0 where
    tvar : Var → Tm
    tapp : ℕ → Tms → Tm

  pub data Tms : Type 0 where
    tnil : Tms
    tcons : Tm → Tms → Tms

-- "a function mapping variables to terms, which is identity almost everywhere". Its values may hold variables.
pub record Substitution : Type 0 where
  pub value : Var → Tm
  -- Source 004, Definition II.3, but that a variable may be listed twice: each variable that is moved is listed.
  pub relaxed_core : List Var
  pub finite : (x : Var) → (Memᴰ x relaxed_core → ⊥) → value x ≡ tvar x

abbrev mutual
  pub carry : (Var → Tm) → Tm → Tm
  carry v (tvar x) = v x
  carry v (tapp f ts) = tapp f (carry_all v ts)

  pub carry_all : (Var → Tm) → Tms → Tms
  carry_all v tnil = tnil
  carry_all v (tcons t ts) = tcons (carry v t) (carry_all v ts)

-- "If there is a substitution σ such that σ(g) = s, then we say that g matches s".
abbrev pub Matches : Tm → Tm → Type 0
Matches t u = (σ : Substitution) × (carry σ.value t ≡ u)

abbrev mutual
  pub as_tm : Ground → Tm
  as_tm (gapp f gs) = tapp f (as_tms gs)

  pub as_tms : Grounds → Tms
  as_tms gnil = tnil
  as_tms (gcons g gs) = tcons (as_tm g) (as_tms gs)

-- Document 01: an open place "stands for a nameless variable of its own". Open places are numbered
-- from i, from left to right.
abbrev mutual
  pub with_variables_from : Signature → Term → ℕ → ℕ → Tm
  with_variables_from S any s i = tvar (place i s)
  with_variables_from S (var n) s i = tvar (name n s)
  with_variables_from S (app f ts) s i = tapp f (with_variables_all S ts (arguments S f) i)

  pub with_variables_all : Signature → Terms → List ℕ → ℕ → Tms
  with_variables_all S nil ks i = tnil
  with_variables_all S (cons t ts) [] i = tnil
  with_variables_all S (cons t ts) (k ∷ ks) i = tcons (with_variables_from S t k i) (with_variables_all S ts ks (i + openings t))

abbrev pub with_variables : Signature → Term → ℕ → Tm
with_variables S p s = with_variables_from S p s 0
