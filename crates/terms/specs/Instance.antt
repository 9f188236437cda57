-- Instance: instances and the representation of non-instances as source 000 defines them, where substitutions keep sorts.
--
--   sort_of x             the sort of a variable (source 000, section 1: the sets X_s are disjoint)
--   SortedT S t s, SortedTs S ts ks   t is a term of sort s, ts are terms of the sorts ks
--   KeepsSorts S σ       the substitution σ keeps sorts
--   Instance S t u       u is an instance of t (source 000, section 1)
--   Represents S s t l   source 000, Definition 2.1: l represents the non-instances of the term t of sort s
--
use Rattle.std.specs.Prelude.{◌≡◌, ◌↔◌, ℕ, ◌<◌, length}
use mathlib.Core.List.{List, [], ◌∷◌, Memᴰ}
use Rattle.terms.specs.Lists.{All}
use Rattle.terms.specs.Signature.{Signature, result, arguments}
use Rattle.terms.specs.Term.{Ground, SortedG}
use Rattle.terms.specs.Substitution.{Var, name, place, Tm, tvar, tapp, Tms, tnil, tcons, Substitution, carry, as_tm}

abbrev pub sort_of : Var → ℕ
sort_of (name n s) = s
sort_of (place i s) = s

abbrev mutual
  pub SortedT : Signature → Tm → ℕ → Type 0
  SortedT S (tvar x) s = sort_of x ≡ s
  SortedT S (tapp f ts) s = (f < length S.symbols) × (result S f ≡ s) × SortedTs S ts (arguments S f)

  pub SortedTs : Signature → Tms → List ℕ → Type 0
  SortedTs S tnil [] = Unit {0}
  SortedTs S tnil (k ∷ ks) = ⊥
  SortedTs S (tcons t ts) [] = ⊥
  SortedTs S (tcons t ts) (k ∷ ks) = SortedT S t k × SortedTs S ts ks

-- "substitutions preserve sorts".
abbrev pub KeepsSorts : Signature → Substitution → Type 0
KeepsSorts S σ = (x : Var) → SortedT S (σ.value x) (sort_of x)

-- "τ' is called a Σ-instance of τ iff τ' = σ(τ) for some substitution σ". Where sorts are kept, both have one sort.
abbrev pub Instance : Signature → Tm → Tm → Type 0
Instance S t u = (σ : Substitution) × KeepsSorts S σ × (carry σ.value t ≡ u)

-- A set of terms of the sort of τ, such that every ground term τ₁ of that sort "is not a Σ-instance of τ iff τ₁ is a
-- Σ-instance of some element of B".
pub record Represents (S : Signature) (s : ℕ) (t : Tm) (l : List Tm) : Type 0 where
  pub term : SortedT S t s
  pub each : All (λ b. SortedT S b s) l
  pub exact :
      (g : Ground) → SortedG S g s →
      (Instance S t (as_tm g) → ⊥) ↔ ((b : Tm) × Memᴰ b l × Instance S b (as_tm g))
