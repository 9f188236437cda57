-- Replacing: a pattern's names replaced by ground terms (document 02 (i): "the pattern with each name replaced").
--
--   replace bs t, replace_all bs ts   t, or ts, with each variable replaced by the ground term that the bindings bs give it
--   Applies S p s bs σ               the substitution σ gives the variables of p the values of bs, and leaves all others
--
use Rattle.std.specs.Prelude.{◌≡◌, ℕ}
use mathlib.Core.List.{List, Memᴰ}
use Rattle.terms.specs.Lists.{All}
use Rattle.terms.specs.Signature.{Signature}
use Rattle.terms.specs.Term.{Term, any, var, app, Terms, nil, cons, as_term, Occurrence, occurrences}
use Rattle.terms.specs.Filling.{Binding, value_of}
use Rattle.terms.specs.Substitution.{Var, name, Substitution, tvar, as_tm}

-- "open places stay open", and so does a 255.
abbrev mutual
  pub replace : List Binding → Term → Term
  replace bs any = any
  replace bs (var n) = as_term (value_of bs n)
  replace bs (app f ts) = app f (replace_all bs ts)

  pub replace_all : List Binding → Terms → Terms
  replace_all bs nil = nil
  replace_all bs (cons t ts) = cons (replace bs t) (replace_all bs ts)

-- The substitution of source 004 that the bindings stand for, where the pattern p of sort s is turned.
pub record Applies (S : Signature) (p : Term) (s : ℕ) (bs : List Binding) (σ : Substitution) : Type 0 where
  pub named : All (λ o. σ.value (name o.name o.sort) ≡ as_tm (value_of bs o.name)) (occurrences S p s)
  pub others : (x : Var) → ((o : Occurrence) → Memᴰ o (occurrences S p s) → x ≡ name o.name o.sort → ⊥) → σ.value x ≡ tvar x
