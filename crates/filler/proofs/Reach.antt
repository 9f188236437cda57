-- Reach: how deep the result can be, by the pattern's levels and those of the deepest value.
--
--   measurable_wider               a bound on the result's levels may be raised
--   filled_reach                   the result is no more levels deeper than the pattern than a value has below its root
--   measurable_reach               what measuring rests on, with that bound
--   Reaching                       the loop that looks for the deepest value: the first i are looked at
--
use mathlib.Core.List.{List}
use Prim.Native.Nat.{ℕ, suc, ◌+◌, ◌-◌, ◌<◌, ◌≤◌}
use native.Mathlib.Omega.{arith}
use lib.ListN.{get_or}
use Rattle.terms.specs.Lists.{All}
use Rattle.terms.specs.Term.{Term, any, var, app, Terms, nil, cons, as_term, names, names_all}
use Rattle.terms.specs.Filling.{Binding, value_of}
use Rattle.terms.specs.Replacing.{replace, replace_all}
use Rattle.terms.proofs.All.{all_left, all_right}
use Rattle.wire.specs.TermBytes.{levels, levels_all, deepest}
use Rattle.wire.specs.Filled.{FillInputs, filled_term}
use Rattle.filler.specs.Ready.{Ready, Measurable, MostLevels}
use Rattle.filler.proofs.Starts.{each}

abbrev pub measurable_wider : {p starts depths : List ℕ} {reach wider : ℕ} → Measurable p starts depths reach → reach ≤ wider → Measurable p starts depths wider
measurable_wider a h = record { filling = a.filling; ready = a.ready; within = omega (arith, a.within) }

-- ---- the levels of the result

module _ (bs : List Binding) (m : ℕ) where
  -- The value of a name has at most m levels below its root.
  abbrev Below : ℕ → Type 0
  Below n = levels (as_term (value_of bs n)) ≤ suc m

  mutual
    replaced_reach : (t : Term) → All Below (names t) → levels (replace bs t) ≤ levels t + m
    replaced_reach any a = omega arith
    replaced_reach (var n) a = omega (arith, a.0)
    replaced_reach (app f ts) a = omega (arith, replaced_reach_all ts a)

    replaced_reach_all : (ts : Terms) → All Below (names_all ts) → levels_all (replace_all bs ts) ≤ levels_all ts + m
    replaced_reach_all nil a = omega arith
    replaced_reach_all (cons t ts) a =
        omega (
          arith,
          replaced_reach t (all_left Below (names t) (names_all ts) a),
          replaced_reach_all ts (all_right Below (names t) (names_all ts) a),
        )

pub filled_reach : (x : FillInputs) (m : ℕ) → All (λ n. levels (as_term (value_of x.values n)) ≤ suc m) (names x.pattern) →
    deepest (filled_term x) ≤ deepest x.pattern + m
filled_reach x m a = omega (arith, replaced_reach x.values m x.pattern a)

abbrev pub measurable_reach : {p b starts depths : List ℕ} {d most : ℕ} (a : Ready p b starts depths) → MostLevels depths most → deepest a.inputs.pattern ≤ d →
    Measurable p starts depths (d + most - 1)
measurable_reach {p} {b} {starts} {depths} {d} {most} a h k = record {
  filling = b;
  ready = a;
  within =
      omega (
        arith,
        h.some,
        filled_reach a.inputs (most - 1) (each a _ (λ n low e. omega (arith, h.some, h.each n low, (a.values.named n low e).1))),
      );
}

-- ---- the deepest value

pub record Reaching (depths : List ℕ) (most i : ℕ) : Type 0 where
  pub some : 0 < most
  pub low : most < 256
  pub each : (n : ℕ) → n < i → get_or depths n 0 ≤ most
