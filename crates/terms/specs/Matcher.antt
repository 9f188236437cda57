-- Matcher: the filling that turns a pattern into a ground term, found from left to right.
--
-- This file is an algorithm, and nothing in it has to be believed: MatcherIsExact fixes what it finds.
--
--   same g h, same_all gs hs   g and h are the same ground term, gs and hs the same ground terms
--   with_open f g        the filling f with g given to one more open place
--   with_name f n g      the filling f with g given to the variable n, which f does not bind yet
--   match_name n g f     f with what the variable n asks added, where it can cover g
--   match_from p g f, match_all ts gs f   f with what p, or ts, asks added, where it can be turned into g, or gs
--   no_filling           the filling that gives nothing
--   matcher p g         the filling that turns p into g, where there is one
--   MatcherIsExact      it finds a filling exactly where there is one, and that one
--
use Rattle.std.specs.Prelude.{◌≡◌, Bool, true, false, ◌&&◌, [], ◌∷◌, ◌++◌, map, ◌↔◌, ℕ, eqb}
use Rattle.std.proofs.Math.Option.{Option, some, none}
use Rattle.terms.specs.Lists.{occurs}
use Rattle.terms.specs.Signature.{Signature}
use Rattle.terms.specs.Term.{Term, any, var, app, Terms, nil, cons, Ground, gapp, Grounds, gnil, gcons, SortedG, Sorted}
use Rattle.terms.specs.Filling.{Filling, value_of, TurnsInto}

abbrev mutual
  pub same : Ground → Ground → Bool
  same (gapp f gs) (gapp h hs) = eqb f h && same_all gs hs

  pub same_all : Grounds → Grounds → Bool
  same_all gnil gnil = true
  same_all gnil (gcons h hs) = false
  same_all (gcons g gs) gnil = false
  same_all (gcons g gs) (gcons h hs) = same g h && same_all gs hs

abbrev pub with_open : Filling → Ground → Filling
with_open f g = record { named = f.named; opened = f.opened ++ (g ∷ []) }

abbrev pub with_name : Filling → ℕ → Ground → Filling
with_name f n g = record { named = f.named ++ (record { name = n; value = g } ∷ []); opened = f.opened }

-- A variable that stood before covers the same term again; one that did not covers g from now on.
abbrev pub match_name : ℕ → Ground → Filling → Option Filling
match_name n g f =
    elim (occurs n (map (λ b. b.name) f.named)) [
      | true ↦ elim (same (value_of f.named n) g) [ true ↦ some f | false ↦ none ]
      | false ↦ some (with_name f n g)
    ]

abbrev mutual
  pub match_from : Term → Ground → Filling → Option Filling
  match_from any g f = some (with_open f g)
  match_from (var n) g f = match_name n g f
  match_from (app k ts) (gapp h gs) f = elim (eqb k h) [ true ↦ match_all ts gs f | false ↦ none ]

  pub match_all : Terms → Grounds → Filling → Option Filling
  match_all nil gnil f = some f
  match_all nil (gcons g gs) f = none
  match_all (cons t ts) gnil f = none
  match_all (cons t ts) (gcons g gs) f = elim (match_from t g f) [ none ↦ none | some f' ↦ match_all ts gs f' ]

abbrev pub no_filling : Filling
no_filling = record { named = []; opened = [] }

abbrev pub matcher : Term → Ground → Option Filling
matcher p g = match_from p g no_filling

abbrev pub MatcherIsExact : Type 0
MatcherIsExact =
    (S : Signature) (p : Term) (s : ℕ) (g : Ground) (f : Filling) → Sorted S p s → SortedG S g s →
    (matcher p g ≡ some f) ↔ TurnsInto S p s f g
