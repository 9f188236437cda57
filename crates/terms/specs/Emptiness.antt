-- Emptiness: the search for sorts without ground terms.
--
-- This file is an algorithm, and nothing in it has to be believed: EmptinessIsExact fixes what it finds.
--
--   covered ks l       all of ks are in l
--   joined k l         l, with the symbol k's result sort where its argument sorts are all in l
--   grow ks l          one round over the symbols ks, symbol by symbol: a sort that joins counts for the
--                      symbols behind it in the same round
--   reached S n        what n rounds of grow reach, from no sort at all
--   first l            the first number of l, where it has one
--   inhabited S k      the sort k is reached in as many rounds as there are sorts
--   first_empty S       the lowest sort that is not
--   EmptinessExact S   these are the sorts with a ground term; first_empty gives the lowest sort without one, and none
--                      where there is none
--   EmptinessIsExact   .. for every well_formed signature
--
use Rattle.std.specs.Prelude.{◌≡◌, Bool, true, not, ◌&&◌, cond, List, [], ◌∷◌, ◌↔◌, ℕ, zero, suc, ◌<◌}
use Rattle.std.proofs.Math.Option.{Option, some, none}
use Rattle.terms.specs.Lists.{occurs, range, keep}
use Rattle.terms.specs.Signature.{Symbol, Signature, WellFormed}
use Rattle.terms.specs.Inhabited.{HasGround, Empty, Inhabited}

abbrev pub covered : List ℕ → List ℕ → Bool
covered [] l = true
covered (k ∷ ks) l = occurs k l && covered ks l

abbrev pub joined : Symbol → List ℕ → List ℕ
joined k l = cond (covered k.arguments l && not (occurs k.result l)) (k.result ∷ l) l

abbrev pub grow : List Symbol → List ℕ → List ℕ
grow [] l = l
grow (k ∷ ks) l = grow ks (joined k l)

abbrev pub reached : Signature → ℕ → List ℕ
reached S zero = []
reached S (suc n) = grow S.symbols (reached S n)

abbrev pub first : List ℕ → Option ℕ
first [] = none
first (k ∷ ks) = some k

abbrev pub inhabited : Signature → ℕ → Bool
inhabited S k = occurs k (reached S S.sorts)

abbrev pub first_empty : Signature → Option ℕ
first_empty S = first (keep (λ k. not (inhabited S k)) (range 0 S.sorts))

pub record EmptinessExact (S : Signature) : Type 0 where
  pub ground : (k : ℕ) → (inhabited S k ≡ true) ↔ HasGround S k
  pub found : (k : ℕ) → first_empty S ≡ some k → (k < S.sorts) × Empty S k × ((j : ℕ) → j < k → HasGround S j)
  pub missed : (first_empty S ≡ none) ↔ Inhabited S

abbrev pub EmptinessIsExact : Type 0
EmptinessIsExact = (S : Signature) → WellFormed S → EmptinessExact S
