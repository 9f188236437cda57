-- SituationComputed: the reading of a situation.
--
-- This file is an algorithm, and nothing in it has to be believed: SituationRefusals (Laws) fixes what it gives.
--
--   ground t, grounds ts            the ground term that a complete term is, and the ground terms
--   situation_of k x o               lines 16 and 17, once the term x is read, o being its first gap
--   situation_in W k r               the same for the reading r of a term
--   checked_situation W k b          reading a situation for a pattern of kind k
--
use Rattle.std.specs.Prelude.{cond, List, ℕ, eqb}
use Rattle.std.proofs.Math.Option.{Option, some, none}
use Rattle.terms.specs.Term.{Term, any, var, app, Terms, nil, cons, Ground, gapp, Grounds, gnil, gcons}
use Rattle.wire.specs.Reply.{Kinded}
use Rattle.wire.specs.Vocabulary.{Vocabulary}
use Rattle.wire.specs.Parser.{Reading, accept, refuse}
use Rattle.wire.specs.GapComputed.{first_gap}
use Rattle.wire.specs.CheckComputed.{checked_term}

abbrev mutual
  pub ground : Term → Ground
  ground any = gapp 0 gnil
  ground (var n) = gapp 0 gnil
  ground (app f ts) = gapp f (grounds ts)

  pub grounds : Terms → Grounds
  grounds nil = gnil
  grounds (cons t ts) = gcons (ground t) (grounds ts)

abbrev pub situation_of : ℕ → Kinded → Option ℕ → Reading Ground
situation_of k x (some q) = refuse 16 q
situation_of k x none = cond (eqb x.kind k) (accept (ground x.term)) (refuse 17 0)

abbrev pub situation_in : Vocabulary → ℕ → Reading Kinded → Reading Ground
situation_in W k (refuse n q) = refuse n q
situation_in W k (accept x) = situation_of k x (first_gap W x.term)

abbrev pub checked_situation : Vocabulary → ℕ → List ℕ → Reading Ground
checked_situation W k b = situation_in W k (checked_term W b)
