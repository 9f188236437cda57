-- `clauses::Glossary::read_places` and `clauses::Glossary::read_term` meet their contracts. Sixteen times the levels left bounds both, with the places left.
use Prim.Native.Nat.{◌+◌, ◌*◌, ◌-◌}
use Rattle.clauses.proofs.Glossary.+read_places_read_term.Given as goal

abbrev pub decreases-read_places : goal.decreases-read_places
decreases-read_places l = 16 * l.left + 1 + (8 - l.i)

abbrev pub decreases-read_term : goal.decreases-read_term
decreases-read_term l = 16 * l.left
