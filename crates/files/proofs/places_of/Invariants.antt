-- `files::places_of` meets its contract.
use Rattle.files.proofs.Placing.{Placed}
use Rattle.files.proofs.places_of.Given as goal

abbrev pub invariant-loop-f : goal.invariant-loop-f
invariant-loop-f l = Placed l.records l.f l.place-items
