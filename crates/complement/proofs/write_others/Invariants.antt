-- `complement::write_others` meets its contract. The loop's invariant: h is the next word of the kind, and the others before it have their entries. The measure is the number of words from h on.
use Prim.Native.Nat.{◌-◌}
use lib.ListN.{length, take}
use Rattle.complement.specs.Entering.{OthersAt}
use Rattle.complement.proofs.Following.{Followed}
use Rattle.complement.proofs.write_others.Given as goal

abbrev pub invariant-loop-h : goal.invariant-loop-h
invariant-loop-h l =
    (o : OthersAt l.copy l.at l.f l.first l.chains (length l.initial.out)) → Followed (take l.at l.copy) o.words o.results l.chains l.f l.initial.out l.h l.n l.out

abbrev pub decreases-loop-h : goal.decreases-loop-h
decreases-loop-h l = 96 - l.h
