-- `others::write_others` meets its contract. The loop's invariant: h is the next word of the kind, and the others before it have
-- their entries. The measure is the number of words from h on.
use Prim.Native.Nat.{◌-◌}
use lib.ListN.{take}
use Rattle.others.specs.Others.{SiblingsAt}
use Rattle.others.proofs.Siblings.{Followed, Kept}
use Rattle.others.proofs.write_others.Given as goal

abbrev pub invariant-loop-h : goal.invariant-loop-h
invariant-loop-h l = Kept l.initial.out l.n l.out × ((o : SiblingsAt l.f l.siblings l.todo-2) → Followed (take l.at l.copy) l.tail o.words o.results l.siblings l.f l.initial.out l.n-2 o.later l.h l.n l.todo l.out)

abbrev pub decreases-loop-h : goal.decreases-loop-h
decreases-loop-h l = 96 - l.h
