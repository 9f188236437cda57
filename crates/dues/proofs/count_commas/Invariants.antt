-- `dues::count_commas` meets its contract.
use mathlib.Core.Path.{◌≡◌}
use Prim.Native.Nat.{◌+◌, ◌-◌, ◌<◌, ◌≤◌}
use lib.ListN.{length}
use Rattle.texts.specs.Lexemes.{lexemes_from}
use Rattle.texts.specs.Complaints.{commas_in}
use Rattle.dues.proofs.Commas.{here}
use Rattle.dues.proofs.count_commas.Given as goal

abbrev pub invariant-loop-at : goal.invariant-loop-at
invariant-loop-at l =
    (0 < l.deep) × ((l.deep ≤ l.at + 1) × ((l.n ≤ l.at) × ((l.n ≤ length l.text) × (l.n + commas_in (l.deep - 1) (here l.text l.at) ≡ commas_in 0 (lexemes_from l.text l.from)))))

abbrev pub decreases-loop-at : goal.decreases-loop-at
decreases-loop-at l = length l.text - l.at
