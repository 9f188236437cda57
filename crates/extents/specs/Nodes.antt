-- Nodes: what the private functions promise each other; no public contract cites it.
--
--   NodeEnds l at end map    the node of l at an offset ends at `end`, and the ones of its map say how many terms are below it
--
use Rattle.std.specs.Prelude.{◌≡◌, List, ℕ, suc, ◌+◌, ◌<◌, ◌≤◌, length, drop}
use Rattle.std.specs.Int.Count
use Rattle.wire.specs.EntryCut.{due_size}

-- With k terms due besides the one that begins there: behind the node these are due, and one for each one of its map.
pub record NodeEnds (l : List ℕ) (at end map : ℕ) : Type 0 where
  pub forth : at < end
  pub inside : end ≤ length l
  pub small : map < 256
  pub due : (k : ℕ) → at + due_size (drop at l) (suc k) ≡ end + due_size (drop end l) (Count.ones map + k)
