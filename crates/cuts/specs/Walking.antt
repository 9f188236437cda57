-- Walking: where a walk over an entry and a pattern stands, whatever their bytes are; no public contract cites it.
--
--   Step, full              the walk behind a step, or no room
--   Inside copied entry pattern out w   the walk is inside the copy, the entry, the pattern and the lent slice, which have so many
--                           bytes
--   StaysInside             so is the walk that a step ends at
--   passed w size           behind a word, of which the entry has so many bytes
--   Moved w out end         from w to end only entries are written, and they are inside the slice
--   Moves                   a step moves the walk so
--   Over copied entry w q end   from w to end a term is passed, inside the copy and the entry; q bytes of the pattern are passed
--   StaysOver               a step passes one so
--   InMap low bit e p       what is left of two maps, from a bit on that is at most the 256
--   InReach, OutOfReach     the lengths that a cut begins with, and the test of them
--
use Rattle.std.specs.Prelude.{◌≡◌, Result, Ok, Err, Bool, true, false, ℕ, ◌+◌, ◌<◌, ◌≤◌}
use Rattle.wire.specs.Map.{map_bytes}
use Rattle.extents.specs.Extents.{most_extent}
use Rattle.cuts.specs.declared.own.Walk.{Walk}
use Rattle.others.specs.declared.Full.{Full}

abbrev pub Step : Type 0
Step = Result Walk Full

abbrev pub full : Step
full = Err (record {})

pub record Inside (copied entry pattern out : ℕ) (w : Walk) : Type 0 where
  pub at : w.at ≤ copied
  pub mine : w.entry ≤ entry
  pub other : w.pattern ≤ pattern
  pub written : w.written ≤ out
  pub copy_small : copied ≤ most_extent
  pub entry_small : entry ≤ most_extent
  pub pattern_small : pattern ≤ most_extent

abbrev pub StaysInside : ℕ → ℕ → ℕ → ℕ → Step → Type 0
StaysInside copied entry pattern out (Ok w) = Inside copied entry pattern out w
StaysInside copied entry pattern out (Err e) = Unit {0}

abbrev pub passed : Walk → ℕ → Walk
passed w size = record { at = w.at + (1 + map_bytes); entry = w.entry + size; pattern = w.pattern + (1 + map_bytes); written = w.written; todo = w.todo }

pub record Moved (w : Walk) (out : ℕ) (end : Walk) : Type 0 where
  pub at : end.at ≡ w.at
  pub entry : end.entry ≡ w.entry
  pub pattern : end.pattern ≡ w.pattern
  pub written : end.written ≤ out

abbrev pub Moves : Walk → ℕ → Step → Type 0
Moves w out (Ok end) = Moved w out end
Moves w out (Err e) = Unit {0}

pub record Over (copied entry : ℕ) (w : Walk) (q : ℕ) (end : Walk) : Type 0 where
  pub at : end.at ≤ copied
  pub mine : end.entry ≤ entry
  pub pattern : end.pattern ≡ q
  pub written : end.written ≡ w.written
  pub todo : end.todo ≡ w.todo

abbrev pub StaysOver : ℕ → ℕ → Walk → ℕ → Step → Type 0
StaysOver copied entry w q (Ok end) = Over copied entry w q end
StaysOver copied entry w q (Err e) = Unit {0}

pub record InMap (low bit e p : ℕ) : Type 0 where
  pub below : low < bit
  pub few : bit ≤ 256
  pub mine : e < 256
  pub other : p < 256

pub record InReach (copy entry pattern n room : ℕ) : Type 0 where
  pub entry_long : 2 ≤ entry
  pub pattern_long : 2 ≤ pattern
  pub entry_fits : entry ≤ copy
  pub pattern_fits : pattern ≤ copy
  pub small : copy ≤ most_extent
  pub written : n ≤ room

pub record OutOfReach (copy entry pattern n room : ℕ) (r : Bool) : Type 0 where
  pub yes : r ≡ true → InReach copy entry pattern n room → ⊥
  pub no : r ≡ false → InReach copy entry pattern n room
