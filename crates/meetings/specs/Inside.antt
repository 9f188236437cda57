-- Inside: what the private functions need and promise each other; no public contract cites it.
--
--   NoteAt r v        r is v, which is below 2^32
--   farthest          how far a level leads in a pattern at most
--   Walks             where a walk over an entry and a pattern stands, with so many levels left
--   Bounded, Met      what is met is right, and has come no further than the entry goes
--
use Rattle.std.specs.Prelude.{◌≡◌, Some, None, List, ℕ, ◌+◌, ◌-◌, ◌*◌, ◌<◌, ◌≤◌, length}
use Rattle.wire.specs.Map.{map_bits}
use Rattle.wire.specs.TermBytes.{most_bytes, most_levels}
use Rattle.marks.specs.Inside.{most_entries}
use Rattle.meetings.specs.Walking.{Walk}

pub record NoteAt (r v : ℕ) : Type 0 where
  pub same : r ≡ v
  pub low : r < 4294967296

-- A word, its map and the eight notes that are passed lead no further than this.
abbrev pub farthest : ℕ
farthest = 65544

pub record Walks (entry : List ℕ) (i : ℕ) (pattern : List ℕ) (j left : ℕ) : Type 0 where
  pub short_entry : length entry ≤ most_bytes
  pub short_pattern : length pattern ≤ most_bytes
  pub in_entry : i ≤ length entry + 1
  pub near : j + farthest * left ≤ farthest * most_levels

abbrev pub Bounded : ℕ → ℕ → Walk → Type 0
Bounded size i None = Unit {0}
Bounded size i (Some w) = (i ≤ w.at) × (w.at ≤ size + 1) × (w.entries ≤ most_entries * (1 + map_bits * (w.at - i)))

pub record Met (whole : Walk) (size i : ℕ) (r : Walk) : Type 0 where
  pub same : r ≡ whole
  pub bounded : Bounded size i r
