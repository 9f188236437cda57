-- Inside: what the private functions need and promise each other; no public contract cites it.
--
--   most_entries       a note has at most so many entries
--   Notes             what is noted is right, and no more than there is room for
--
use Rattle.std.specs.Prelude.{◌≡◌, List, ℕ, ◌+◌, ◌-◌, ◌*◌, ◌≤◌, length}
use Rattle.marks.specs.Marking.{Marking, marking}

abbrev pub most_entries : ℕ
most_entries = 524288

-- A term of `size` bytes has at most 255 entries for each word, which takes two of them.
pub record Notes (whole : Marking) (size at : ℕ) (before : List ℕ) (end n : ℕ) (after : List ℕ) : Type 0 where
  pub same : whole ≡ marking end n after
  pub forth : at ≤ end
  pub inside : end ≤ size + 1
  pub few : 2 * n ≤ 255 * (end - at)
  pub long : length after ≡ length before
