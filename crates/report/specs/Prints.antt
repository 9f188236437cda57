-- Prints: what print promises.
--
--   Prints input before n after    the n bytes of document 01's text for the standard input are put at the front of the
--                                  lent bytes
--
use Rattle.std.specs.Prelude.{◌≡◌, List, ℕ, ◌≤◌, length, take, drop}
use Rattle.wire.specs.Printing.{most_input, vocabulary_part, pattern_part, PrintPromise}

pub record Prints (input before : List ℕ) (n : ℕ) (after : List ℕ) : Type 0 where
  pub promise : PrintPromise (vocabulary_part (take most_input input)) (pattern_part (take most_input input)) (take n after)
  -- Bytes behind the text stay as they were.
  pub behind : drop n after ≡ drop n before
  pub inside : n ≤ length after
