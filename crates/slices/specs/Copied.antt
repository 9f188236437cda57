-- Copied: what copying one slice into another leaves.
--
--   begun from to n   the first n bytes of `from`, then those of `to` behind its first n
--   copied from to    the same, with as many bytes copied as the shorter has
--
use Rattle.std.specs.Prelude.{List, ◌++◌, ℕ, min, length, take, drop}

abbrev pub begun : List ℕ → List ℕ → ℕ → List ℕ
begun from to n = take n from ++ drop n to

abbrev pub copied : List ℕ → List ℕ → List ℕ
copied from to = begun from to (min (length from) (length to))
