-- Listed: entries that are written one behind the other.
--
--   together ls             the bytes of the entries ls, one behind the other
--   FitBehind ls n size     none of the entries ls is too long, and they have room behind the first n of size bytes
--   Listed ls n end before after   they are written behind the first n bytes, up to the offset end
--
use Rattle.std.specs.Prelude.{List, ◌++◌, ℕ, ◌+◌, ◌≤◌, length, take}
use Rattle.terms.specs.Lists.{All}
use Rattle.wire.specs.Row.{write_row}
use Rattle.wire.specs.TermBytes.{most_bytes}
use Rattle.slices.specs.Written.{Written}

abbrev pub together : List (List ℕ) → List ℕ
together ls = write_row (λ l. l) ls

pub record FitBehind (ls : List (List ℕ)) (n size : ℕ) : Type 0 where
  pub each : All (λ l. length l ≤ most_bytes) ls
  pub all : n + length (together ls) ≤ size

pub record Listed (ls : List (List ℕ)) (n end : ℕ) (before after : List ℕ) : Type 0 where
  pub fits : FitBehind ls n (length before)
  pub written : Written (take n before ++ together ls) before end after
