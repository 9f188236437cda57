-- Alike: a pattern and a situation that can be gone through side by side.
--
--   TermLong l    the list l is as long as a term can be
--   Alike p s     p and s are, a word stands at the root of p, and both have the same kind
--
use Rattle.std.specs.Prelude.{◌≡◌, List, ℕ, ◌<◌, ◌≤◌, length, get_or}
use Rattle.wire.specs.TermBytes.{first_name_byte}

pub record TermLong (l : List ℕ) : Type 0 where
  pub least : 2 ≤ length l
  pub most : length l ≤ 4096

pub record Alike (p s : List ℕ) : Type 0 where
  pub pattern : TermLong p
  pub situation : TermLong s
  pub word : get_or p 1 0 < first_name_byte
  pub kind : get_or s 0 0 ≡ get_or p 0 0
