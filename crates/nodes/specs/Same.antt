-- Same: nodes that two lists of bytes share.
--
--   SameNodes a b n      the first n bytes of a and b are the same, and are a number of nodes
--   SharedFront a b n    n is the most for which that holds
--
use Rattle.std.specs.Prelude.{◌≡◌, List, ℕ, ◌+◌, ◌*◌, ◌<◌, ◌≤◌, length, get_or}
use Rattle.wire.specs.Map.{map_bytes}

pub record SameNodes (a b : List ℕ) (n : ℕ) : Type 0 where
  pub nodes : ℕ
  pub whole : n ≡ (1 + map_bytes) * nodes
  pub inside_first : n ≤ length a
  pub inside_second : n ≤ length b
  pub same : (k : ℕ) → k < n → get_or a k 0 ≡ get_or b k 0

-- The next node of the two, where both have one, is not the same.
pub record SharedFront (a b : List ℕ) (n : ℕ) : Type 0 where
  pub shares : SameNodes a b n
  pub most : n + (1 + map_bytes) ≤ length a → n + (1 + map_bytes) ≤ length b → get_or a n 0 ≡ get_or b n 0 → get_or a (n + 1) 0 ≡ get_or b (n + 1) 0 → ⊥
