-- Shared: words that two lists of bytes share.
--
--   SharedNode a b i j      the same word with the same map stands in a at i and in b at j
--   SharedWords a b i j n   the n bytes of a from i on and of b from j on are words with their maps, the same in both
--
-- What the private functions promise each other:
--
--   SharedBlock a b i j n   the n bytes are the same, and words stand at the even ones
--
use Rattle.std.specs.Prelude.{◌≡◌, List, ℕ, ◌+◌, ◌*◌, ◌%◌, ◌<◌, ◌≤◌, length, get_or}
use Rattle.wire.specs.Map.{map_bytes}
use Rattle.wire.specs.TermBytes.{first_name_byte}

-- A byte below 128 is a word's.
pub record SharedNode (a b : List ℕ) (i j : ℕ) : Type 0 where
  pub word : get_or a i 0 < first_name_byte
  pub same : get_or a i 0 ≡ get_or b j 0
  pub map : get_or a (i + 1) 0 ≡ get_or b (j + 1) 0

pub record SharedWords (a b : List ℕ) (i j n : ℕ) : Type 0 where
  pub nodes : ℕ
  pub whole : n ≡ (1 + map_bytes) * nodes
  pub inside_first : i ≤ length a → i + n ≤ length a
  pub inside_second : j ≤ length b → j + n ≤ length b
  pub each : (k : ℕ) → k < nodes → SharedNode a b (i + (1 + map_bytes) * k) (j + (1 + map_bytes) * k)

pub record SharedBlock (a b : List ℕ) (i j n : ℕ) : Type 0 where
  pub same : (k : ℕ) → k < n → get_or a (i + k) 0 ≡ get_or b (j + k) 0
  pub words : (k : ℕ) → k < n → k % 2 ≡ 0 → get_or a (i + k) 0 < first_name_byte
