-- Written: bytes written to the front of a slice.
--
--   Written bytes before n after   n bytes are written into the slice, and those behind them are as before
--
use Rattle.std.specs.Prelude.{◌≡◌, List, ◌++◌, ℕ, length, drop}

pub record Written (bytes before : List ℕ) (n : ℕ) (after : List ℕ) : Type 0 where
  pub count : n ≡ length bytes
  pub same : after ≡ bytes ++ drop (length bytes) before
