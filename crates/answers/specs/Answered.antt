-- Answered: what `answer` promises of its reply and of the lent page.
--
--   Answered b after n     the first n bytes of the page are what the desk promises for the bytes b, and 0 stands behind them
--
use Rattle.std.specs.Prelude.{◌≡◌, List, ℕ, ◌-◌, ◌≤◌, length, take, drop, replicate}
use Rattle.texts.specs.Desk.{DeskPromise}

pub record Answered (b after : List ℕ) (n : ℕ) : Type 0 where
  pub inside : n ≤ length after
  -- The first n bytes are what the desk promises ..
  pub says : DeskPromise b (take n after)
  -- .. and 0 stands behind them.
  pub blank : drop n after ≡ replicate (length after - n) 0
