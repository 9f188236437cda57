-- Refusals: what it means that the refusal list decides on a number.
--
--   rank n                 lines of one rank are told apart by their bytes
--   Earlier n q m r        number n at byte q is before number m at byte r, or is the same
--   Sooner n q m r         number n at place q comes before number m at place r, or is the same
--   Decides Line n q       of all lines that fit, n at q is the one that is given
--
-- `Line n q` says that the line of number n fits the input at the place q.
--
use Rattle.std.specs.Prelude.{◌≡◌, cond, ◌⊎◌, ℕ, ◌<◌, ◌≤◌, eqb}
use Rattle.wire.specs.Reply.{outside}

-- "between 3 and 4 the earlier byte decides"; "for 9 to 14 the earliest byte decides".
abbrev pub rank : ℕ → ℕ
rank n = cond (outside 9 14 n) (cond (eqb n 4) 3 n) 9

-- "the earliest byte decides, at one byte the lower number."
abbrev pub Earlier : ℕ → ℕ → ℕ → ℕ → Type 0
Earlier n q m r = (q < r) ⊎ ((q ≡ r) × (n ≤ m))

-- The numbers in the order of the list; in one rank the earlier byte.
abbrev pub Sooner : ℕ → ℕ → ℕ → ℕ → Type 0
Sooner n q m r = (rank n < rank m) ⊎ ((rank n ≡ rank m) × Earlier n q m r)

-- "A number is given only where its line fits."
pub record Decides (Line : ℕ → ℕ → Type 0) (n q : ℕ) : Type 0 where
  pub fits : Line n q
  pub first : (m r : ℕ) → Line m r → Sooner n q m r
