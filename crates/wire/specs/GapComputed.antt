-- GapComputed: a term's first gap found from left to right.
--
-- This file is an algorithm, and nothing in it has to be believed: FirstGapIsExact and NoGapIsComplete (Laws) fix what it
-- gives.
--
--   some_open ts                     one of ts is an open place
--   gap_from W t at, gap_all W ts at  the first gap of what begins at the offset `at`
--   first_gap W t                    the place of its first name, 255 or short map, where there is one
--   gap_or n o                       the gap o, or n where there is none
--
use Rattle.std.specs.Prelude.{Bool, false, ◌||◌, cond, ℕ, ◌+◌, length}
use Rattle.std.proofs.Math.Option.{Option, some, none}
use Rattle.terms.specs.Lists.{or_else}
use Rattle.terms.specs.Term.{Term, any, var, app, Terms, nil, cons}
use Rattle.wire.specs.Map.{map_bytes, is_open}
use Rattle.wire.specs.Vocabulary.{Vocabulary}
use Rattle.wire.specs.TermBytes.{encode_at}

abbrev pub some_open : Terms → Bool
some_open nil = false
some_open (cons t ts) = is_open t || some_open ts

-- An open place is its word's gap, not its own.
abbrev mutual
  pub gap_from : Vocabulary → Term → ℕ → Option ℕ
  gap_from W any at = none
  gap_from W (var n) at = some at
  gap_from W (app f ts) at = cond (some_open ts) (some (at + 1)) (gap_all W ts (at + 1 + map_bytes))

  pub gap_all : Vocabulary → Terms → ℕ → Option ℕ
  gap_all W nil at = none
  gap_all W (cons t ts) at = or_else (gap_from W t at) (gap_all W ts (at + length (encode_at W t)))

-- The kind byte is byte 0, so the term itself begins at 1.
abbrev pub first_gap : Vocabulary → Term → Option ℕ
first_gap W any = some 1
first_gap W (var n) = gap_from W (var n) 1
first_gap W (app f ts) = gap_from W (app f ts) 1

abbrev pub gap_or : ℕ → Option ℕ → ℕ
gap_or n none = n
gap_or n (some q) = q
