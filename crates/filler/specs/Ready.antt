-- Ready: what measuring and writing the result of fill rest on, and what they give; no public contract cites it.
--
--   Ready p b starts depths            the pattern p and the filling file b are accepted, and the tables tell of the file's values
--   Known p b starts depths deep       the same, and the pattern's deepest level is so deep
--   FillsRead                          reply and slice are those of filling the pattern
--   Measurable p starts depths reach   the same, of some filling file, and the result is no deeper than reach
--   measured a                         the length of the result with its kind byte; nothing where the result passes a limit
--   MostLevels depths r                no value has more levels than r, which is at least 1
--   Writable p b starts room           the same as Ready, with some depths, and the result has so much room
--   WritesResult                       the result stands at the front of the lent slice, and what is behind it stays
--   Puttable b from to out at          b has bytes between these offsets, and out has room for them at the offset `at`
--   PutsValue                          those bytes stand there, and all others are as before
--
use Rattle.std.specs.Prelude.{◌≡◌, cond, List, ◌++◌, Option, Some, None, ℕ, ◌+◌, ◌-◌, ◌<◌, ◌≤◌, length, get_or, take, drop}
use Rattle.slices.specs.Written.{Written}
use Rattle.wire.specs.Reply.{Reply}
use Rattle.wire.specs.TermBytes.{name_count, deepest}
use Rattle.wire.specs.Filled.{FillInputs, HoldsFillInputs, filled_term, filled_bytes}
use Rattle.wire.specs.Effect.{HasEffect}
use Rattle.wire.specs.FillComputed.{fillable, ValuesIn, large, filled_with}

pub record Ready (p b starts depths : List ℕ) : Type 0 where
  pub vocabulary : List ℕ
  pub inputs : FillInputs
  pub held : HoldsFillInputs vocabulary p b inputs
  pub values : ValuesIn inputs starts depths

pub record Known (p b starts depths : List ℕ) (deep : ℕ) : Type 0 where
  pub ready : Ready p b starts depths
  pub level : deep ≡ deepest ready.inputs.pattern

abbrev pub FillsRead : List ℕ → List ℕ → List ℕ → List ℕ → ℕ → List ℕ → List ℕ → Reply → Type 0
FillsRead p b starts depths deep before after r =
    (a : Known p b starts depths deep) → HasEffect (filled_with before (fillable a.ready.inputs)) r after

pub record Measurable (p starts depths : List ℕ) (reach : ℕ) : Type 0 where
  pub filling : List ℕ
  pub ready : Ready p filling starts depths
  pub within : deepest (filled_term ready.inputs) ≤ reach

abbrev pub measured : {p starts depths : List ℕ} {reach : ℕ} → Measurable p starts depths reach → Option ℕ
measured a = cond (large a.ready.inputs) None (Some (length (filled_bytes a.ready.inputs)))

pub record MostLevels (depths : List ℕ) (r : ℕ) : Type 0 where
  pub some : 0 < r
  pub low : r < 256
  pub each : (n : ℕ) → n < name_count → get_or depths n 0 ≤ r

pub record Writable (p b starts : List ℕ) (room : ℕ) : Type 0 where
  pub depths : List ℕ
  pub ready : Ready p b starts depths
  pub fits : length (filled_bytes ready.inputs) ≤ room

abbrev pub WritesResult : List ℕ → List ℕ → List ℕ → List ℕ → List ℕ → Type 0
WritesResult p b starts before after =
    (a : Writable p b starts (length before)) →
    after ≡ filled_bytes a.ready.inputs ++ drop (length (filled_bytes a.ready.inputs)) before

pub record Puttable (b : List ℕ) (from to : ℕ) (out : List ℕ) (at : ℕ) : Type 0 where
  pub up : from ≤ to
  pub inside : to ≤ length b
  pub room : at + (to - from) ≤ length out

abbrev pub PutsValue : List ℕ → ℕ → ℕ → List ℕ → ℕ → List ℕ → Type 0
PutsValue b from to before at after = Written (take at before ++ take (to - from) (drop from b)) before (at + (to - from)) after
