-- Input: what taking an input promises.
--
--   Within buffer r                  the bytes that came stand in the buffer
--   Comes before after buffer r      where the input's bytes are known, those that came are its next ones, and none is left
--                                    behind them if they do not fill the buffer
--
use Rattle.std.specs.Prelude.{List, ℕ, ◌<◌, ◌≤◌, Result, Ok, Err, length, take}
use Rattle.std.specs.Io.KnownBytes.{Consumes, IsAtEnd}
use Rattle.std.specs.declared.option.Option.{Option}

abbrev pub Within : {E : Type 0} → List ℕ → Result ℕ E → Type 0
Within buffer (Ok n) = n ≤ length buffer
Within buffer (Err e) = Unit {0}

abbrev pub Comes : {E : Type 0} → Option (List ℕ) → Option (List ℕ) → List ℕ → Result ℕ E → Type 0
Comes before after buffer (Ok n) = Consumes before after (take n buffer) × (n < length buffer → IsAtEnd after)
Comes before after buffer (Err e) = Unit {0}
