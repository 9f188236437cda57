-- Judged: what judging the inputs of match gives; the contract of `judge` cites it.
--
--   InputsJudged v p s spans agreed r    r is the reply of judging v, p and s, for every v, p and s, where p and s agree by the
--                                        spans if they are said to
--
use Rattle.std.specs.Prelude.{◌≡◌, Bool, true, List, ℕ, Result}
use Rattle.wire.specs.MatchComputed.{judged, clear_reply}
use Rattle.wire.specs.Splicing.{Agrees}
use Rattle.inputs.specs.Answers.{inputs_numbers}
use Rattle.inputs.specs.declared.InputsRefusal.{InputsRefusal}

abbrev pub InputsJudged : List ℕ → List ℕ → List ℕ → List ℕ → Bool → Result (Unit {0}) InputsRefusal → Type 0
InputsJudged v p s spans agreed r = (agreed ≡ true → Agrees p s spans) → inputs_numbers r ≡ clear_reply (judged v p s)
