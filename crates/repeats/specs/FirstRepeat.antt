-- FirstRepeat: the earliest byte of a pattern at which a name stands for the second time, by its bytes.
--
-- This file is an algorithm, and nothing in it has to be believed: PatternRepeats, and LinearRefusals of wire, fix what it gives.
--
--   sightings_in n skip l at   the names of the bytes l at an offset with theirs, where n numbers are words' and the first
--                             `skip` bytes are not looked at
--   first_repeat n p           the earliest byte of the pattern p at which a name stands again
--   repeat_of r                the same, of an answer
--   PatternRepeats            of a good pattern this is the first repeated name of its term
--
use Rattle.std.specs.Prelude as std
use Rattle.std.specs.Prelude.{Some, None, ◌≡◌, cond, List, [], ◌∷◌, ℕ, zero, suc, ◌+◌, ◌-◌, ltb, length}
use Rattle.std.proofs.Math.Option.{Option, some, none}
use Rattle.terms.specs.Term.{Term}
use Rattle.wire.specs.Map.{map_bytes}
use Rattle.wire.specs.Vocabulary.{Vocabulary, InOrder}
use Rattle.wire.specs.TermBytes.{first_name_byte, encode_term, GoodTerm}
use Rattle.wire.specs.PatternLines.{Sighting, sightings}
use Rattle.wire.specs.Parser.{is_name}
use Rattle.wire.specs.ListComputed.{repeated_in}

abbrev pub sightings_in : ℕ → ℕ → List ℕ → ℕ → List Sighting
sightings_in n skip [] at = []
sightings_in n (suc skip) (b ∷ l) at = sightings_in n skip l (at + 1)
sightings_in n zero (b ∷ l) at =
    cond (ltb b n) (sightings_in n map_bytes l (at + 1))
    (cond (is_name b) (record { name = b - first_name_byte; offset = at } ∷ sightings_in n zero l (at + 1)) (sightings_in n zero l (at + 1)))

-- The kind byte is passed over.
abbrev pub first_repeat : ℕ → List ℕ → Option ℕ
first_repeat n p = repeated_in [] (sightings_in n 1 p 0)

abbrev pub repeat_of : std.Option ℕ → Option ℕ
repeat_of (Some q) = some q
repeat_of None = none

abbrev pub PatternRepeats : Type 0
PatternRepeats = (W : Vocabulary) → InOrder W → (s : ℕ) (t : Term) → GoodTerm W s t →
    first_repeat (length W.words) (encode_term W s t) ≡ repeated_in [] (sightings W t)
