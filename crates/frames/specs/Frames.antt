-- Frames: the places of a word that are due, packed into a number.
--
--   run_in x               how many places follow each other in a run, all of them written: a bit for each
--   kinds_in x             the offset in the vocabulary of the kind of the run's first place
--   written_in x           the written map of the places behind the run
--   places_in x            their place map
--   Framed x n k w p      x is the frame of these four
--   Behind x y            y is the frame x without the first place of its run
--   Advanced x y          y is the frame x with the lowest place of its maps taken off them: a run of its own if it is written
--   WordFrame x w p o     x is the frame of a word with the place map p at the written map w, whose record stands at the
--                         offset o: where all places are written they are a run, else the maps have them
--   FrameIn v x           what is written are places, and the kinds of all places lie in the vocabulary v
--   places_due v level n k    n places due at a level, their kinds from the offset k of v on
--   frame_due v level x    what is due of x, at a level
--   saved_due v xs n       what is due of the first n frames of xs, the last of them first; frame i is due at level i + 1
--
use Rattle.std.specs.Prelude.{◌≡◌, ℕ, zero, suc, ◌+◌, ◌-◌, ◌/◌, ◌%◌, ◌<◌, ◌≤◌, false, List, [], ◌∷◌, ◌++◌, length, drop, ◌≢◌, bit_and, slice_index}
use Rattle.std.specs.Int.Count
use Rattle.wire.specs.Map.{map_bytes, flags, slots}
use Rattle.wire.specs.TermLines.{Due, due_at}

abbrev pub run_in : ℕ → ℕ
run_in x = Count.ones (x % 256)

abbrev pub kinds_in : ℕ → ℕ
kinds_in x = x / 256 % 1048576

abbrev pub written_in : ℕ → ℕ
written_in x = x / 256 / 1048576 % 256

abbrev pub places_in : ℕ → ℕ
places_in x = x / 256 / 1048576 / 256

pub record Framed (x n k w p : ℕ) : Type 0 where
  pub run : run_in x ≡ n
  pub kinds : kinds_in x ≡ k
  pub written : written_in x ≡ w
  pub places : places_in x ≡ p

abbrev pub Behind : ℕ → ℕ → Type 0
Behind x y = Framed y (run_in x - 1) (kinds_in x + 1) (written_in x) (places_in x)

abbrev pub Advanced : ℕ → ℕ → Type 0
Advanced x y = Framed y (written_in x % 2) (kinds_in x + places_in x % 2 - written_in x % 2) (written_in x / 2) (places_in x / 2)

-- The kinds stand behind the record's result kind and map.
pub record WordFrame (x w p o : ℕ) : Type 0 where
  pub full : w ≡ p → Framed x (Count.ones p) (o + (1 + map_bytes)) 0 0
  pub part : (w ≢ p) → Framed x 0 (o + (1 + map_bytes)) w p
  pub near : o < 65536
  pub map : p < 256

pub record FrameIn (v : List ℕ) (x : ℕ) : Type 0 where
  pub few : run_in x ≤ 8
  pub map : places_in x < 256
  pub within : bit_and (written_in x) (places_in x) ≡ written_in x
  pub inside : kinds_in x + run_in x + Count.ones (places_in x) ≤ length v
  pub near : kinds_in x + run_in x + Count.ones (places_in x) < 131072

abbrev pub places_due : List ℕ → ℕ → ℕ → ℕ → List Due
places_due v level zero k = []
places_due v level (suc n) k = record { sort = slice_index v k; level = level; root = false } ∷ places_due v level n (k + 1)

abbrev pub frame_due : List ℕ → ℕ → ℕ → List Due
frame_due v level x =
    places_due v level (run_in x) (kinds_in x) ++ due_at level (slots (flags (places_in x)) (flags (written_in x)) (drop (kinds_in x + run_in x) v))

abbrev pub saved_due : List ℕ → List ℕ → ℕ → List Due
saved_due v xs zero = []
saved_due v xs (suc n) = frame_due v (suc n) (slice_index xs n) ++ saved_due v xs n
