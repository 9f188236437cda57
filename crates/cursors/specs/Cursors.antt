-- Cursors: what a reading that stands at a cursor has told of the term, and how each step changes it.
--
--   unbroken               what stands for no gap
--   complete_in c           the term is complete so far
--   gap_in c                its first gap, where it is not
--   gap_shown c             the gap that is shown: the cursor's own offset while there is none
--   short_in c              a map was short so far
--   gaps_after g at         the packed gaps g behind a name or 255 at an offset
--   gaps_short g at         the same behind a short map at an offset
--   started at             the cursor before a term at an offset
--   past_leaf c             behind a name or 255
--   past_word full c        behind a word and its map
--   moved d n x c          the same of the term, with the deepest level d, below n words, with the frame x
--   went_down x c           at the written places of a word, with the frame x
--   went_up x c             back at the word above, with the frame x
--   at_frame x c            at another frame of the same word
--   Sound c                the gap stands before the cursor
--   Tells c b g k          .. and these are completeness, gap and whether a map was short
--   LeafTells, WordTells   what completeness and gap are behind a name or 255, and behind a word
--
-- Of the term a cursor tells the offset of its next byte, its words, the deepest level, whether it is complete and its first
-- gap, each so far.
--
use Rattle.std.specs.Prelude.{◌≡◌, ℕ, ◌+◌, ◌-◌, ◌*◌, ◌/◌, ◌%◌, ◌<◌, min, max, Bool, false, cond, not, ◌||◌, ◌⊎◌, ◌==◌}
use Rattle.wire.specs.Map.{map_bytes}
use Rattle.cursors.specs.declared.Cursor.{Cursor}

-- ---- the gap, which is packed into one number

abbrev pub unbroken : ℕ
unbroken = 18446744073709551615

abbrev pub complete_in : Cursor → Bool
complete_in c = c.gaps == unbroken

-- Twice the offset, and one more if a map was short.
abbrev pub gap_in : Cursor → ℕ
gap_in c = c.gaps / 2

abbrev pub gap_shown : Cursor → ℕ
gap_shown c = cond (complete_in c) c.at (gap_in c)

abbrev pub short_in : Cursor → Bool
short_in c = cond (complete_in c) false (c.gaps % 2 == 1)

-- The earlier one stays. `unbroken` is later than any.
abbrev pub gaps_after : ℕ → ℕ → ℕ
gaps_after g at = min g (2 * at)

abbrev pub gaps_short : ℕ → ℕ → ℕ
gaps_short g at = gaps_after g at / 2 * 2 + 1

-- ---- the steps

-- Level 1 is due. The term is complete so far.
abbrev pub started : ℕ → Cursor
started at = record { at = at; words = 0; deepest = 1; gaps = unbroken; depth = 0; due = 0 }

-- A name or 255 is a gap at its own byte.
abbrev pub past_leaf : Cursor → Cursor
past_leaf c = record { at = c.at + 1; words = c.words; deepest = c.deepest; gaps = gaps_after c.gaps c.at; depth = c.depth; due = c.due }

-- A short map is a gap at the map's byte.
abbrev pub past_word : Bool → Cursor → Cursor
past_word full c = record {
  at = c.at + (1 + map_bytes);
  words = c.words + 1;
  deepest = c.deepest;
  gaps = cond full c.gaps (gaps_short c.gaps (c.at + 1));
  depth = c.depth;
  due = c.due;
}

-- A cursor that only goes to another frame or another word: no byte is read, and of the term nothing else is told.
abbrev pub moved : ℕ → ℕ → ℕ → Cursor → Cursor
moved deepest depth x c = record { at = c.at; words = c.words; deepest = deepest; gaps = c.gaps; depth = depth; due = x }

-- The next place is due one level further down than before.
abbrev pub went_down : ℕ → Cursor → Cursor
went_down x c = moved (max c.deepest (c.depth + 2)) (c.depth + 1) x c

abbrev pub went_up : ℕ → Cursor → Cursor
went_up x c = moved c.deepest (c.depth - 1) x c

abbrev pub at_frame : ℕ → Cursor → Cursor
at_frame x c = moved c.deepest c.depth x c

-- ---- what the steps tell

abbrev pub Sound : Cursor → Type 0
Sound c = (c.gaps ≡ unbroken) ⊎ (c.gaps < 2 * c.at)

pub record Tells (c : Cursor) (b : Bool) (g : ℕ) (k : Bool) : Type 0 where
  pub sound : Sound c
  pub complete : complete_in c ≡ b
  pub gap : complete_in c ≡ false → gap_in c ≡ g
  pub short : short_in c ≡ k

-- The new gap is the first one, if the term was complete before it.
abbrev pub LeafTells : Type 0
LeafTells = (c : Cursor) → Sound c → 2 * c.at < unbroken → Tells (past_leaf c) false (cond (complete_in c) c.at (gap_in c)) (short_in c)

abbrev pub WordTells : Type 0
WordTells =
    (c : Cursor) (full : Bool) → Sound c → (full ≡ false → 2 * c.at + 3 < unbroken) →
    Tells (past_word full c) (cond full (complete_in c) false) (cond full (gap_in c) (cond (complete_in c) (c.at + 1) (gap_in c))) (short_in c || not full)
