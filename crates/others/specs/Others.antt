-- Others: an entry for each other word of a kind.
--
--   entry_of front tail h    the entry with the bytes front, the word h with map 0, and the bytes tail
--   others_of front tail hs  such an entry for each of the words hs
--   NextWord table g r      r is the next word of g's kind by the table, and is higher whatever the table has
--   Due todo size room, Exceeds   an entry is due, is not too long and has room, and the test of that
--   most_length              so many bytes at most have the copy and the tail
--   LengthsAgree, LengthsFail     the offsets and lengths that write_others begins with, and the test of them
--   SiblingsAt              f is a word, the table has its siblings, and the entries of its others are due
--   OthersListed, OthersCut, WritesSiblings   what it does: their entries are written, or do not fit
--   BytesInside             the bytes written are in the slice
--
use Rattle.std.specs.Prelude.{◌≡◌, Result, Ok, Err, Bool, true, false, List, ◌∷◌, ◌++◌, map, ℕ, ◌+◌, ◌<◌, ◌≤◌, length, get_or, take}
use Rattle.wire.specs.Map.{write_map}
use Rattle.wire.specs.Vocabulary.{most_words}
use Rattle.wire.specs.TermBytes.{most_bytes}
use Rattle.kinds.specs.Kinds.{others_in, SiblingTable}
use Rattle.others.specs.declared.Filled.{Filled}
use Rattle.others.specs.declared.Full.{Full}
use Rattle.others.specs.Listed.{FitBehind, Listed}

abbrev pub entry_of : List ℕ → List ℕ → ℕ → List ℕ
entry_of front tail h = front ++ ((h ∷ write_map 0) ++ tail)

abbrev pub others_of : List ℕ → List ℕ → List ℕ → List (List ℕ)
others_of front tail hs = map (entry_of front tail) hs

pub record NextWord (table : List ℕ) (g r : ℕ) : Type 0 where
  pub higher : g < r
  pub same : g < get_or table g 0 → r ≡ get_or table g 0

pub record Due (todo size room : ℕ) : Type 0 where
  pub some : 0 < todo
  pub short : size ≤ most_bytes
  pub fits : size ≤ room

pub record Exceeds (todo size room : ℕ) (r : Bool) : Type 0 where
  pub yes : r ≡ true → Due todo size room → ⊥
  pub no : r ≡ false → Due todo size room

abbrev pub most_length : ℕ
most_length = 65536

pub record LengthsAgree (at copy tail n room : ℕ) : Type 0 where
  pub inside : at ≤ copy
  pub copy_small : copy ≤ most_length
  pub tail_small : tail ≤ most_length
  pub written : n ≤ room

pub record LengthsFail (at copy tail n room : ℕ) (r : Bool) : Type 0 where
  pub yes : r ≡ true → LengthsAgree at copy tail n room → ⊥
  pub no : r ≡ false → LengthsAgree at copy tail n room

pub record SiblingsAt (f : ℕ) (siblings : List ℕ) (todo : ℕ) : Type 0 where
  pub words : ℕ
  pub results : List ℕ
  pub later : ℕ
  pub few : words ≤ most_words
  pub table : SiblingTable words results siblings
  pub known : f < words
  pub due : todo ≡ length (others_in words results f) + later

pub record OthersListed (ls : List (List ℕ)) (later n : ℕ) (before after : List ℕ) (end todo : ℕ) : Type 0 where
  pub listed : Listed ls n end before after
  pub due : todo ≡ later

abbrev pub OthersCut : List (List ℕ) → ℕ → ℕ → List ℕ → List ℕ → Result Filled Full → Type 0
OthersCut ls later n before after (Ok w) = OthersListed ls later n before after w.bytes w.due
OthersCut ls later n before after (Err e) = FitBehind ls n (length before) → ⊥

abbrev pub WritesSiblings : List ℕ → ℕ → ℕ → List ℕ → List ℕ → ℕ → ℕ → List ℕ → List ℕ → Result Filled Full → Type 0
WritesSiblings copy at f siblings tail n todo before after r =
    LengthsAgree at (length copy) (length tail) n (length before) → (o : SiblingsAt f siblings todo) →
    OthersCut (others_of (take at copy) tail (others_in o.words o.results f)) o.later n before after r

abbrev pub BytesInside : ℕ → Result Filled Full → Type 0
BytesInside size (Ok w) = w.bytes ≤ size
BytesInside size (Err e) = Unit {0}
