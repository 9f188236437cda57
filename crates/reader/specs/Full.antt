-- Full: complete terms, read over one full word after the other; no public contract cites it.
--
--   FullWord l k n r m      at the front of the bytes l stands a word of kind k with its whole place map, by the tables
--   FullTest l k n r m b    b tells whether it does
--   NotFull W k l           no full word of kind k stands there, by the vocabulary
--   Passes W due l due' l'  complete terms for what is due come from those for what is due further on, over full words alone
--
use Rattle.std.specs.Prelude.{◌≡◌, Bool, true, false, List, ℕ, ◌+◌, ◌<◌, ◌≤◌, length, get_or}
use Rattle.terms.specs.Term.{Grounds}
use Rattle.wire.specs.Map.{map_bytes}
use Rattle.wire.specs.Vocabulary.{Vocabulary}
use Rattle.wire.specs.TermLines.{Due}
use Rattle.wire.specs.Parser.{got, and_then}
use Rattle.wire.specs.FillComputed.{full_word, read_values}

pub record FullWord (l : List ℕ) (k n : ℕ) (results maps : List ℕ) : Type 0 where
  pub long : 1 + map_bytes ≤ length l
  pub known : get_or l 0 0 < n
  pub kind : get_or results (get_or l 0 0) 0 ≡ k
  pub full : get_or l 1 0 ≡ get_or maps (get_or l 0 0) 0

pub record FullTest (l : List ℕ) (k n : ℕ) (results maps : List ℕ) (b : Bool) : Type 0 where
  pub stands : b ≡ true → FullWord l k n results maps
  pub other : b ≡ false → FullWord l k n results maps → ⊥

abbrev pub NotFull : Vocabulary → ℕ → List ℕ → Type 0
NotFull W k l = (f : ℕ) (r : List ℕ) → full_word W k l ≡ got f r → ⊥

-- `built` puts the terms that are read further on below the words that were passed.
pub record Passes (W : Vocabulary) (due : List Due) (l : List ℕ) (due' : List Due) (l' : List ℕ) : Type 0 where
  pub built : Grounds → Grounds
  pub same : read_values W due l ≡ and_then (read_values W due' l') (λ gs r. got (built gs) r)
