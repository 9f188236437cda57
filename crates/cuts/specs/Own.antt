-- Own: the entries of the other words of a kind, where the entry is open; no public contract cites it.
--
--   own blank W f front tail   the entries of the other words: none where the entry is not open
--   behind_of w size r       the walk behind a word, of which the entry has so many bytes, and behind the entries that the answer r tells of
--   OpenAt                  where write_own begins
--   OwnListed, OwnEnds, ListsOwn   what it does: they are written, or do not fit
--
use Rattle.std.specs.Prelude.{◌≡◌, Result, Ok, Err, Bool, true, false, List, [], ℕ, ◌+◌, ◌<◌, length, take}
use Rattle.wire.specs.Map.{map_bytes}
use Rattle.wire.specs.Vocabulary.{Vocabulary}
use Rattle.wire.specs.EntryAgainst.{others_at}
use Rattle.others.specs.declared.Filled.{Filled}
use Rattle.others.specs.declared.Full.{Full}
use Rattle.others.specs.Listed.{FitBehind, Listed}
use Rattle.cuts.specs.declared.own.Walk.{Walk}
use Rattle.cuts.specs.Walking.{Step}
use Rattle.cuts.specs.Entries.{TablesOf}

abbrev pub own : Bool → Vocabulary → ℕ → List ℕ → List ℕ → List (List ℕ)
own true W f front tail = others_at W f front tail
own false W f front tail = []

abbrev pub behind_of : Walk → ℕ → Result Filled Full → Step
behind_of w size (Ok f) = Ok (record { at = w.at + (1 + map_bytes); entry = w.entry + size; pattern = w.pattern + (1 + map_bytes); written = f.bytes; todo = f.due })
behind_of w size (Err e) = Err e

pub record OpenAt (copy : List ℕ) (top : ℕ) (blank : Bool) (tail : List ℕ) (f : ℕ) (siblings : List ℕ) (w : Walk) : Type 0 where
  pub vocabulary : Vocabulary
  pub later : ℕ
  pub tables : TablesOf vocabulary siblings
  pub known : f < length vocabulary.words
  pub due : w.todo ≡ length (own blank vocabulary f (take top copy) tail) + later

pub record OwnListed (ls : List (List ℕ)) (later : ℕ) (w : Walk) (before after : List ℕ) (end : Walk) : Type 0 where
  pub listed : Listed ls w.written end.written before after
  pub todo : end.todo ≡ later

abbrev pub OwnEnds : List (List ℕ) → ℕ → Walk → List ℕ → List ℕ → Step → Type 0
OwnEnds ls later w before after (Ok end) = OwnListed ls later w before after end
OwnEnds ls later w before after (Err e) = FitBehind ls w.written (length before) → ⊥

abbrev pub ListsOwn : List ℕ → ℕ → Bool → List ℕ → ℕ → List ℕ → Walk → List ℕ → List ℕ → Step → Type 0
ListsOwn copy top blank tail f siblings w before after r =
    (o : OpenAt copy top blank tail f siblings w) → OwnEnds (own blank o.vocabulary f (take top copy) tail) o.later w before after r
