-- Striking: what the functions that take one pattern against the entries of an area promise each other; no public contract
-- cites it.
--
--   Keeps                    an entry that is not too long is put, or does not fit
--   StrikeAt, StrikesEntry   where strike_entry begins, and what it does
--   EntryEnds                where the entry at an offset of an area ends, whatever stands there
--   NotedAt, StrikesNoted    where strike_area begins, the pattern being noted, and what it does
--
use Rattle.std.specs.Prelude.{◌≡◌, List, [], ◌∷◌, map, ℕ, ◌+◌, ◌<◌, ◌≤◌, length, drop}
use Rattle.terms.specs.Term.{Term}
use Rattle.terms.specs.Book.{remains}
use Rattle.wire.specs.Vocabulary.{Vocabulary, signature}
use Rattle.wire.specs.TermBytes.{encode_term, most_bytes}
use Rattle.extents.specs.Extents.{most_extent, term_size}
use Rattle.marks.specs.Marking.{MarksOf}
use Rattle.cuts.specs.Entries.{EntryOf, PatternOf, TablesOf}
use Rattle.strikes.specs.Calls.{Struck, LeftOf, leaves_of, AreaAt}

abbrev pub Keeps : List ℕ → ℕ → List ℕ → List ℕ → Struck → Type 0
Keeps entry n before after r = length entry ≤ most_bytes → LeftOf (entry ∷ []) n before after r

pub record StrikeAt (entry pattern marks siblings : List ℕ) (copied : ℕ) : Type 0 where
  pub vocabulary : Vocabulary
  pub kind : ℕ
  pub one : Term
  pub term : Term
  pub tables : TablesOf vocabulary siblings
  pub entry_of : EntryOf vocabulary kind one
  pub pattern_of : PatternOf vocabulary kind term
  pub stands : entry ≡ encode_term vocabulary kind one
  pub begins : pattern ≡ encode_term vocabulary kind term
  pub marked : MarksOf vocabulary term marks
  pub copy : length (encode_term vocabulary kind one) + length (encode_term vocabulary kind term) ≤ copied
  pub small : copied ≤ most_extent

abbrev pub StrikesEntry : List ℕ → List ℕ → List ℕ → List ℕ → ℕ → ℕ → List ℕ → List ℕ → Struck → Type 0
StrikesEntry entry pattern marks siblings copied n before after r =
    (h : StrikeAt entry pattern marks siblings copied) → n ≤ length before →
    LeftOf (map (encode_term h.vocabulary h.kind) (remains (signature h.vocabulary) h.term h.one)) n before after r

pub record EntryEnds (area : List ℕ) (at end : ℕ) : Type 0 where
  pub some : at < end
  pub inside : end ≤ length area
  pub sized : end ≡ at + 1 + term_size (drop (at + 1) area)

pub record NotedAt (area pattern marks siblings : List ℕ) (copied : ℕ) : Type 0 where
  pub at : AreaAt area pattern siblings copied
  pub marked : MarksOf at.vocabulary at.term marks

abbrev pub StrikesNoted : List ℕ → List ℕ → List ℕ → List ℕ → ℕ → List ℕ → List ℕ → Struck → Type 0
StrikesNoted area pattern marks siblings copied before after r =
    (h : NotedAt area pattern marks siblings copied) → LeftOf (leaves_of h.at.vocabulary h.at.kind h.at.term h.at.entries) 0 before after r
