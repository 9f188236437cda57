-- Calls: what cut_entry promises.
--
--   CutAt                   an entry and a pattern that share something, whose root is a word; so many entries replace the entry
--   CutOf ls n before after r   the answer r: ls is written behind the first n bytes, or does not fit
--   CutsEntry               the entries by which the entry is replaced are so written
--
use Rattle.std.specs.Prelude.{◌≡◌, Result, Ok, Err, false, List, map, ℕ, ◌+◌, ◌≤◌, length, get_or}
use Rattle.terms.specs.Term.{Term}
use Rattle.terms.specs.Book.{disjoint, cut}
use Rattle.wire.specs.Vocabulary.{Vocabulary, signature}
use Rattle.wire.specs.TermBytes.{encode_term}
use Rattle.extents.specs.Extents.{most_extent}
use Rattle.others.specs.Listed.{FitBehind, Listed}
use Rattle.cuts.specs.Entries.{EntryOf, PatternOf, TablesOf}
use Rattle.others.specs.declared.Full.{Full}

-- The copy has room for what both have.
pub record CutAt (entry pattern siblings : List ℕ) (copied todo : ℕ) : Type 0 where
  pub vocabulary : Vocabulary
  pub kind : ℕ
  pub one : Term
  pub term : Term
  pub tables : TablesOf vocabulary siblings
  pub entry_of : EntryOf vocabulary kind one
  pub pattern_of : PatternOf vocabulary kind term
  pub stands : entry ≡ encode_term vocabulary kind one
  pub begins : pattern ≡ encode_term vocabulary kind term
  pub copy : length (encode_term vocabulary kind one) + length (encode_term vocabulary kind term) ≤ copied
  pub small : copied ≤ most_extent
  pub word : get_or pattern 1 0 ≤ 127
  pub shares : disjoint one term ≡ false
  pub due : todo ≡ length (cut (signature vocabulary) one term)

abbrev pub CutOf : List (List ℕ) → ℕ → List ℕ → List ℕ → Result ℕ Full → Type 0
CutOf ls n before after (Ok n') = Listed ls n n' before after
CutOf ls n before after (Err e) = FitBehind ls n (length before) → ⊥

abbrev pub CutsEntry : List ℕ → List ℕ → List ℕ → ℕ → ℕ → ℕ → List ℕ → List ℕ → Result ℕ Full → Type 0
CutsEntry entry pattern siblings copied todo n before after r =
    (h : CutAt entry pattern siblings copied todo) → n ≤ length before →
    CutOf (map (encode_term h.vocabulary h.kind) (cut (signature h.vocabulary) h.one h.term)) n before after r
