-- Leftovers: what document 01's call "list" promises: demand 3 of the bytes that stand in the lent slice after it.
--
--   HoldsPattern v p W s t   the bytes v and p are accepted: they write the vocabulary W and its linear pattern t of kind s
--   entries_bytes W l         whole patterns, each directly behind the one before it
--   Entries W s t p n m after    demand 3 of the n entries in the first m bytes of the lent slice
--   ListUnder, ListRefusal      the number, input and place that the refusal list decides on: lines 1 to 5 and 7 to 15, 18 and 20
--   ListPromise              what list promises of its reply and the lent slice
--
use Rattle.std.specs.Prelude.{◌≡◌, List, [], ◌∷◌, map, ◌↔◌, ℕ, ◌<◌, ◌≤◌, length, take, drop}
use Rattle.terms.specs.Lists.{All}
use Rattle.terms.specs.Term.{Term, Ground, SortedG, Linear}
use Rattle.terms.specs.Substitution.{with_variables}
use Rattle.terms.specs.Instance.{Represents}
use Rattle.terms.specs.Listing.{IsListing, FitsExactlyOne, Needed}
use Rattle.wire.specs.Reply.{Reply, accepted, refused, Kinded, kinded}
use Rattle.wire.specs.Row.{write_row}
use Rattle.wire.specs.Vocabulary.{Vocabulary, signature, HoldsVocabulary}
use Rattle.wire.specs.TermBytes.{encode_term, GoodTerm, HoldsTerm}
use Rattle.wire.specs.BookBytes.{patterns_bytes}
use Rattle.wire.specs.Refusals.{Decides}
use Rattle.wire.specs.VocabularyLines.{VocabularyFirst}
use Rattle.wire.specs.PatternLines.{PatternLine}

-- Demand 3: "whatever vocabulary and pattern are accepted, with no name twice in the pattern".
pub record HoldsPattern (v p : List ℕ) (W : Vocabulary) (s : ℕ) (t : Term) : Type 0 where
  pub vocabulary : HoldsVocabulary v W
  pub pattern : HoldsTerm W p s t
  pub linear : Linear t

-- "Each entry is a whole pattern with its kind byte, written directly behind the one before it."
abbrev pub entries_bytes : Vocabulary → List Kinded → List ℕ
entries_bytes W l = write_row (λ k. encode_term W k.kind k.term) l

pub record Entries (W : Vocabulary) (s : ℕ) (t : Term) (p : List ℕ) (n m : ℕ) (after : List ℕ) : Type 0 where
  -- "its first bytes, as many as answered, are the answered number of whole patterns": these, and no others.
  pub entries : List Term
  pub count : length entries ≡ n
  pub inside : m ≤ length after
  pub written : take m after ≡ patterns_bytes W s entries
  pub one : (l : List Kinded) → length l ≡ n → All (λ k. GoodTerm W k.kind k.term) l →
      take m after ≡ entries_bytes W l → l ≡ map (kinded s) entries
  -- Demand 3: "are document 01's listing in its order"; as document 02 (iv) has it, without what no situation fits, or 255 alone.
  pub order : IsListing (signature W) s t entries
  -- Each is a pattern that the term check accepts, without repeated names; "An entry is never longer than the pattern."
  pub each : All (λ e. HoldsTerm W (encode_term W s e) s e × Linear e × (length (encode_term W s e) ≤ length p)) entries
  -- Demand 3: "Every complete situation of the pattern's kind, however large, fits exactly one of the pattern and
  -- these entries, and exactly one filling turns that one into it."
  pub once : (g : Ground) → SortedG (signature W) g s → FitsExactlyOne (signature W) (t ∷ entries) s g
  -- Demand 3: "For every entry there is a complete situation .. that fits this entry and neither the pattern nor any other entry".
  pub needed : (i : ℕ) → i < length entries → Needed (signature W) t entries s i
  -- Demand 2: "The listing represents the non-instances of a pattern in Gerlach's sense".
  pub represents : Represents (signature W) s (with_variables (signature W) t s) (map (λ e. with_variables (signature W) e s) entries)

-- "then the pattern, .. then the rest", under the vocabulary W.
pub data ListUnder (p out : List ℕ) (W : Vocabulary) : ℕ → ℕ → ℕ → Type 0 where
  of_pattern : (n q : ℕ) → Decides (PatternLine W p) n q → ListUnder p out W n 1 q
  -- 20. "The listing .. is longer than the lent slice (input 3, place: that output's length in bytes)."
  no_room : (s : ℕ) (t : Term) (l : List Term) → HoldsTerm W p s t → Linear t → IsListing (signature W) s t l →
      length out < length (patterns_bytes W s l) → ListUnder p out W 20 3 (length (patterns_bytes W s l))

abbrev pub ListRefusal : List ℕ → List ℕ → List ℕ → ℕ → ℕ → ℕ → Type 0
ListRefusal v p out = VocabularyFirst v (ListUnder p out)

pub record ListPromise (v p before after : List ℕ) (r : Reply) : Type 0 where
  -- Demand 1: "a faulty one gets the number that its refusal list decides, with the input and place".
  pub refuses : (n i q : ℕ) → (r ≡ refused n i q) ↔ ListRefusal v p before n i q
  -- It is accepted exactly where vocabulary and pattern are, no name stands twice, and the listing fits; "the answer is the
  -- number of entries and of bytes".
  pub answered : (values : List ℕ) →
      (r ≡ accepted values) ↔
      ((W : Vocabulary) × (s : ℕ) × (t : Term) × (l : List Term) × HoldsPattern v p W s t × IsListing (signature W) s t l ×
      (length (patterns_bytes W s l) ≤ length before) × (values ≡ length l ∷ length (patterns_bytes W s l) ∷ []))
  -- Demand 3, about the bytes that stand in the lent slice after the call, wherever the reply is no refusal.
  pub entries : (n m : ℕ) → r ≡ accepted (n ∷ m ∷ []) →
      (W : Vocabulary) (s : ℕ) (t : Term) → HoldsPattern v p W s t → Entries W s t p n m after
  -- "Bytes behind the last entry stay unchanged."
  pub behind_last : (n m : ℕ) → r ≡ accepted (n ∷ m ∷ []) → drop m after ≡ drop m before
  -- Demand 1: "a refusal changes nothing lent to the call".
  pub kept : (n i q : ℕ) → r ≡ refused n i q → after ≡ before
