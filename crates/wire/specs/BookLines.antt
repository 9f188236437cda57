-- BookLines: the lines of the refusal list that a book meets: 24, then 7 to 14, 18 and 25 for each pattern in turn, then 15.
--
--   FrontLine W b n at q     line n, of 7 to 14, fits a pattern that begins the bytes b, by the byte at the offset `at`; it names
--                            the place q
--   FrontDecides W b n q     of the lines 7 to 14 that fit it, n is given, with the place q
--   Begun W b c s ts r       the book b says that it has c patterns, of which the first are ts, of kind s; r is the rest
--   begins W s ts            the offset behind these patterns
--   BookLine W b n q         the number n with the place q is given for the book b
--
-- Places in b are offsets from its first byte.
--
use Rattle.std.specs.Prelude.{◌≡◌, List, [], ◌∷◌, ◌++◌, ℕ, ◌+◌, ◌<◌, ◌≤◌, length}
use Rattle.terms.specs.Lists.{All}
use Rattle.terms.specs.Term.{Term}
use Rattle.wire.specs.Reply.{Outside}
use Rattle.wire.specs.Map.{map_bytes}
use Rattle.wire.specs.Vocabulary.{Vocabulary}
use Rattle.wire.specs.TermBytes.{encode_term, least_bytes, most_bytes, HoldsTerm}
use Rattle.wire.specs.Refusals.{Earlier}
use Rattle.wire.specs.TermLines.{Due, State, Word?, LeadsTo, NodeLine}
use Rattle.wire.specs.PatternLines.{sightings, RepeatedAt}
use Rattle.wire.specs.BookBytes.{most_patterns, patterns_bytes, Listable}

pub data FrontLine (W : Vocabulary) (b : List ℕ) : ℕ → ℕ → ℕ → Type 0 where
  -- 7. "The term has fewer than 2 .. bytes": so few are left. "7 names the pattern's first byte ..
  short : length b < least_bytes → FrontLine W b 7 0 0
  -- .. and also fits where a 4,097th byte is due, which is not read": a term's first byte, or a byte of a word's map.
  long : (s : ℕ) (l : List ℕ) (x : State) (d : Due) (ds : List Due) → b ≡ s ∷ l → LeadsTo W s l x → x.due ≡ d ∷ ds →
      x.at ≡ most_bytes → FrontLine W b 7 most_bytes 0
  long_in_map : (s : ℕ) (l : List ℕ) (x : State) (d : Due) (ds : List Due) (f : ℕ) (r : List ℕ) → b ≡ s ∷ l → LeadsTo W s l x →
      x.due ≡ d ∷ ds → x.rest ≡ f ∷ r → Word? W f → x.at < most_bytes → most_bytes < x.at + 1 + map_bytes →
      FrontLine W b 7 most_bytes 0
  -- 8. "Its first byte is not below the kind count."
  kind : (s : ℕ) (l : List ℕ) → b ≡ s ∷ l → W.kinds ≤ s → FrontLine W b 8 0 0
  -- 9 to 14, at a byte to which the pattern leads.
  inside : (s : ℕ) (l : List ℕ) (x : State) (d : Due) (ds : List Due) (n q : ℕ) → b ≡ s ∷ l → LeadsTo W s l x →
      x.due ≡ d ∷ ds → NodeLine W x d n q → FrontLine W b n q q

-- "of that byte and those of 8 to 14 the earliest decides, at one byte the lower number."
pub record FrontDecides (W : Vocabulary) (b : List ℕ) (n q : ℕ) : Type 0 where
  pub at : ℕ
  pub fits : FrontLine W b n at q
  pub first : (m c r : ℕ) → FrontLine W b m c r → Earlier n at m c

-- The count is in order, and so are the patterns ts, which are not more than it says.
pub record Begun (W : Vocabulary) (b : List ℕ) (c s : ℕ) (ts : List Term) (r : List ℕ) : Type 0 where
  pub some : 1 ≤ c
  pub few : c ≤ most_patterns
  pub patterns : All (Listable W s) ts
  pub written : b ≡ c ∷ (patterns_bytes W s ts ++ r)

abbrev pub begins : Vocabulary → ℕ → List Term → ℕ
begins W s ts = 1 + length (patterns_bytes W s ts)

pub data BookLine (W : Vocabulary) (b : List ℕ) : ℕ → ℕ → Type 0 where
  -- "24 when the count is missing or outside 1 to 64 (place 0)".
  no_count : b ≡ [] → BookLine W b 24 0
  count : (c : ℕ) (l : List ℕ) → b ≡ c ∷ l → Outside 1 most_patterns c → BookLine W b 24 0
  -- "7 to 14 and 18 apply to each pattern in turn, with .. places counted in the book."
  front : (c s : ℕ) (ts : List Term) (r : List ℕ) (n q : ℕ) → Begun W b c s ts r → length ts < c → FrontDecides W r n q →
      BookLine W b n (begins W s ts + q)
  -- 18. "A name stands twice in a pattern to be listed (its second occurrence)."
  twice : (c s : ℕ) (ts : List Term) (k : ℕ) (t : Term) (r : List ℕ) (q : ℕ) → Begun W b c s ts (encode_term W k t ++ r) → length ts < c →
      HoldsTerm W (encode_term W k t) k t → RepeatedAt (sightings W t) q → BookLine W b 18 (begins W s ts + q)
  -- "25 when a pattern's kind differs from the first one's (place: its kind byte), checked after its 18".
  other_kind : (c s : ℕ) (ts : List Term) (k : ℕ) (t : Term) (r : List ℕ) → Begun W b c s ts (encode_term W k t ++ r) → 1 ≤ length ts →
      length ts < c → Listable W k t → (k ≡ s → ⊥) → BookLine W b 25 (begins W s ts)
  -- "15 follows the last."
  more : (s : ℕ) (ts : List Term) (x : ℕ) (r : List ℕ) → Begun W b (length ts) s ts (x ∷ r) → BookLine W b 15 (begins W s ts)
