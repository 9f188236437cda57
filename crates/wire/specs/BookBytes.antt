-- BookBytes: document 02 (ii)'s books, which hold the patterns of a step.
--
--   most_patterns            a book has at most so many patterns (64)
--   patterns_bytes W s ts    whole patterns of kind s, each directly behind the one before it
--   encode_book W s ts       the bytes of a book of the patterns ts of kind s
--   Listable W s t          t is a pattern of kind s that list accepts: within the limits, no name twice
--   HoldsBook W b s ts      the bytes b are accepted: they write a book of the patterns ts of kind s
--
use Rattle.std.specs.Prelude.{◌≡◌, List, ◌∷◌, ℕ, ◌≤◌, length}
use Rattle.terms.specs.Lists.{All}
use Rattle.terms.specs.Term.{Term, Linear}
use Rattle.wire.specs.Row.{write_row}
use Rattle.wire.specs.Vocabulary.{Vocabulary}
use Rattle.wire.specs.TermBytes.{encode_term, HoldsTerm}

-- "a count byte, 1 to 64".
abbrev pub most_patterns : ℕ
most_patterns = 64

abbrev pub patterns_bytes : Vocabulary → ℕ → List Term → List ℕ
patterns_bytes W s ts = write_row (encode_term W s) ts

-- "a count byte, .., then whole patterns in a row".
abbrev pub encode_book : Vocabulary → ℕ → List Term → List ℕ
encode_book W s ts = length ts ∷ patterns_bytes W s ts

pub record Listable (W : Vocabulary) (s : ℕ) (t : Term) : Type 0 where
  pub holds : HoldsTerm W (encode_term W s t) s t
  pub linear : Linear t

-- All patterns of a book have one kind.
pub record HoldsBook (W : Vocabulary) (b : List ℕ) (s : ℕ) (ts : List Term) : Type 0 where
  pub some : 1 ≤ length ts
  pub few : length ts ≤ most_patterns
  pub patterns : All (Listable W s) ts
  pub written : b ≡ encode_book W s ts
