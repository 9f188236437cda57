-- Reply: what a call answers, in document 01's numbers.
--
--   Reply                accepted with its values, or refused with number, input and place
--   Kinded, kinded s t   a term with its kind
--   IsBytes l            each number of l is a byte
--   Outside low high n   the number n lies outside low to high
--   outside low high n   the test of it
--
use Rattle.std.specs.Prelude.{Bool, ◌||◌, List, ◌⊎◌, ℕ, ◌<◌, ltb}
use Rattle.terms.specs.Lists.{All}
use Rattle.terms.specs.Term.{Term}

-- Document 01: "A refusal gives its number, the input .. and a place".
pub data Reply : Type 0 where
  accepted : List ℕ → Reply
  refused : ℕ → ℕ → ℕ → Reply

pub record Kinded : Type 0 where
  pub kind : ℕ
  pub term : Term

abbrev pub kinded : ℕ → Term → Kinded
kinded s t = record { kind = s; term = t }

abbrev pub IsBytes : List ℕ → Type 0
IsBytes l = All (λ b. b < 256) l

abbrev pub Outside : ℕ → ℕ → ℕ → Type 0
Outside low high n = (n < low) ⊎ (high < n)

abbrev pub outside : ℕ → ℕ → ℕ → Bool
outside low high n = ltb n low || ltb high n
