-- Signature: sorts and operation symbols (source 000, section 1; document 01: kinds and words).
--
--   Symbol            a result sort, and the sorts of its argument places, lowest place first
--   Signature         the number of sorts, and the symbols; sorts and symbols are numbered from 0
--   no_symbol          what stands for a symbol where the number is none of the signature's
--   symbol S f        the symbol of number f
--   result S f        its result sort
--   arguments S f     the sorts of its argument places
--   WellFormed S      every sort that a symbol of S names is a sort of S
--
use Rattle.std.specs.Prelude.{List, [], ℕ, ◌<◌, get_or}
use Rattle.terms.specs.Lists.{All}

-- Document 01: a word.
pub record Symbol : Type 0 where
  pub result : ℕ
  pub arguments : List ℕ

-- Document 01: what a vocabulary says, its maps left out.
pub record Signature : Type 0 where
  pub sorts : ℕ
  pub symbols : List Symbol

abbrev pub no_symbol : Symbol
no_symbol = record { result = 0; arguments = [] }

abbrev pub symbol : Signature → ℕ → Symbol
symbol S f = get_or S.symbols f no_symbol

abbrev pub result : Signature → ℕ → ℕ
result S f = (symbol S f).result

abbrev pub arguments : Signature → ℕ → List ℕ
arguments S f = (symbol S f).arguments

abbrev pub WellFormed : Signature → Type 0
WellFormed S = All (λ k. (k.result < S.sorts) × All (λ s. s < S.sorts) k.arguments) S.symbols
