-- Courses: the paragraphs of a text that is within its limits.
--
--   Readable b at k n          the text and the counts are within their limits, and the offset is in the text
--   Courses K N W l qs         the paragraphs qs stand in l, one behind the other, and nothing behind them
--
use Rattle.std.specs.Prelude.{◌≡◌, List, [], ◌∷◌, ℕ, ◌≤◌, length}
use Rattle.wire.specs.Vocabulary.{Vocabulary, most_kinds, most_words}
use Rattle.texts.specs.Lexemes.{Token, Lexeme}
use Rattle.texts.specs.Files.{most_text, Paragraph}
use Rattle.texts.specs.Faults.{parsed, token}
use Rattle.texts.specs.Answering.{read_paragraph}

pub record Readable (b : List ℕ) (at k n : ℕ) : Type 0 where
  pub short : length b ≤ most_text
  pub inside : at ≤ length b
  pub kinds : k ≤ most_kinds
  pub words : n ≤ most_words

-- Behind the last paragraph the text is over.
abbrev pub Courses : List Token → List Token → Vocabulary → List Lexeme → List Paragraph → Type 0
Courses K N W l [] = length (token l) ≡ 0
Courses K N W l (q ∷ qs) = (r : List Lexeme) × (read_paragraph K N W l ≡ parsed q r) × Courses K N W r qs
