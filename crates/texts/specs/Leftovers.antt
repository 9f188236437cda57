-- Leftovers: a list of leftovers as it is printed.
--
--   leftover_line X vs s e      the entry e of kind s in words, on a line of its own, where vs are the variables
--   leftovers_text X vs s l     the number of leftovers, a line an entry, and a closing line
--
use Rattle.std.specs.Prelude.{List, ◌++◌, ℕ, length}
use Rattle.terms.specs.Term.{Term}
use Rattle.wire.specs.Row.{write_row}
use Rattle.wire.specs.Text.{ascii, newline, decimal}
use Rattle.texts.specs.Lexemes.{Token}
use Rattle.texts.specs.Lexicon.{Lexicon}
use Rattle.texts.specs.Phrases.{phrase_text}

abbrev pub leftover_line : Lexicon → List Token → ℕ → Term → List ℕ
leftover_line X vs s e = phrase_text X vs s e ++ newline

-- `# 3 leftovers:`, the entries, and `# end of 3 leftovers`. No other comment line of an answer has a number and then `leftovers`, or begins
-- with `end of` but the last, which counts patterns.
abbrev pub leftovers_text : Lexicon → List Token → ℕ → List Term → List ℕ
leftovers_text X vs s l =
    ascii "# "
    ++ (decimal (length l)
    ++ (ascii " leftovers:\n"
    ++ (write_row (leftover_line X vs s) l ++ (ascii "# end of " ++ (decimal (length l) ++ ascii " leftovers\n")))))
