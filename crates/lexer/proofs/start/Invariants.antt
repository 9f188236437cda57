-- `lexer::start` meets its contract. The loop's invariant: the blanks from here on make up the blanks from the beginning on.
use Rattle.std.proofs.Common.{◌≡◌, ◌+◌, drop}
use Rattle.texts.specs.Lexemes.{blanks_in, blanks}
use Rattle.lexer.proofs.start.Given as goal

abbrev pub invariant-loop-i : goal.invariant-loop-i
invariant-loop-i l = l.i + blanks_in l.commented (drop l.i l.text) ≡ l.at + blanks (drop l.at l.text)
