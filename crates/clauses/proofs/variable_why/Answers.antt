-- `clauses::variable_why` meets its contract.
use native.Mathlib.Omega.{arith}
use lib.ListN.{length}
use borrow.Author.Tests.{lt-leb}
use Rattle.texts.specs.Lexemes.{token_at}
use Rattle.texts.proofs.Scanning.{token-length}
use Rattle.clauses.proofs.variable_why.Goals as goal

pub returns-then-end-s-gt33 : goal.returns-then-end-s-gt33
returns-then-end-s-gt33 c = simp (lt-leb (length (token_at c.args.text.now c.args.s)) 33 (omega (arith, c.end.ensures, token-length c.args.text.now c.args.s)))
