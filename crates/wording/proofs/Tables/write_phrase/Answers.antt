-- `wording::Tables::write_phrase` meets its contract.
use mathlib.Core.Path.{ap, ◌∙◌}
use native.Mathlib.Omega.{arith}
use Rattle.texts.specs.Saying.{say_term, with_kind}
use Rattle.wording.specs.Tables.{tables_of}
use Rattle.pages.proofs.Pages.{adds_then_is}
use Rattle.wording.proofs.Saying.{behind_rest}
use Rattle.wording.proofs.Phrases.{phrase_open, phrase-variable}
use Rattle.wording.proofs.Tables.write_phrase.Goals as goal

pub returns-then-root : goal.returns-then-root
returns-then-root c =
    adds_then_is c.put.ensures c.put_kind.ensures (phrase_open (tables_of c.args.self.now) c.args.entry.now (omega arith) c.from-kind.ensures c.if-root.true)

pub returns-then-root-ge-FIRST_NAME_BYTE : goal.returns-then-root-ge-FIRST_NAME_BYTE
returns-then-root-ge-FIRST_NAME_BYTE c =
    adds_then_is c.write_term.ensures.text c.put_kind-then-root-ge-FIRST_NAME_BYTE.ensures
    (ap (λ l. with_kind (tables_of c.args.self.now) c.from-kind.result (say_term (tables_of c.args.self.now) 32 l).text) (behind_rest 1 c.args.entry.now)
    ∙ phrase-variable (tables_of c.args.self.now) c.args.entry.now (omega arith) c.from-kind.ensures c.if-root.false (omega arith))
