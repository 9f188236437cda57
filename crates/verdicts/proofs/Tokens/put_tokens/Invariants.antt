-- `verdicts::Tokens::put_tokens` meets its contract.
use Prim.Native.Nat.{◌-◌}
use lib.ListN.{length}
use Rattle.texts.specs.Phrases.{spell}
use Rattle.pages.proofs.Turns.{Left}
use Rattle.verdicts.specs.Steps.{tokens_in}
use Rattle.verdicts.specs.Parts.{drawn}
use Rattle.verdicts.proofs.Tokens.put_tokens.Given as goal

abbrev pub invariant-loop-ink : goal.invariant-loop-ink
invariant-loop-ink l = Left l.initial.page.bytes l.initial.page.end l.page.bytes l.page.end (drawn l.ink (spell (tokens_in l.self.text.now l.i l.self.end))) (drawn l.ink (spell (tokens_in l.self.text.now l.from l.self.end)))

abbrev pub decreases-loop-ink : goal.decreases-loop-ink
decreases-loop-ink l = length l.self.text.now - l.i
