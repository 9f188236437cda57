-- `verdicts::Tokens::put_tokens` meets its contract.
use Rattle.pages.proofs.Turns.{left_turn, left_end}
use Rattle.verdicts.proofs.Drawing.{tokens_turn, tokens-end}
use Rattle.verdicts.proofs.Tokens.put_tokens.Goals as goal

pub returns-then-not-stands : goal.returns-then-not-stands
returns-then-not-stands c = left_end c.loop-ink.invariant (tokens-end c.args.ink c.args.self.now.text.now c.args.self.now.end c.loop-ink.i c.start-s.ensures c.stands.ensures c.if-not-stands.true)

pub loop-ink-preserved : goal.loop-ink-preserved
loop-ink-preserved c = left_turn c.loop-ink.invariant (tokens_turn c.args.ink c.args.self.now.text.now c.args.self.now.end c.loop-ink.i c.start-s.ensures c.stands.ensures c.if-not-stands.false c.end-i.ensures) c.put_spelled.ensures
