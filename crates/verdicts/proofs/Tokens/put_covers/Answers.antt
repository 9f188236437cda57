-- `verdicts::Tokens::put_covers` meets its contract.
use Rattle.texts.specs.Lexemes.{token_at}
use Rattle.verdicts.specs.Steps.{behind_token, tokens_in, step_size}
use Rattle.verdicts.proofs.Steps.{stands_less, steps_less}
use Rattle.verdicts.proofs.Covering.{covering_turn, covering_end}
use Rattle.verdicts.proofs.Tokens.put_covers.Goals as goal

pub returns-then-not-stands : goal.returns-then-not-stands
returns-then-not-stands c = covering_end c.loop-from.invariant c.start-here.ensures c.stands.ensures c.if-not-stands.true

pub loop-from-smaller : goal.loop-from-smaller
loop-from-smaller c = let text = c.args.self.now.text.now in
    steps_less text (step_size (token_at text c.start-due.result) (tokens_in text (behind_token text c.loop-from.s) c.args.self.now.end)) c.loop-from.s c.args.self.now.end (stands_less text c.loop-from.s c.args.self.now.end c.start-here.ensures c.stands.ensures c.if-not-stands.false) c.pass-behind.ensures

pub loop-from-preserved : goal.loop-from-preserved
loop-from-preserved c = covering_turn c.loop-from.invariant c.start-here.ensures c.stands.ensures c.if-not-stands.false c.start-due.ensures c.pass-behind.ensures c.end-a.ensures c.put_cover.ensures
