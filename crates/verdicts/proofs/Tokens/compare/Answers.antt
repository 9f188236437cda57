-- `verdicts::Tokens::compare` meets its contract.
use Rattle.texts.specs.Lexemes.{token_at}
use Rattle.verdicts.specs.Steps.{behind_token, tokens_in, step_size}
use Rattle.verdicts.proofs.Steps.{stands_less, steps_less}
use Rattle.verdicts.proofs.Walking.{walking_turn, walking_fits, walking_differs}
use Rattle.verdicts.proofs.Tokens.compare.Goals as goal

pub returns-then-not-stands : goal.returns-then-not-stands
returns-then-not-stands c = walking_fits c.args.self.now.text.now c.args.from c.args.at c.args.self.now.end c.loop-from.a c.loop-from.s c.loop-from.invariant c.start-here.ensures c.stands.ensures c.if-not-stands.true

pub returns-then-not-admits : goal.returns-then-not-admits
returns-then-not-admits c = walking_differs c.args.self.now.text.now c.args.from c.args.at c.args.self.now.end c.loop-from.a c.loop-from.s c.loop-from.invariant c.start-here.ensures c.stands.ensures c.if-not-stands.false c.start-due.ensures c.admits.ensures c.if-not-admits.true

pub loop-from-smaller : goal.loop-from-smaller
loop-from-smaller c = let text = c.args.self.now.text.now in
    steps_less text (step_size (token_at text c.start-due.result) (tokens_in text (behind_token text c.loop-from.s) c.args.self.now.end)) c.loop-from.s c.args.self.now.end (stands_less text c.loop-from.s c.args.self.now.end c.start-here.ensures c.stands.ensures c.if-not-stands.false) c.pass-s.ensures

pub loop-from-preserved : goal.loop-from-preserved
loop-from-preserved c = walking_turn c.args.self.now.text.now c.args.from c.args.at c.args.self.now.end c.loop-from.a c.loop-from.s c.loop-from.invariant c.start-here.ensures c.stands.ensures c.if-not-stands.false c.start-due.ensures c.admits.ensures c.if-not-admits.false c.pass-s.ensures c.end-a.ensures
