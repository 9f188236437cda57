-- `verdicts::Tokens::close` meets its contract.
use native.Mathlib.Omega.{arith}
use Rattle.texts.specs.Lexemes.{token_at}
use Rattle.verdicts.proofs.Steps.{behind_is, stands_less, later}
use Rattle.verdicts.proofs.Skipping.{level-few, close_turn}
use Rattle.verdicts.proofs.Tokens.close.Goals as goal

pub loop-depth-preserved : goal.loop-depth-preserved
loop-depth-preserved c = let text = c.args.self.now.text.now in
    let i = c.loop-depth.i in
    let less = stands_less text i c.args.self.now.end c.start-s.ensures c.stands.ensures c.if-not-stands.false in (
      omega (arith, c.loop-depth.invariant.0, c.level-depth.ensures, level-few (token_at text c.start-s.result) c.loop-depth.depth, behind_is text i c.start-s.ensures c.end-i.ensures, later text i (omega arith)),
      close_turn text c.args.self.now.end i c.loop-depth.depth c.loop-depth.invariant.1 c.start-s.ensures c.stands.ensures c.if-not-stands.false c.loop-depth-test.true c.level-depth.ensures c.end-i.ensures,
    )
