-- `dues::count_commas` meets its contract.
use native.Mathlib.Omega.{arith}
use Rattle.texts.specs.Lexemes.{token_at}
use Rattle.dues.proofs.Commas.{deeper_few, comma-small, commas_begin, commas_turn, commas_stop, commas_end, next_start}
use Rattle.dues.proofs.count_commas.Goals as goal

pub loop-at-init : goal.loop-at-init
loop-at-init c = (omega arith, (omega arith, (omega arith, (omega arith, commas_begin c.args.text.now c.args.from c.start-at.result c.start-at.ensures))))

pub returns-then-deep-eq0-clause-value : goal.returns-then-deep-eq0-clause-value
returns-then-deep-eq0-clause-value c = commas_stop c.args.text.now c.loop-at.at c.loop-at.deep c.loop-at.n c.loop-at.invariant.1.1.1.1 c.loop-at.invariant.0 c.deeper-deep.ensures c.if-deep-eq0.true

pub loop-at-preserved : goal.loop-at-preserved
loop-at-preserved c = let b = c.args.text.now in
    let further = next_start b c.loop-at.at c.loop-at-test.true c.end.ensures c.start-next.ensures in
    let few = deeper_few c.loop-at.deep (token_at b c.loop-at.at) in
    let once = comma-small c.deeper-deep.result (token_at b c.loop-at.at) (token_at b c.start-next.result) in (
      omega (arith, c.if-deep-eq0.false),
      (omega (arith, c.deeper-deep.ensures), (omega (arith, c.comma-n.ensures), (omega (arith, c.comma-n.ensures), commas_turn b c.loop-at.at c.loop-at.deep c.loop-at.n c.loop-at.invariant.1.1.1.1 c.loop-at.invariant.0 c.deeper-deep.ensures c.loop-at-test.true c.if-deep-eq0.false c.end.ensures c.start-next.ensures c.comma-n.ensures))),
    )

pub returns-clause-value : goal.returns-clause-value
returns-clause-value c = commas_end c.args.text.now c.loop-at.at c.loop-at.deep c.loop-at.n c.loop-at.invariant.1.1.1.1 c.loop-at-test.false
