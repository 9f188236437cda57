-- `lexer::is_word` meets its contract.
use Rattle.std.proofs.Common.{drop, refl}
use Rattle.lexer.proofs.Tokens.{rest_behind, front_same, word-begins, word-other}
use Rattle.lexer.proofs.is_word.Goals as goal

pub returns-then-equal : goal.returns-then-equal
returns-then-equal c =
    let text = c.args.text.now in
    let at = c.args.at in
    let rest = rest_behind text at c.get.result _ c.unwrap_or-rest.ensures refl c.get.ensures.lookup.0 in
    word-begins text at c.args.word.now (front_same (drop at text) c.args.word.now _ rest c.min.ensures c.equal.ensures) c.if-equal.true _ c.end.ensures

pub returns-else-equal : goal.returns-else-equal
returns-else-equal c =
    let text = c.args.text.now in
    let at = c.args.at in
    let rest = rest_behind text at c.get.result _ c.unwrap_or-rest.ensures refl c.get.ensures.lookup.0 in
    word-other text at c.args.word.now (front_same (drop at text) c.args.word.now _ rest c.min.ensures c.equal.ensures) c.if-equal.false
