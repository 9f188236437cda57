-- `lines::line_size` meets its contract.
use Rattle.std.proofs.Common.{eqb, rules, sym, ◌∙◌, tests}
use Rattle.std.proofs.lemmas.Iterator.{YieldsList-from_slice}
use Rattle.std.proofs.lemmas.Iterator.Search.{position_from_yields_List}
use Rattle.lexer.proofs.Places.{place_or_all}
use Rattle.lines.proofs.Counting.{line_place}
use Rattle.lines.proofs.line_size.Goals as goal

pub returns : goal.returns
returns c =
    let text = c.args.text.now in
    let found = position_from_yields_List (λ b. eqb b 10) _ _ c.position.result c.position.ensures.ran (YieldsList-from_slice text cc) (λ x b q k. search (rules, tests)) in
    c.unwrap_or.ensures ∙ place_or_all (λ b. eqb b 10) text c.position.result found ∙ sym (line_place text)
