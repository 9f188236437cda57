-- `lexer::find` meets its contract.
use Rattle.std.proofs.Common.{rules, map, sym, ap, ap₂, ◌∙◌, tests, take}
use Rattle.std.proofs.lemmas.Iterator.{YieldsList-from_slice}
use Rattle.std.proofs.lemmas.Iterator.Search.{position_from_yields_List}
use Rattle.std.proofs.lemmas.List.{take_min}
use Rattle.texts.specs.Lexemes.{token_at}
use Rattle.texts.specs.Names.{same, index_in}
use Rattle.lexer.proofs.Places.{place_or_all, index_place}
use Rattle.lexer.proofs.find.Goals as goal

pub returns : goal.returns
returns c =
    let text = c.args.text.now in
    let word = c.token-word.result.now in
    let table = c.args.table.now in
    let names = take c.min.result table in
    let found = position_from_yields_List (λ i. same (token_at text i) word) _ _ c.position.result c.position.ensures.ran (YieldsList-from_slice names cc) (λ x b q k. search (rules, tests)) in
    c.unwrap_or.ensures
    ∙ place_or_all (λ i. same (token_at text i) word) names c.position.result found
    ∙ sym (index_place text word names)
    ∙ ap₂ (λ w l. index_in w (map (token_at text) l)) c.token-word.ensures (ap (λ n. take n table) c.min.ensures ∙ take_min c.args.n table)
