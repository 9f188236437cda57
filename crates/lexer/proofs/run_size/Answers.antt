-- `lexer::run_size` meets its contract.
use Rattle.std.proofs.Common.{not, rules, sym, ◌∙◌, tests}
use Rattle.std.proofs.lemmas.Iterator.{YieldsList-from_slice}
use Rattle.std.proofs.lemmas.Iterator.Search.{position_from_yields_List}
use Rattle.texts.specs.Lexemes.{is_name_byte}
use Rattle.lexer.proofs.Places.{place_or_all, run_place}
use Rattle.lexer.proofs.run_size.Goals as goal

pub returns : goal.returns
returns c =
    let text = c.args.text.now in
    let found = position_from_yields_List (λ b. not (is_name_byte b)) _ _ c.position.result c.position.ensures.ran (YieldsList-from_slice text cc) (λ x b q k. search (rules, tests)) in
    c.unwrap_or.ensures ∙ place_or_all (λ b. not (is_name_byte b)) text c.position.result found ∙ sym (run_place text)
