-- `lexer::end` meets its contract: a run lies in the text.
use Rattle.std.proofs.Common.{◌+◌, drop, arith, length-drop}
use Rattle.std.proofs.lemmas.Grind.{common_steps}
use Rattle.texts.proofs.Scanning.{run-within}
use Rattle.lexer.proofs.end.Goals as goal

pub overflow_add-result-in-Some : goal.overflow_add-result-in-Some
overflow_add-result-in-Some c =
    let e = c.run_size.ensures in
    let few = run-within (drop (c.args.at + 1) c.args.text.now) in
    let long = length-drop (c.args.at + 1) c.args.text.now in
    grind (arith, common_steps)
