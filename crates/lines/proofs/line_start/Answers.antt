-- `lines::line_start` meets its contract.
use Rattle.std.proofs.Common.{rules, sym}
use Rattle.lines.proofs.Counting.{start_none, start_behind}
use Rattle.lines.proofs.line_start.Goals as goal

pub returns-in-Some : goal.returns-in-Some
returns-in-Some c = sym (start_behind c.args.text.now c.in-Some.end (search rules) (search rules) (search rules))

pub returns-in-None : goal.returns-in-None
returns-in-None c = sym (start_none c.args.text.now (search rules))
