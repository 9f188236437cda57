-- `lines::line_number` meets its contract.
use Rattle.std.proofs.Common.{◌≡◌, eqb, count_by, rules, arith}
use Rattle.lines.proofs.Counting.{newlines_count}
use Rattle.lines.proofs.line_number.Goals as goal

pub returns : goal.returns
returns c =
    let counted : c.count.result ≡ count_by (λ b. eqb b 10) c.args.before.now = search rules in
    omega (arith, newlines_count c.args.before.now)
