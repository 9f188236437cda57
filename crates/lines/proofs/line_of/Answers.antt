-- `lines::line_of` meets its contract.
use Rattle.std.proofs.Common.{◌≡◌, ◌+◌, ◌-◌, length, drop, length-drop, ap, ◌∙◌, rules, tests, arith}
use Rattle.lines.specs.Lines.{line_of}
use Rattle.lines.proofs.Lines.{lines_nothing, lines_turn}
use Rattle.lines.proofs.Counting.{line-few}
use Rattle.lines.proofs.line_of.Goals as goal

pub returns-then-is_empty : goal.returns-then-is_empty
returns-then-is_empty c =
    let none : length c.loop-i.left.now ≡ 0 = search (rules, tests) in
    lines_nothing c.loop-i.left.now (c.args.number - c.loop-i._i) none ∙ c.loop-i.invariant.0

pub overflow_add-line_size : goal.overflow_add-line_size
overflow_add-line_size c =
    let few = c.loop-i.invariant.1 in
    omega (arith, line-few c.loop-i.left.now, c.line_size.ensures)

pub loop-i-preserved : goal.loop-i-preserved
loop-i-preserved c =
    let left = c.loop-i.left.now in
    let n = c.args.number in
    let i = c.loop-i._i in (
      ap (line_of (n - (i + 1))) (c.rest-left.ensures ∙ ap (λ k. drop (k + 1) left) c.line_size.ensures)
          ∙ lines_turn left i n c.loop-i-test.true
          ∙ c.loop-i.invariant.0,
      let few = c.loop-i.invariant.1 in
          omega (arith, ap length c.rest-left.ensures, length-drop (c.line_size.result + 1) left),
    )
