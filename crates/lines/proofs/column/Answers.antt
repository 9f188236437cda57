-- `lines::column` meets its contract.
use Rattle.std.proofs.Common.{arith}
use Rattle.lines.proofs.Counting.{columns-few}
use Rattle.lines.proofs.column.Goals as goal

pub overflow_add-result : goal.overflow_add-result
overflow_add-result c = omega (arith, columns-few c.args.last.now, c.count_columns.ensures)
