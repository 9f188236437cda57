-- `lines::count_columns` meets its contract.
use Rattle.std.proofs.Common.{rules}
use Rattle.lines.proofs.Counting.{columns_count}
use Rattle.lines.proofs.count_columns.Goals as goal

pub returns : goal.returns
returns c = search (rules, columns_count)
