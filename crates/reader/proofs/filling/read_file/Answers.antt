-- `reader::filling::read_file` meets its contract.
use Rattle.reader.proofs.Files.{file_differs, file_values}
use Rattle.reader.proofs.filling.read_file.Goals as goal

pub returns-then-n-lt64 : goal.returns-then-n-lt64
returns-then-n-lt64 c = λ s t x. file_differs c.if-b-lt8.false x c.first_difference-n.ensures c.if-n-lt64.true

pub returns : goal.returns
returns c = λ s t x. file_values c.args.w.v.now c.if-b-lt8.false x c.first_difference-n.ensures c.if-n-lt64.false c.read_values.ensures
