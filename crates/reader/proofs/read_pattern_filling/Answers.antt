-- `reader::read_pattern_filling` meets its contract.
use Rattle.std.proofs.lemmas.Result.{err_from_is_err_and}
use Rattle.signature.specs.Tables.{vocabulary_in}
use Rattle.reader.proofs.Files.{pattern-refused, pattern-read}
use Rattle.reader.proofs.read_pattern_filling.Goals as goal

pub returns-in_err-x : goal.returns-in_err-x
returns-in_err-x c =
    let a = c.args in
    let p = err_from_is_err_and c.from_residual.result c.from_residual.ensures.1 in
    rw (p.1, p.2) (pattern-refused (vocabulary_in a.w.v.now) a.pattern.now a.filling.now c.in_err-x.ensures.told)

pub returns : goal.returns
returns c =
    let a = c.args in
    pattern-read a.w.v.now a.pattern.now a.filling.now c.in_ok-x.ensures.told c.in_ok-x.ensures.table c.read_file.ensures
