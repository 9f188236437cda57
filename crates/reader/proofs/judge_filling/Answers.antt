-- `reader::judge_filling` meets its contract.
use Rattle.std.proofs.lemmas.Result.{err_from_is_err_and}
use Rattle.reader.proofs.Files.{inputs-refused}
use Rattle.reader.proofs.judge_filling.Goals as goal

pub returns-in_err-load : goal.returns-in_err-load
returns-in_err-load c =
    let a = c.args in
    let p = err_from_is_err_and c.from_residual.result c.from_residual.ensures.1 in
    rw (p.1, p.2) (inputs-refused a.vocabulary.now a.pattern.now a.filling.now c.in_err-load.ensures.answer)
