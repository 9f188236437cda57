-- `reader::load_pattern` meets its contract.
use Rattle.std.proofs.lemmas.Result.{err_from_is_err_and}
use Rattle.reader.proofs.Loaded.{pattern-refused, pattern_loaded}
use Rattle.reader.proofs.load_pattern.Goals as goal

pub returns-in_err-read : goal.returns-in_err-read
returns-in_err-read c =
    let p = err_from_is_err_and c.from_residual-in_err-read.result c.from_residual-in_err-read.ensures.1 in
    rw (p.1, p.2) (pattern-refused c.load_settled.ensures _ _ c.in_ok-missing.was c.read.result c.read.ensures _ c.in_err-read.was)

pub returns : goal.returns
returns c = pattern_loaded c.load_settled.ensures _ _ c.in_ok-missing.was c.read.result c.read.ensures _ c.in_ok-read.was
