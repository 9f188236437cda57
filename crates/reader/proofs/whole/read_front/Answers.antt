-- `reader::whole::read_front` meets its contract.
use native.Mathlib.Omega.{arith}
use Rattle.reader.proofs.Tables.{kind-count}
use Rattle.reader.proofs.Told.{front_read}
use Rattle.reader.proofs.whole.read_front.Goals as goal

pub returns : goal.returns
returns c = let a = c.args in
    let kinds = kind-count c.args.w.tables c.args.w.bytes in
    front_read a.w.v.now a.t.now c.read_term.new.names c.read_term.result c.if-t-lt2.false c.if-t-gt4096.false (omega (arith, kinds, c.if-w-kind.false)) c.requires c.read_term.ensures
