-- `complement::write_entry` meets its contract.
use native.Mathlib.Omega.{arith}
use lib.ListN.{take}
use lib.Seq.{length-take-le}
use Rattle.complement.proofs.Writing.{entry-written}
use Rattle.complement.proofs.write_entry.Goals as goal

pub returns : goal.returns
returns c =
    let n = c.args.n in
    let copy = c.args.copy.now in
    entry-written (take n copy) c.args.out.now n c.args.word (length-take-le n copy (omega arith)) (omega arith) c.copy.ensures
