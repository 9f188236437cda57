use Rattle.std.proofs.Common.{rules, sym, subst}
use Rattle.std.specs.Io.KnownBytes.{Consumes}
use Rattle.std.proofs.KnownBytes.{Consumes-trans}
use Rattle.intake.proofs.Filling.{front_grows}
use Rattle.intake.proofs.take.Goals as goal

pub loop-n-preserved : goal.loop-n-preserved
loop-n-preserved g c =
    let grown = front_grows c.loop-n.n _ c.in_ok-more.more c.loop-n.buffer c.read.new.buf c.loop-n.invariant.0 c.in_ok-more.ensures.bound.0 in
    let both = Consumes-trans _ _ _ _ _ c.loop-n.invariant.2 c.in_ok-more.ensures.bytes.0 in
    (search rules, search rules, subst (Consumes _ _) (sym grown) both)
