-- `frames::passed` meets its contract.
use Rattle.std.proofs.Common.{◌+◌, ◌%◌, ◌^◌, sym, ap, ◌∙◌, subst}
use lib.Bits.{bit_and}
use Rattle.frames.specs.Frames.{Behind}
use Rattle.frames.proofs.Frames.{passed_framed, before-fits, passed-fits}
use Rattle.frames.proofs.passed.Goals as goal

pub returns : goal.returns
returns c = λ some near map.
    let x = c.args.frame in
    let made = ap (λ y. (bit_and x y + 256) % 2 ^ 64) (before-fits x some c.ranges.frame.fits) ∙ passed-fits x map in
    subst (Behind x) (sym made) (passed_framed x some near)
