-- `frames::advanced` meets its contract.
use Rattle.std.proofs.Common.{◌+◌, ◌*◌, ◌/◌, ◌%◌, subst}
use Rattle.frames.specs.Frames.{written_in, places_in, Advanced}
use Rattle.frames.proofs.Frames.{next-kind, advanced_framed}
use Rattle.frames.proofs.advanced.Goals as goal

pub returns : goal.returns
returns c = λ near map within. let x = c.args.frame in
    subst (λ n. Advanced x (written_in x % 2 + 256 * (n + 1048576 * (written_in x / 2 + 256 * (places_in x / 2))))) (next-kind x near within) (advanced_framed x near)
