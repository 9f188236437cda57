-- `pieces::taken` meets its contract: no more is taken than there is.
use Rattle.std.proofs.Common.{◌≡◌, ℕ, ◌∙◌, ap, min, length, take, arith}
use Rattle.std.proofs.lemmas.List.{take_min}
use Rattle.wire.specs.Printing.{most_input}
use Rattle.pieces.proofs.taken.Goals as goal

pub returns : goal.returns
returns c =
    let e : c.min.result ≡ min most_input (length c.args.input.now) = omega arith in
    ap (λ (k : ℕ). take k c.args.input.now) e ∙ take_min most_input c.args.input.now
