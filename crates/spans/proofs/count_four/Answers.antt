-- `spans::count_four` meets its contract.
use mathlib.Core.Path.{◌≡◌}
use Prim.Native.Nat.{◌+◌, ◌*◌}
use native.Mathlib.Omega.{arith}
use Rattle.spans.proofs.Counts.{ones_four, four_few}
use Rattle.spans.proofs.count_four.Goals as goal

pub returns : goal.returns
returns c =
    let joined : c.from_le_bytes.result ≡ c.args.a + 256 * c.args.b + 65536 * (c.args.c + 256 * c.args.d) = omega arith in
    rw joined (
      ones_four c.args.a c.args.b c.args.c c.args.d (omega arith) (omega arith) (omega arith),
      four_few c.args.a c.args.b c.args.c c.args.d (omega arith) (omega arith) (omega arith) (omega arith),
    )
