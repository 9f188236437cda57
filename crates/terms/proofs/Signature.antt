-- Signature: what a well-formed signature says of a symbol of its own.
use Prim.Native.Nat.{ℕ, ◌<◌}
use lib.ListN.{length}
use Rattle.terms.specs.Lists.{All}
use Rattle.terms.specs.Signature.{Signature, no_symbol, result, arguments, WellFormed}
use Rattle.terms.proofs.All.{all-at}

pub symbol-sorts : (S : Signature) → WellFormed S → (f : ℕ) → f < length S.symbols →
    (result S f < S.sorts) × All (λ k. k < S.sorts) (arguments S f)
symbol-sorts S wf = all-at _ no_symbol S.symbols wf
