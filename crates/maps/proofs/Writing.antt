-- Writing: a map is put as the byte at its offset.
use mathlib.Core.Path.{◌≡◌, sym, ap, ◌∙◌}
use mathlib.Core.List.{List, ◌∷◌, ◌++◌}
use Prim.Native.Nat.{ℕ, ◌+◌}
use native.Mathlib.Numerals.{add-one}
use native.Mathlib.Omega.{arith}
use lib.Dec.{leb}
use lib.ListN.{length, take, drop, set}
use lib.Seq.{set_split, set_out}
use borrow.Author.Tests.{leb-true, leb-false}
use Rattle.wire.specs.Map.{map_bytes}
use Rattle.wire.proofs.Cond.{choice}
use Rattle.maps.specs.Writing.{map_put}

pub map-set : (l : List ℕ) (at m : ℕ) → set l at m ≡ map_put m l at
map-set l at m =
    choice (λ r. set l at m ≡ r) (leb (at + map_bytes) (length l)) _ _
    (λ e.
    set_split l at m (omega (arith, leb-true (at + map_bytes) (length l) e))
    ∙ ap (λ i. take at l ++ (m ∷ drop i l)) (sym (add-one at)))
    (λ e. set_out l at m (omega (arith, leb-false (at + map_bytes) (length l) e)))
