-- Reading: a map is the byte at its offset.
use mathlib.Core.Path.{◌≡◌, refl}
use mathlib.Core.List.{List, [], ◌∷◌}
use Prim.Native.Nat.{ℕ, zero, suc}
use lib.ListN.{get_or}
use Rattle.maps.specs.Reading.{map_at}

pub map_at_lem : (l : List ℕ) (at : ℕ) → get_or l at 0 ≡ map_at l at
map_at_lem [] zero = refl
map_at_lem [] (suc n) = refl
map_at_lem (b ∷ l) zero = refl
map_at_lem (b ∷ l) (suc n) = map_at_lem l n
