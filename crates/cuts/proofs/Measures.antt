-- Measures: what falls along the calls of the walk and at each turn of its loop, and a product that fits.
use mathlib.Core.Path.{◌≡◌}
use Prim.Native.Nat.{ℕ, ◌+◌, ◌-◌, ◌*◌, ◌/◌, ◌<◌, ◌≤◌}
use native.Mathlib.Nat.{mul-le-mul}
use native.Mathlib.Omega.{arith}

-- From a place to a word there.
pub node_falls : (left : ℕ) {t : ℕ} → 3 * left + 1 ≡ t → 3 * left < t
node_falls left e = omega arith

-- From a word to its places.
pub places_falls : (left : ℕ) {t : ℕ} → 3 * left ≡ t → 1 ≤ left → 3 * (left - 1) + 2 < t
places_falls left h l = omega arith

-- From the places to the next one.
pub place_falls : (left : ℕ) {t : ℕ} → 3 * left + 2 ≡ t → 3 * left + 1 < t
place_falls left h = omega arith

-- From a place to those above it.
pub above_falls : (e p : ℕ) → (e + p ≡ 0 → ⊥) → e / 2 + p / 2 < e + p
above_falls e p s = omega arith

-- The places above a bit, as a map's number.
pub product_small : (e bit : ℕ) → e < 256 → bit ≤ 256 → e / 2 * (2 * bit) ≤ 128 * 512
product_small e bit h k = mul-le-mul (let i : e / 2 ≤ 128 = omega arith in i) (let i : 2 * bit ≤ 512 = omega arith in i)
