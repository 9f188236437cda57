-- Bits: a map is gone through from its lowest bit, as long as a bit stands.
--
--   some_left      where a bit stands, bits are left
--   first_bit      the lowest bit, and the bits behind it
--   fewer_bits     the bits behind it
--   half_less      what is left of a map falls
--   level_falls    the levels left fall
--
use mathlib.Core.Path.{◌≡◌, ap}
use mathlib.Core.List.{◌∷◌}
use Prim.Native.Nat.{ℕ, zero, suc, ◌-◌, ◌/◌, ◌%◌, ◌^◌, ◌<◌}
use native.Mathlib.Nat.{pow-suc}
use native.Mathlib.Omega.{arith}
use lib.Dec.{eqb}
use Rattle.wire.specs.Map.{flags_in}

pub some_left : (k m : ℕ) → m < 2 ^ k → 0 < m → 0 < k
some_left zero m small h = absurd (omega arith)
some_left (suc k) m small h = omega arith

pub first_bit : (k m : ℕ) → 0 < k → flags_in k m ≡ eqb (m % 2) 1 ∷ flags_in (k - 1) (m / 2)
first_bit zero m h = absurd (omega arith)
first_bit (suc k) m h = ap (λ i. eqb (m % 2) 1 ∷ flags_in i (m / 2)) (let e : k ≡ suc k - 1 = omega arith in e)

pub fewer_bits : (k m : ℕ) → m < 2 ^ k → 0 < k → m / 2 < 2 ^ (k - 1)
fewer_bits zero m small h = absurd (omega arith)
fewer_bits (suc k) m small h =
    let e : 2 ^ (suc k - 1) ≡ 2 ^ k = ap (λ i. 2 ^ i) (let z : suc k - 1 ≡ k = omega arith in z) in
    omega (arith, pow-suc 2 k)

pub half_less : (m : ℕ) → (m ≡ 0 → ⊥) → m / 2 < m
half_less m h = omega arith

pub level_falls : (left : ℕ) {t : ℕ} → left ≡ t → (left ≡ 0 → ⊥) → left - 1 < t
level_falls left e h = omega arith
