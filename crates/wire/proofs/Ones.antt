-- Ones: how many bits of a number stand.
--
--   no_ones, some_ones    none of 0, and some of every other number
--   lowest_falls          one less where the lowest is taken off
--
use mathlib.Core.Path.{◌≡◌, ap, ap₂, ◌∙◌}
use Prim.Native.Nat.{ℕ, zero, suc, ◌+◌, ◌-◌, ◌*◌, ◌/◌, ◌%◌, ◌<◌, ◌≤◌, min}
use native.Mathlib.Decide.{ℕ_discrete}
use native.Mathlib.Omega.{arith}
use lib.Bits.{bit_and, and_step, and_self}
use lib.Count

pub no_ones : (m : ℕ) → m ≡ 0 → Count.ones m ≡ 0
no_ones m e = let none : Count.ones m ≤ 0 = Count.ones-le 0 m (omega arith) in omega arith

some_half : (m : ℕ) → ((m % 2 ≡ 1 → ⊥) → 0 < Count.ones (m / 2)) → 0 < Count.ones m
some_half m half = go (ℕ_discrete (m % 2) 1)
  where
    go : Dec (m % 2 ≡ 1) → 0 < Count.ones m
    go (yes odd) = omega (arith, Count.ones_step m)
    go (no even) = omega (arith, Count.ones_step m, half even)

some_below : (b m : ℕ) → m < b → (m ≡ 0 → ⊥) → 0 < Count.ones m
some_below zero m h d = absurd (omega arith)
some_below (suc b) m h d = some_half m (λ even. some_below b (m / 2) (omega arith) (λ e. d (omega arith)))

-- A map that is not 0 has places.
pub some_ones : (m : ℕ) → (m ≡ 0 → ⊥) → 0 < Count.ones m
some_ones m = some_below (suc m) m (omega arith)

twice-ones : (y : ℕ) → Count.ones (y * 2 + 0) ≡ Count.ones y
twice-ones y =
    let half : (y * 2 + 0) / 2 ≡ y = omega arith in
    let even : (y * 2 + 0) % 2 ≡ 0 = omega arith in
    omega (arith, Count.ones_step (y * 2 + 0), ap Count.ones half)

falls_below : (b m : ℕ) → m < b → 0 < m → Count.ones (bit_and m (m - 1)) + 1 ≡ Count.ones m
falls_below zero m h some = absurd (omega arith)
falls_below (suc b) m h some = go (ℕ_discrete (m % 2) 1) (falls_below b (m / 2) (omega arith))
  where
    go : Dec (m % 2 ≡ 1) → (0 < m / 2 → Count.ones (bit_and (m / 2) (m / 2 - 1)) + 1 ≡ Count.ones (m / 2)) → Count.ones (bit_and m (m - 1)) + 1 ≡ Count.ones m
    go (yes odd) ih =
        let half : (m - 1) / 2 ≡ m / 2 = omega arith in
        let low : min (m % 2) ((m - 1) % 2) ≡ 0 = omega arith in
        let same : bit_and m (m - 1) ≡ m / 2 * 2 + 0 = and_step m (m - 1) ∙ ap₂ (λ y r. y * 2 + r) (ap (bit_and (m / 2)) half ∙ and_self (m / 2)) low in
        omega (arith, ap Count.ones same, twice-ones (m / 2), Count.ones_step m)
    go (no even) ih =
        let half : (m - 1) / 2 ≡ m / 2 - 1 = omega arith in
        let low : min (m % 2) ((m - 1) % 2) ≡ 0 = omega arith in
        let same : bit_and m (m - 1) ≡ bit_and (m / 2) (m / 2 - 1) * 2 + 0 = and_step m (m - 1) ∙ ap₂ (λ y r. y * 2 + r) (ap (bit_and (m / 2)) half) low in
        omega (arith, ap Count.ones same, twice-ones (bit_and (m / 2) (m / 2 - 1)), ih (omega arith), Count.ones_step m)

-- Without its lowest bit a number has one bit less.
pub lowest_falls : (m : ℕ) → 0 < m → Count.ones (bit_and m (m - 1)) + 1 ≡ Count.ones m
lowest_falls m = falls_below (suc m) m (omega arith)
