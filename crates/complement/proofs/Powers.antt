-- Powers: the lower bits of a map, as a remainder by a power of two that is shifted into place.
use mathlib.Core.Path.{◌≡◌, sym, ap₂, ◌∙◌, subst}
use Prim.Native.Nat.{ℕ, suc, ◌*◌, ◌%◌, ◌^◌, ◌<◌, ◌≤◌}
use native.Mathlib.Nat.{pow-succ', pow-le-pow_right, mod-le, mod-eq_of_lt}
use native.Mathlib.Omega.{arith}
use lib.Pow.{pow_pos}

power_small : (b : ℕ) → b < 8 → 2 ^ b ≤ 128
power_small b h = pow-le-pow_right {n = 2} (let e : 0 < 2 = omega arith in e) {i = b} {j = 7} (let e : b ≤ 7 = omega arith in e)

pub power_shifted : (b : ℕ) → b < 8 → 2 * 2 ^ b % 18446744073709551616 ≡ 2 ^ suc b
power_shifted b h =
    mod-eq_of_lt (let e : 2 * 2 ^ b < 18446744073709551616 = omega (arith, power_small b h) in e) ∙ sym (pow-succ' 2 b)

pub power_positive : (b : ℕ) → b < 8 → 0 < 2 * 2 ^ b % 18446744073709551616
power_positive b h = subst (λ (n : ℕ). 0 < n) (sym (power_shifted b h)) (pow_pos (suc b))

pub kept_byte : (m n b : ℕ) → m ≡ n → n < 256 → m % (2 * 2 ^ b % 18446744073709551616) < 256
kept_byte m n b e h = omega (arith, mod-le m (2 * 2 ^ b % 18446744073709551616))

pub kept_is : (m n b : ℕ) → m ≡ n → b < 8 → m % (2 * 2 ^ b % 18446744073709551616) ≡ n % 2 ^ suc b
kept_is m n b e h = ap₂ (λ (k l : ℕ). k % l) e (power_shifted b h)
