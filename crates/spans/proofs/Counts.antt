-- Counts: the bits of four maps that stand, counted in one number.
--
--   ones_four     as many as stand in each
--   four_few      at most 32
--
use mathlib.Core.Path.{◌≡◌, ap, ◌∙◌}
use Prim.Native.Nat.{ℕ, ◌+◌, ◌*◌, ◌^◌, ◌<◌, ◌≤◌}
use native.Mathlib.Omega.{arith}
use lib.Count.{ones, ones_cat, ones-le}

ones_two : (k a b : ℕ) → a < 2 ^ k → ones (a + 2 ^ k * b) ≡ ones a + ones b
ones_two k a b h =
    ap ones (let e : a + 2 ^ k * b ≡ b * 2 ^ k + a = omega arith in e)
    ∙ ones_cat k b a h
    ∙ (let e : ones b + ones a ≡ ones a + ones b = omega arith in e)

module _ (a b c d : ℕ) (la : a < 256) (lb : b < 256) (lc : c < 256) where
  pub ones_four : ones (a + 256 * b + 65536 * (c + 256 * d)) ≡ ones a + ones b + ones c + ones d
  ones_four =
      let high = ones_two 16 (a + 256 * b) (c + 256 * d) (omega arith) in
      let first = ones_two 8 a b la in
      let second = ones_two 8 c d lc in
      omega arith

  pub four_few : d < 256 → ones (a + 256 * b + 65536 * (c + 256 * d)) ≤ 32
  four_few ld = omega (arith, ones_four, ones-le 8 a la, ones-le 8 b lb, ones-le 8 c lc, ones-le 8 d ld)
