-- Lowest: the lowest bit at which two bytes differ is the lowest that stands in what tells them apart, bit by bit.
--
--   bit_flag      bit n of a byte, as the logic's library has it
--   apart_some    two different numbers have a bit in which they differ
--   bits_apart, bits_same    two bits are different or the same, by the bit between them
--   lowest_bit    the lowest of them
--
use mathlib.Core.Path.{◌≡◌, sym, ap, ◌∙◌}
use mathlib.Core.Bool.{false}
use mathlib.Core.Logic.{inl, inr}
use Prim.Native.Nat.{ℕ, zero, suc, ◌+◌, ◌%◌, ◌/◌, ◌<◌}
use native.Mathlib.Omega.{arith}
use lib.Dec.{eqb}
use lib.ListN.{get_or}
use borrow.Author.Rules.{rules}
use Rattle.std.proofs.Math.Nat.{eq-zero-or-pos}
use Rattle.std.specs.Int.Width.{w8}
use Rattle.std.specs.Int.{bit_at, trailing_zeros}
use Rattle.std.specs.Int.Bits.{bit_xor, xor_assoc, xor_self, xor_zero_l, xor_zero_r}
use Rattle.std.proofs.lemmas.Nat.{xor_lt}
use Rattle.std.proofs.lemmas.Nat.Bits.{bit_at_xor, bit_at-lt, bit_at_lowest, bit_at-suc, bit_at-trailing_zeros}
use Rattle.wire.specs.Map.{flags_in}
use Rattle.namemaps.specs.Difference.{bit_in, LowestApart}

bit_flag : (d n m : ℕ) → n < d → get_or (flags_in d m) n false ≡ eqb (bit_at m n) 1
bit_flag zero n m h = absurd (omega arith)
bit_flag (suc d) zero m h = ap (λ k. eqb k 1) (sym (bit_at_lowest m))
bit_flag (suc d) (suc n) m h = bit_flag d n (m / 2) (omega arith) ∙ ap (λ k. eqb k 1) (sym (bit_at-suc m n))

apart_some : (a b : ℕ) → (a ≡ b → ⊥) → 0 < bit_xor a b
apart_some a b h = elim (eq-zero-or-pos (bit_xor a b)) [
  | inl e ↦ absurd (h (sym (xor_zero_r a) ∙ ap (bit_xor a) (sym (xor_self b)) ∙ sym (xor_assoc a b b) ∙ ap (λ x. bit_xor x b) e ∙ xor_zero_l b))
  | inr p ↦ p
]

-- Two bits are the same exactly where their sum is even.
module _ (a b i : ℕ) (small : i < 8) where
  pub bits_apart : bit_at (bit_xor a b) i ≡ 1 → bit_in a i ≡ bit_in b i → ⊥
  bits_apart e same =
      let one : (bit_at a i + bit_at b i) % 2 ≡ 1 = sym (bit_at_xor a b i) ∙ e in
      let flags : eqb (bit_at a i) 1 ≡ eqb (bit_at b i) 1 = sym (bit_flag 8 i a small) ∙ same ∙ bit_flag 8 i b small in
      apart (bit_at a i) (bit_at b i) (bit_at-lt a i) (bit_at-lt b i) one flags
    where
      apart : (x y : ℕ) → x < 2 → y < 2 → (x + y) % 2 ≡ 1 → eqb x 1 ≡ eqb y 1 → ⊥
      apart zero zero h k e f = omega arith
      apart zero (suc zero) h k e f = search rules
      apart (suc zero) zero h k e f = search rules
      apart (suc zero) (suc zero) h k e f = omega arith
      apart (suc (suc x)) y h k e f = omega arith
      apart zero (suc (suc y)) h k e f = omega arith
      apart (suc zero) (suc (suc y)) h k e f = omega arith

  pub bits_same : bit_at (bit_xor a b) i ≡ 0 → bit_in a i ≡ bit_in b i
  bits_same e =
      let none : (bit_at a i + bit_at b i) % 2 ≡ 0 = sym (bit_at_xor a b i) ∙ e in
      let x = bit_at-lt a i in
      let y = bit_at-lt b i in
      let same : bit_at a i ≡ bit_at b i = omega (arith, none, x, y) in
      bit_flag 8 i a small ∙ ap (λ k. eqb k 1) same ∙ sym (bit_flag 8 i b small)

pub lowest_bit : (a b : ℕ) → a < 256 → b < 256 → (a ≡ b → ⊥) → LowestApart a b (trailing_zeros w8 (bit_xor a b))
lowest_bit a b p q h =
    let t = bit_at-trailing_zeros w8 (bit_xor a b) (apart_some a b h) (xor_lt 8 a b p q) in
    record {
      below = t.0;
      differ = bits_apart a b (trailing_zeros w8 (bit_xor a b)) t.0 t.1;
      lower = λ j k. bits_same a b j (omega (arith, t.0, k)) (t.2 j k);
    }
