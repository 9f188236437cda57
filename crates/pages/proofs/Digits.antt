-- Digits: the digits that `io::decimal` puts are those of the definition.
--
--   decimal_digits      the fewest digits that hold a number are its decimal
--   number_is           the front of the buffer that they are put in is the number
--
use mathlib.Core.Path.{◌≡◌, sym, ap, ap₂, subst, ◌∙◌}
use mathlib.Core.List.{List, [], ◌∷◌, ◌++◌}
use Prim.Native.Nat.{ℕ, zero, suc, ◌-◌, ◌/◌, ◌%◌, ◌^◌, ◌<◌, ◌≤◌}
use native.Mathlib.Nat.{pow-suc, one-le-pow}
use native.Mathlib.Omega.{arith}
use lib.Dec.{ltb}
use lib.ListN.{take}
use borrow.Author.Tests.{lt-ltb}
use Rattle.io.specs.Digits.{hex_digit_ascii, last_digits, IsDigitCount}
use Rattle.wire.specs.Text.{digit, decimal_in, decimal}
use Rattle.wire.proofs.Cond.{cond_true}
use Rattle.wire.proofs.Text.{digit-below, decimal-one, decimal-more, by_digits}

glyph_digit : (d : ℕ) → d < 10 → hex_digit_ascii d ≡ digit d
glyph_digit d h = cond_true (ltb d 10) _ _ (lt-ltb d 10 h) ∙ sym (digit-below d h)

-- k + 1 digits are the fewest that hold n.
record Holds (n k : ℕ) : Type 0 where
  low : n < 10 ^ suc k
  high : 1 ≤ k → 10 ^ k ≤ n

spelled : (most n : ℕ) → n < most → (k : ℕ) → Holds n k → last_digits 10 (suc k) n ≡ decimal_in most n
spelled = by_digits (λ most n. (k : ℕ) → Holds n k → last_digits 10 (suc k) n ≡ decimal_in most n) one more
  where
    one : (most n : ℕ) → n < 10 → (k : ℕ) → Holds n k → last_digits 10 (suc k) n ≡ decimal_in (suc most) n
    one most n h zero f =
        ap (λ (d : ℕ). hex_digit_ascii d ∷ []) (let e : n % 10 ≡ n = omega arith in e)
        ∙ ap {B = List ℕ} (λ d. d ∷ []) (glyph_digit n h) ∙ sym (decimal-one most n h)
    one most n h (suc k) f = absurd (omega (arith, f.high (omega arith), pow-suc 10 k, one-le-pow k 10 (omega arith)))

    more : (most n : ℕ) → 10 ≤ n → ((k : ℕ) → Holds (n / 10) k → last_digits 10 (suc k) (n / 10) ≡ decimal_in most (n / 10)) →
        (k : ℕ) → Holds n k → last_digits 10 (suc k) n ≡ decimal_in (suc most) n
    more most n h tenth zero f = let l = f.low in absurd (omega arith)
    more most n h tenth (suc k) f =
        ap₂ (λ (l : List ℕ) (d : ℕ). l ++ (d ∷ []))
        (tenth k (record {
          low = let l = f.low in omega (arith, pow-suc 10 (suc k));
          high = λ s. let g = f.high (omega arith) in omega (arith, pow-suc 10 k);
        }))
        (glyph_digit (n % 10) (omega arith))
        ∙ sym (decimal-more most n h)

pub decimal_digits : (n k : ℕ) → IsDigitCount 10 1 n k → last_digits 10 k n ≡ decimal n
decimal_digits n zero f = absurd (omega (arith, f.0))
decimal_digits n (suc k) f =
    spelled (suc n) n (omega arith) k
    (record { low = f.1; high = λ s. subst (λ (j : ℕ). 10 ^ j ≤ n) (let e : suc k - 1 ≡ k = omega arith in e) (f.2 (omega arith)) })

pub number_is : (n k : ℕ) (l : List ℕ) → IsDigitCount 10 1 n k → take k l ≡ last_digits 10 k n → take k l ≡ decimal n
number_is n k l few spelled = spelled ∙ decimal_digits n k few
