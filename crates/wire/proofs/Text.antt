-- Text: the laws of numbers as text.
--
--   digit-below               a digit below 10
--   decimal-one, decimal-more the digits of a number below 10, and of one that is not
--   decimal_is_exact          the digits of a number stand for it, with no needless zero in front
--   decimal-short             how many digits a number has at most
--   hexadecimal-length        two digits a byte
--
use mathlib.Core.Path.{◌≡◌, refl, sym, ap, ◌∙◌, subst}
use mathlib.Core.Bool.{Bool, true, false, true≢false, false≢true}
use mathlib.Core.List.{List, [], ◌∷◌, ◌++◌}
use mathlib.Core.Logic.{◌⊎◌, inl, inr}
use Prim.Native.Nat.{ℕ, zero, suc, ◌+◌, ◌*◌, ◌-◌, ◌/◌, ◌%◌, ◌^◌, ◌<◌, ◌≤◌}
use native.Mathlib.Nat.{pow-suc}
use native.Mathlib.Omega.{arith}
use lib.Dec.{ltb}
use lib.ListN.{length, get_or, length-append}
use borrow.Author.Tests.{ltb-true, ltb-false, lt-ltb, le-ltb}
use Rattle.terms.specs.Lists.{All}
use Rattle.terms.proofs.All.{all_append}
use Rattle.wire.specs.Text.{digit, decimal_in, decimal, hexadecimal}
use Rattle.wire.specs.Laws.{value_from, value, DecimalIsExact}
use Rattle.wire.proofs.Cond.{cond_true}

pub digit-below : (d : ℕ) → d < 10 → digit d ≡ 48 + d
digit-below d h = cond_true (ltb d 10) _ _ (lt-ltb d 10 h)

digits_by : ℕ → ℕ → Bool → List ℕ
digits_by most n t = elim t [ true ↦ digit n ∷ [] | false ↦ decimal_in most (n / 10) ++ (digit (n % 10) ∷ []) ]

pub decimal-one : (most n : ℕ) → n < 10 → decimal_in (suc most) n ≡ digit n ∷ []
unfolding digits_by
decimal-one most n h = go (ltb n 10) (lt-ltb n 10 h)
  where
    go : (t : Bool) → t ≡ true → digits_by most n t ≡ digit n ∷ []
    go true e = refl
    go false e = absurd (false≢true e)

pub decimal-more : (most n : ℕ) → 10 ≤ n → decimal_in (suc most) n ≡ decimal_in most (n / 10) ++ (digit (n % 10) ∷ [])
unfolding digits_by
decimal-more most n h = go (ltb n 10) (le-ltb n 10 h)
  where
    go : (t : Bool) → t ≡ false → digits_by most n t ≡ decimal_in most (n / 10) ++ (digit (n % 10) ∷ [])
    go true e = absurd (true≢false e)
    go false e = refl

-- What holds of numbers below 10, and of every other where it holds of its tenth, holds of all.
pub by_digits : (P : ℕ → ℕ → Type 0) → ((most n : ℕ) → n < 10 → P (suc most) n) →
    ((most n : ℕ) → 10 ≤ n → P most (n / 10) → P (suc most) n) → (most n : ℕ) → n < most → P most n
by_digits P one more zero n h = absurd (omega arith)
by_digits P one more (suc most) n h = go (ltb n 10) refl (λ k. by_digits P one more most (n / 10) k)
  where
    go : (t : Bool) → ltb n 10 ≡ t → (n / 10 < most → P most (n / 10)) → P (suc most) n
    go true e tenth = one most n (ltb-true n 10 e)
    go false e tenth = let k = ltb-false n 10 e in more most n k (tenth (omega arith))

-- ---- the digits of a number stand for it

value-more : (l : List ℕ) (c n : ℕ) → value_from n (l ++ (c ∷ [])) ≡ 10 * value_from n l + (c - 48)
value-more [] c n = refl
value-more (b ∷ l) c n = value-more l c (10 * n + (b - 48))

value_is : (most n : ℕ) → n < most → value (decimal_in most n) ≡ n
value_is =
    by_digits (λ most n. value (decimal_in most n) ≡ n)
    (λ most n h. ap value (decimal-one most n h) ∙ omega (arith, digit-below n h))
    (λ most n h tenth.
    let d : n % 10 < 10 = omega arith in
    ap value (decimal-more most n h)
    ∙ value-more (decimal_in most (n / 10)) (digit (n % 10)) 0
    ∙ omega (arith, digit-below (n % 10) d))

first_more : (l r : List ℕ) (n : ℕ) → suc n ≤ get_or l 0 0 → suc n ≤ get_or (l ++ r) 0 0
first_more [] r n h = absurd (omega arith)
first_more (c ∷ l) r n h = h

first_is : (most n : ℕ) → n < most → 1 ≤ n → 49 ≤ get_or (decimal_in most n) 0 0
first_is =
    by_digits (λ most n. 1 ≤ n → 49 ≤ get_or (decimal_in most n) 0 0)
    (λ most n h k. subst (λ (l : List ℕ). 49 ≤ get_or l 0 0) (sym (decimal-one most n h)) (omega (arith, digit-below n h)))
    (λ most n h tenth k.
    subst (λ (l : List ℕ). 49 ≤ get_or l 0 0) (sym (decimal-more most n h))
    (first_more (decimal_in most (n / 10)) (digit (n % 10) ∷ []) 48 (tenth (omega arith))))

abbrev IsDigit : ℕ → Type 0
IsDigit c = (48 ≤ c) × (c ≤ 57)

digit_is : (d : ℕ) → d < 10 → IsDigit (digit d)
digit_is d h = (omega (arith, digit-below d h), omega (arith, digit-below d h))

all_digits : (most n : ℕ) → n < most → All IsDigit (decimal_in most n)
all_digits =
    by_digits (λ most n. All IsDigit (decimal_in most n))
    (λ most n h. subst (All IsDigit) (sym (decimal-one most n h)) (digit_is n h, tt))
    (λ most n h tenth.
    subst (All IsDigit) (sym (decimal-more most n h))
    (all_append IsDigit (decimal_in most (n / 10)) (digit (n % 10) ∷ []) tenth (digit_is (n % 10) (omega arith), tt)))

-- 0 is one digit; every other number begins with another.
front_is : (n : ℕ) → (length (decimal n) ≡ 1) ⊎ (49 ≤ get_or (decimal n) 0 0)
front_is zero = inl refl
front_is (suc n) = inr (first_is (suc (suc n)) (suc n) (omega arith) (omega arith))

pub decimal_is_exact : DecimalIsExact
decimal_is_exact n = (value_is (suc n) n (omega arith), all_digits (suc n) n (omega arith), front_is n)

-- ---- how long the texts are

pub decimal-short : (k n : ℕ) → n < 10 ^ suc k → length (decimal n) ≤ suc k
decimal-short k n =
    by_digits (λ most n. (k : ℕ) → n < 10 ^ suc k → length (decimal_in most n) ≤ suc k)
    (λ most n h k low. omega (arith, ap length (decimal-one most n h)))
    (λ most n h tenth k low. go most n h tenth k low)
    (suc n) n (omega arith) k
  where
    go : (most n : ℕ) → 10 ≤ n → ((k : ℕ) → n / 10 < 10 ^ suc k → length (decimal_in most (n / 10)) ≤ suc k) → (k : ℕ) → n < 10 ^ suc k →
        length (decimal_in (suc most) n) ≤ suc k
    go most n h tenth zero low = absurd (omega arith)
    go most n h tenth (suc k) low =
        let t = tenth k (omega (arith, pow-suc 10 (suc k))) in
        omega (arith, ap length (decimal-more most n h), length-append (decimal_in most (n / 10)) (digit (n % 10) ∷ []))

pub hexadecimal-length : (l : List ℕ) → length (hexadecimal l) ≡ 2 * length l
hexadecimal-length [] = refl
hexadecimal-length (b ∷ l) = let h = hexadecimal-length l in omega arith
