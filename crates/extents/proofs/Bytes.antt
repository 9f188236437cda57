-- Bytes: what stands at an offset.
--
--   missing, standing     a byte that is missing, and one that stands there
--   word-inside           a word's byte is not missing
--
use mathlib.Core.Path.{◌≡◌, refl, sym}
use mathlib.Core.Bool.{Bool, true, false}
use mathlib.Core.List.{List, [], ◌∷◌}
use Prim.Native.Nat.{ℕ, zero, suc, ◌<◌, ◌≤◌}
use native.Mathlib.Omega.{arith}
use lib.Dec.{ltb}
use lib.ListN.{length, get_or, get_or-eq_default}
use borrow.Author.Tests.{ltb-true, ltb-false}
use Rattle.extents.specs.Bytes.{missing_byte, term_byte}

pub missing : (l : List ℕ) (i : ℕ) → length l ≤ i → missing_byte ≡ term_byte l i
missing l i h = sym (get_or-eq_default l missing_byte h)

pub standing : (l : List ℕ) (i : ℕ) → i < length l → get_or l i 0 ≡ term_byte l i
standing [] i h = absurd (omega arith)
standing (b ∷ l) zero h = refl
standing (b ∷ l) (suc i) h = standing l i (omega arith)

pub word-inside : (l : List ℕ) (i : ℕ) → term_byte l i < missing_byte → i < length l
word-inside l i h = go (ltb i (length l)) refl
  where
    go : (b : Bool) → ltb i (length l) ≡ b → i < length l
    go true e = ltb-true i (length l) e
    go false e = absurd (omega (arith, missing l i (ltb-false i (length l) e)))
