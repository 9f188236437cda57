-- Comparing: a bit map of names is compared with a table byte by byte.
--
--   bit-stands          a bit of the map by its byte
--   Alike               the invariant: map and table are the same below 8 i
--   alike_none, alike_turn, alike-found, alike_all    its beginning, its turn and its two ends
--
use mathlib.Core.Path.{◌≡◌, sym, ap, ap₂, ◌∙◌}
use mathlib.Core.Bool.{Bool, false}
use mathlib.Core.List.{List, map}
use Prim.Native.Nat.{ℕ, zero, suc, ◌+◌, ◌-◌, ◌*◌, ◌/◌, ◌%◌, ◌<◌, ◌≤◌}
use native.Mathlib.Decide.{dec_le}
use native.Mathlib.Omega.{arith}
use lib.ListN.{get_or}
use Rattle.terms.specs.Lists.{range}
use Rattle.wire.specs.Map.{number}
use Rattle.wire.specs.VocabularyLines.{byte_at}
use Rattle.wire.specs.FillingLines.{name_stands}
use Rattle.wire.proofs.Map.{flags_in-number}
use Rattle.namemaps.specs.Difference.{stands_in, bit_in, LowestApart, DifferenceAt}

-- ---- bits

range_at : (f : ℕ → Bool) (n d j : ℕ) → j < d → get_or (map f (range n d)) j false ≡ f (n + j)
range_at f n zero j h = absurd (omega arith)
range_at f n (suc d) zero h = ap f (let e : n ≡ n + 0 = omega arith in e)
range_at f n (suc d) (suc j) h = range_at f (suc n) d j (omega arith) ∙ ap f (let e : suc n + j ≡ n + suc j = omega arith in e)

-- Bit j of the byte that the eight names from n on make.
pub made_bit : (f : ℕ → Bool) (n j : ℕ) → j < 8 → bit_in (number (map f (range n 8))) j ≡ f (n + j)
made_bit f n j h = ap (λ fs. get_or fs j false) (flags_in-number (map f (range n 8))) ∙ range_at f n 8 j h

-- Bit j of byte i of the map.
pub map-bit : (b : List ℕ) (i j : ℕ) → j < 8 → bit_in (byte_at b i) j ≡ name_stands b (8 * i + j)
map-bit b i j h =
    let byte : i ≡ (8 * i + j) / 8 = omega arith in
    let place : j ≡ (8 * i + j) % 8 = omega arith in
    ap₂ (λ i j. bit_in (byte_at b i) j) byte place

-- ---- the search

pub record Alike (b table : List ℕ) (i : ℕ) : Type 0 where
  pub same : (n : ℕ) → n < 8 * i → name_stands b n ≡ stands_in table n
  pub few : i ≤ 8

pub alike_none : (b table : List ℕ) → Alike b table 0
alike_none b table = record { same = λ n h. absurd (omega arith); few = omega arith }

module _ {b table : List ℕ} {i : ℕ} (k : Alike b table i) (room : i < 8) {a m : ℕ} (written : a ≡ byte_at b i)
    (made : m ≡ number (map (stands_in table) (range (8 * i) 8))) where
  -- Bit j of both bytes.
  bit-written : (j : ℕ) → j < 8 → bit_in a j ≡ name_stands b (8 * i + j)
  bit-written j h = ap (λ a. bit_in a j) written ∙ map-bit b i j h

  bit_made : (j : ℕ) → j < 8 → bit_in m j ≡ stands_in table (8 * i + j)
  bit_made j h = ap (λ m. bit_in m j) made ∙ made_bit (stands_in table) (8 * i) j h

  pub alike_turn : a ≡ m → Alike b table (i + 1)
  alike_turn e = record {
    same = λ n h. elim (dec_le (8 * i) n) [ yes high ↦ in_byte n high h | no low ↦ k.same n (omega arith) ];
    few = omega arith;
  }
    where
      in_byte : (n : ℕ) → 8 * i ≤ n → n < 8 * (i + 1) → name_stands b n ≡ stands_in table n
      in_byte n high h =
          let place : n - 8 * i < 8 = omega arith in
          let there : 8 * i + (n - 8 * i) ≡ n = omega arith in
          ap (name_stands b) (sym there) ∙ sym (bit-written (n - 8 * i) place) ∙ ap (λ m. bit_in m (n - 8 * i)) e
          ∙ bit_made (n - 8 * i) place
          ∙ ap (stands_in table) there

  pub alike-found : {j : ℕ} → LowestApart a m j → DifferenceAt b table (8 * i + j)
  alike-found {j} l =
      let below = l.below in
      record {
        up_to = omega arith;
        alike = λ n h. elim (dec_le (8 * i) n) [ yes high ↦ in_byte n high h | no low ↦ k.same n (omega arith) ];
        differs = λ h e. l.differ (bit-written j below ∙ e ∙ sym (bit_made j below));
      }
    where
      in_byte : (n : ℕ) → 8 * i ≤ n → n < 8 * i + j → name_stands b n ≡ stands_in table n
      in_byte n high h =
          let place : n - 8 * i < 8 = omega (arith, l.below) in
          let there : 8 * i + (n - 8 * i) ≡ n = omega arith in
          ap (name_stands b) (sym there) ∙ sym (bit-written (n - 8 * i) place) ∙ l.lower (n - 8 * i) (omega arith)
          ∙ bit_made (n - 8 * i) place
          ∙ ap (stands_in table) there

pub alike_all : {b table : List ℕ} {i : ℕ} → Alike b table i → 8 ≤ i → DifferenceAt b table 64
alike_all k h = record { up_to = omega arith; alike = λ n p. k.same n (omega arith); differs = λ p. absurd (omega arith) }
