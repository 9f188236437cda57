-- Placing: the numbers of places, written into a table one by one.
--
--   Placed r f places          the first f of them are written
--   placed_none, placed_turn, placed-all    how that begins, goes on and ends
--
use mathlib.Core.Path.{◌≡◌, refl, sym, ap, ap₂, ◌∙◌}
use mathlib.Core.List.{List, [], ◌∷◌, ◌++◌, map}
use Prim.Native.Nat.{ℕ, ◌+◌, ◌*◌, ◌<◌, ◌≤◌}
use native.Mathlib.Numerals.{add-one}
use native.Mathlib.Omega.{arith}
use lib.ListN.{length, get_or, take, set, length-set}
use lib.Seq.{take-suc-set, take_all}
use Rattle.terms.specs.Lists.{range}
use Rattle.texts.specs.Tabled.{record_size}
use Rattle.lexicon.proofs.Rows.{map_last}
use Rattle.paragraphs.specs.Paragraphs.{places_table}

abbrev places_below : List ℕ → ℕ → List ℕ
places_below r f = map (λ (f : ℕ). get_or r (record_size * f + 1) 0) (range 0 f)

pub record Placed (r : List ℕ) (f : ℕ) (places : List ℕ) : Type 0 where
  pub below : f ≤ 96
  pub size : length places ≡ 96
  pub front : take f places ≡ places_below r f

pub placed_none : (r places : List ℕ) → length places ≡ 96 → Placed r 0 places
placed_none r places h = record { below = omega arith; size = h; front = refl }

module _ {r : List ℕ} {f : ℕ} {places : List ℕ} (h : Placed r f places) where
  pub placed_turn : f < 96 → {b : ℕ} → b ≡ get_or r (10 * f + 1) 0 → Placed r (f + 1) (set places f b)
  placed_turn more {b} e = record {
    below = omega arith;
    size = length-set places f b ∙ h.size;
    front =
        ap (λ n. take n (set places f b)) (add-one f)
        ∙ take-suc-set places f b (let s = h.size in omega arith)
        ∙ ap₂ (λ (l : List ℕ) (x : ℕ). l ++ (x ∷ [])) h.front e
        ∙ sym (map_last (λ (f : ℕ). get_or r (record_size * f + 1) 0) f)
        ∙ ap (places_below r) (sym (add-one f));
  }

  pub placed-all : 96 ≤ f → places ≡ places_table r
  placed-all e =
      let b = h.below in
      let same : f ≡ 96 = omega arith in
      sym (take_all f places (let s = h.size in omega arith)) ∙ h.front ∙ ap (places_below r) same
