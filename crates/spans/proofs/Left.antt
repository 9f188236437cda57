-- Left: the turns of a walk over frames come to an end.
--
--   left_of s x frames depth j       more than the turns that are left, where the frame x and those below it are due at j
--   left_leave, left-on, left_word  it falls at each turn
--
use mathlib.Core.Path.{◌≡◌, refl, sym, ap, ap₂, ◌∙◌}
use mathlib.Core.List.{List}
use mathlib.Core.Logic.{◌≢◌}
use Prim.Native.Nat.{ℕ, zero, suc, ◌+◌, ◌-◌, ◌*◌, ◌<◌, ◌≤◌}
use native.Mathlib.Numerals.{add-one}
use native.Mathlib.Omega.{arith}
use lib.ListN.{length, get_or, set}
use lib.Seq.{get_or-set_same, get_or-set_other}
use Rattle.wire.specs.Map.{map_bytes}
use Rattle.spans.specs.Frames.{places_in}
use Rattle.spans.proofs.Framing.{Turn}

-- One turn to leave each frame, and fewer than its place map's number to pass its places.
abbrev turns_of : List ℕ → ℕ → ℕ
turns_of xs zero = 0
turns_of xs (suc n) = places_in (get_or xs (suc n) 0) + 1 + turns_of xs n

abbrev turns_due : ℕ → List ℕ → ℕ → ℕ
turns_due x xs zero = 0
turns_due x xs (suc n) = places_in x + 1 + turns_of xs n

-- Each node that is left may bring a frame of a place map below 256.
abbrev pub left_of : List ℕ → ℕ → List ℕ → ℕ → ℕ → ℕ
left_of s x frames depth j = 256 * (length s - j) + turns_due x frames depth

turns_agree : (xs ys : List ℕ) (n : ℕ) → ((i : ℕ) → i ≤ n → get_or xs i 0 ≡ get_or ys i 0) → turns_of xs n ≡ turns_of ys n
turns_agree xs ys zero h = refl
turns_agree xs ys (suc n) h = ap₂ (λ x l. places_in x + 1 + l) (h (suc n) (omega arith)) (turns_agree xs ys n (λ i p. h i (omega arith)))

turns-kept : (xs : List ℕ) (n y : ℕ) → suc n < length xs → turns_of (set xs (suc n) y) (suc n) ≡ turns_due y xs (suc n)
turns-kept xs n y h =
    ap₂ (λ x l. places_in x + 1 + l) (get_or-set_same xs (suc n) y 0 h)
    (turns_agree (set xs (suc n) y) xs n (λ i p. let apart : i ≢ suc n = (λ e. omega arith) in get_or-set_other xs (suc n) i y 0 apart))

turns-again : (xs : List ℕ) (n : ℕ) → turns_of xs n ≡ turns_due (get_or xs n 0) xs n
turns-again xs zero = refl
turns-again xs (suc n) = refl

turns-here : (x : ℕ) (frames : List ℕ) (depth : ℕ) → 0 < depth → turns_due x frames depth ≡ places_in x + 1 + turns_of frames (depth - 1)
turns-here x frames depth some = ap (turns_due x frames) (let e : depth ≡ suc (depth - 1) = omega arith in e)

pub left_leave : (s : List ℕ) (x : ℕ) (frames : List ℕ) (depth j : ℕ) → 0 < depth →
    left_of s (get_or frames (depth - 1) 0) frames (depth - 1) j < left_of s x frames depth j
left_leave s x frames depth j some = omega (arith, turns-here x frames depth some, turns-again frames (depth - 1))

module _ {p s frames spans : List ℕ} {from due depth i j y : ℕ} (c : Turn p s frames spans from due depth i j y) (full : places_in due ≡ 0 → ⊥) where
  fewer : turns_due y frames depth + 1 ≤ turns_due due frames depth
  fewer = omega (arith, c.shifted.places, turns-here due frames depth c.some, turns-here y frames depth c.some)

  pub left-on : (end : ℕ) → j ≤ end → left_of s y frames depth end < left_of s due frames depth j
  left-on end l = omega (arith, fewer)

  pub left_word : (z end : ℕ) → depth < 32 → j + (1 + map_bytes) ≤ length s → end ≡ j + (1 + map_bytes) →
      left_of s z (set frames depth y) (depth + 1) end < left_of s due frames depth j
  left_word z end room long behind =
      let some = c.some in
      let same : depth ≡ suc (depth - 1) = omega arith in
      let kept : turns_of (set frames depth y) depth ≡ turns_due y frames depth =
      ap (λ d. turns_of (set frames d y) d) same ∙ turns-kept frames (depth - 1) y (omega (arith, c.inv.entries)) ∙ ap (turns_due y frames) (sym same) in
      let last : turns_due z (set frames depth y) (depth + 1) ≡ places_in z + 1 + turns_of (set frames depth y) depth =
      ap (turns_due z (set frames depth y)) (add-one depth) in
      omega (arith, fewer)
