-- Turns: pieces are put one behind the other, turn by turn.
--
--   Left a i b j rest whole     with the rest put behind what page b holds, the whole is put behind what page a held
--   left-all, left_turn, left_end      the beginning, a turn and the end of a loop that puts pieces
--
use mathlib.Core.Path.{◌≡◌, sym}
use mathlib.Core.List.{List, [], ◌++◌}
use Prim.Native.Nat.{ℕ}
use Rattle.pages.specs.Pages.{Adds}
use Rattle.pages.proofs.Pages.{adds-nothing, adds_is, adds_then}

abbrev pub Left : List ℕ → ℕ → List ℕ → ℕ → List ℕ → List ℕ → Type 0
Left a i b j rest whole = (c : List ℕ) (k : ℕ) → Adds b j c k rest → Adds a i c k whole

pub left-all : (a : List ℕ) (i : ℕ) {x whole : List ℕ} → x ≡ whole → Left a i a i x whole
left-all a i e c k h = adds_is e h

module _ {a : List ℕ} {i : ℕ} {b : List ℕ} {j : ℕ} {x whole : List ℕ} (left : Left a i b j x whole) where
  pub left_turn : {c : List ℕ} {k : ℕ} {piece rest : List ℕ} → x ≡ piece ++ rest → Adds b j c k piece → Left a i c k rest whole
  left_turn e h d m l = left d m (adds_is (sym e) (adds_then h l))

  pub left_end : x ≡ [] → Adds a i b j whole
  left_end e = left b j (adds_is (sym e) (adds-nothing b j))
