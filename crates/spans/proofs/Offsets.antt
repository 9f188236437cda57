-- Offsets: what stands at an offset of bytes.
--
--   OneByte l i a r     the byte a stands at the offset i of l, and r behind it
--   Node l i f m r      the word f and its map m stand there, and r behind them
--   offset-fits         an offset does not wrap
--   offset-low          .. and a map can be looked for there
--
use mathlib.Core.Path.{◌≡◌, sym, ap, ◌∙◌}
use mathlib.Core.List.{List, ◌∷◌, ◌++◌}
use Prim.Native.Nat.{ℕ, ◌+◌, ◌<◌, ◌≤◌}
use native.Mathlib.Nat.{le_trans}
use native.Mathlib.Omega.{arith}
use mir.Syntax.{w64}
use mir.Val.{Fits}
use mir.Facts.{Fits-below}
use lib.ListN.{length, get_or, drop, length-drop}
use lib.Seq.{drop-drop, get_or-drop}
use Rattle.wire.specs.Map.{map_bytes, write_map}
use Rattle.spans.specs.Frames.{most_offset, map_at}

pub record OneByte (l : List ℕ) (i a : ℕ) (r : List ℕ) : Type 0 where
  pub first : get_or l i 0 ≡ a
  pub inside : i + 1 ≤ length l
  pub behind : drop (i + 1) l ≡ r

pub one_byte : (l : List ℕ) (i a : ℕ) (r : List ℕ) → drop i l ≡ a ∷ r → OneByte l i a r
one_byte l i a r e = record {
  first = ap (λ n. get_or l n 0) (let n : i ≡ i + 0 = omega arith in n) ∙ sym (get_or-drop i l 0 0) ∙ ap (λ l. get_or l 0 0) e;
  inside = omega (arith, length-drop i l, ap length e);
  behind = sym (drop-drop 1 i l) ∙ ap (drop 1) e;
}

pub record Node (l : List ℕ) (i f m : ℕ) (r : List ℕ) : Type 0 where
  pub first : get_or l i 0 ≡ f
  pub map : map_at l i ≡ m
  pub inside : i + (1 + map_bytes) ≤ length l
  pub behind : drop (i + (1 + map_bytes)) l ≡ r

pub node : (l : List ℕ) (i f m : ℕ) (r : List ℕ) → drop i l ≡ f ∷ (write_map m ++ r) → Node l i f m r
node l i f m r e = record {
  first = (one_byte l i f (m ∷ r) e).first;
  map = sym (get_or-drop i l 1 0) ∙ ap (λ l. get_or l 1 0) e;
  inside = omega (arith, length-drop i l, ap length e);
  behind = sym (drop-drop (1 + map_bytes) i l) ∙ ap (drop (1 + map_bytes)) e;
}

pub offset-fits : {n m : ℕ} → n ≤ m → m ≤ 4096 → Fits w64 n
offset-fits h small = Fits-below tt (le_trans h small)

pub offset-low : {n m : ℕ} → n + (1 + map_bytes) ≤ m → m ≤ 4096 → n < most_offset
offset-low h small = omega arith
