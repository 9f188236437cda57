-- Bytes: what some bytes hold at an offset, read off their rest from there.
use mathlib.Core.Path.{◌≡◌, subst}
use mathlib.Core.List.{List, [], ◌∷◌, ◌++◌}
use Prim.Native.Nat.{ℕ, zero, suc, ◌<◌, ◌≤◌}
use native.Mathlib.Omega.{arith}
use lib.Dec.{lit<}
use lib.ListN.{length, drop, length-drop}
use Rattle.terms.proofs.All.{all_right}
use Rattle.wire.specs.Reply.{IsBytes}
use Rattle.wire.specs.Parser.{offset}
use Rattle.wire.specs.VocabularyLines.{byte_at}

-- The bytes b have the byte x at offset i, and l behind it.
pub record Begins (b : List ℕ) (i x : ℕ) (l : List ℕ) : Type 0 where
  pub inside : i < length b
  pub byte : byte_at b i ≡ x
  pub rest : drop (suc i) b ≡ l

pub drop-begins : (b : List ℕ) (i x : ℕ) (l : List ℕ) → drop i b ≡ x ∷ l → Begins b i x l
drop-begins [] zero x l e = let z : ◌≡◌ {A = ℕ} 0 1 = cc in absurd (omega arith)
drop-begins [] (suc i) x l e = let z : ◌≡◌ {A = ℕ} 0 1 = cc in absurd (omega arith)
drop-begins (y ∷ b) zero x l e = record { inside = omega arith; byte = cc; rest = cc }
drop-begins (y ∷ b) (suc i) x l e =
    let h = drop-begins b i x l e in
    record { inside = omega arith; byte = h.byte; rest = h.rest }

pub drop-ends : (b : List ℕ) (i : ℕ) → drop i b ≡ [] → length b ≤ i
drop-ends [] i e = omega arith
drop-ends (y ∷ b) zero e = let z : ◌≡◌ {A = ℕ} 0 1 = cc in absurd (omega arith)
drop-ends (y ∷ b) (suc i) e = let h = drop-ends b i e in omega arith

-- Where the rest of some bytes begins, found by its length.
pub offset-drop : (b r : List ℕ) (i : ℕ) → r ≡ drop i b → i ≤ length b → offset b r ≡ i
offset-drop b r i e h = rw (e, length-drop) (omega arith)

pub byte_small : (b : List ℕ) (i : ℕ) → IsBytes b → byte_at b i < 256
byte_small [] i h = lit< tt
byte_small (x ∷ b) zero h = h.0
byte_small (x ∷ b) (suc i) h = byte_small b i h.1

-- The contents of a slice are known to be bytes index by index.
pub bytes_of : (l : List ℕ) → ((i : ℕ) → byte_at l i < 256) → IsBytes l
bytes_of [] h = tt
bytes_of (b ∷ l) h = (h 0, bytes_of l (λ i. h (suc i)))

-- Bytes that are left behind some bytes.
pub rest-bytes : (l a r : List ℕ) → l ≡ a ++ r → IsBytes l → IsBytes r
rest-bytes l a r e h = all_right (λ b. b < 256) a r (subst IsBytes e h)
