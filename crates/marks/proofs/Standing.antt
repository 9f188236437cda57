-- Standing: what stands at an offset of some bytes, where the bytes from there on are known.
--
--   first_byte, first-map      a word's number and its map
--   inside                     the offset is inside
--   behind                     what stands behind the first bytes
--   fits                       the first bytes are no more than there are
--   flags-there                the written bits of a word
--
use mathlib.Core.Path.{◌≡◌, refl, sym, ap, ◌∙◌}
use mathlib.Core.List.{List, ◌∷◌, ◌++◌}
use Prim.Native.Nat.{ℕ, ◌+◌, ◌<◌, ◌≤◌}
use native.Mathlib.Omega.{arith}
use lib.ListN.{length, get_or, drop, length-append, length-drop}
use lib.Seq.{get_or-drop, drop-drop, drop_at}
use Rattle.terms.specs.Term.{Terms}
use Rattle.wire.specs.Map.{flags, written_flags}
use Rattle.wire.specs.Vocabulary.{Vocabulary, map_of}
use Rattle.wire.specs.TermBytes.{written_map}
use Rattle.wire.proofs.Map.{flags-written}
use Rattle.maps.specs.Reading.{map_at}
use Rattle.maps.proofs.Reading.{map_at_lem}
use Rattle.extents.specs.Bytes.{term_byte}

pub at_offset : (d : ℕ) (l : List ℕ) (i k : ℕ) {x : List ℕ} → drop i l ≡ x → get_or l (i + k) d ≡ get_or x k d
at_offset d l i k h = sym (get_or-drop i l k d) ∙ ap (λ x. get_or x k d) h

module _ (l : List ℕ) (i : ℕ) where
  pub first_byte : {b : ℕ} {r : List ℕ} → drop i l ≡ b ∷ r → term_byte l i ≡ b
  first_byte h = ap (term_byte l) (let e : i ≡ i + 0 = omega arith in e) ∙ at_offset 255 l i 0 h

  pub first-map : {b m : ℕ} {r : List ℕ} → drop i l ≡ b ∷ m ∷ r → map_at l (i + 1) ≡ m
  first-map h = sym (map_at_lem l (i + 1)) ∙ at_offset 0 l i 1 h

  pub behind : (x r : List ℕ) → drop i l ≡ x ++ r → drop (i + length x) l ≡ r
  behind x r h = sym (drop-drop (length x) i l) ∙ ap (drop (length x)) h ∙ drop_at x r (length x) refl

  pub fits : (x r : List ℕ) → drop i l ≡ x ++ r → length x ≤ length l
  fits x r h = omega (arith, length-drop i l, ap length h, length-append x r)

  pub inside : {b : ℕ} {r : List ℕ} → drop i l ≡ b ∷ r → i < length l
  inside h = omega (arith, length-drop i l, ap length h)

  -- The map of a word that stands there has its written bits.
  pub flags-there : (W : Vocabulary) (f : ℕ) (ts : Terms) (r : List ℕ) → drop i l ≡ f ∷ written_map W f ts ∷ r →
      flags (map_at l (i + 1)) ≡ written_flags (flags (map_of W f)) ts
  flags-there W f ts r h = ap flags (first-map h) ∙ flags-written (map_of W f) ts
