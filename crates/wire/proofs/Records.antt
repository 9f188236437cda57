-- Records: a vocabulary's records one behind the other, from any offset on, and where their kind bytes stand.
use mathlib.Core.Path.{◌≡◌, refl, sym, ap, ◌∙◌}
use mathlib.Core.List.{List, ◌∷◌}
use mathlib.Core.Logic.{inl, inr, ◌≢◌}
use Prim.Native.Nat.{ℕ, zero, suc, ◌+◌, ◌-◌, ◌<◌, ◌≤◌}
use native.Mathlib.Numerals.{add-one}
use native.Mathlib.Omega.{arith}
use native.Mathlib.Decide.{ℕ_discrete}
use lib.ListN.{drop}
use Rattle.wire.specs.Map.{map_bytes, flags, ones}
use Rattle.wire.specs.VocabularyLines.{places_of, record_at, words_of, KindByte, of_result, of_place}
use Rattle.wire.proofs.Parts.{behind_parts, InParts}

-- The offset behind the record at offset i.
unfoldable pub behind : List ℕ → ℕ → ℕ
behind b i = i + 1 + map_bytes + places_of b i

-- The offset behind n records, of which the first stands at offset i.
abbrev pub after : List ℕ → ℕ → ℕ → ℕ
after b n i = behind_parts (behind b) n i

-- The record at offset i has a kind byte at q: its result kind, or one behind its map.
pub record KindIn (b : List ℕ) (i q : ℕ) : Type 0 where
  pub from : i ≤ q
  pub no_map : q ≡ suc i → ⊥
  pub before : q < behind b i

-- One of the n records from offset i on has a kind byte at q.
abbrev pub KindFrom : List ℕ → ℕ → ℕ → ℕ → Type 0
KindFrom b n i q = InParts (behind b) (KindIn b) n i q

-- The places of the record at offset i, by its map m.
pub places-at : (b : List ℕ) (i m : ℕ) (l : List ℕ) → drop (suc i) b ≡ m ∷ l → places_of b i ≡ ones (flags m)
places-at b i m l e = rw (add-one, e)

pub behind_is : (b : List ℕ) (i p : ℕ) → places_of b i ≡ p → behind b i ≡ i + 2 + p
unfolding behind
behind_is b i p e = rw e (omega arith)

pub behind_beyond : (b : List ℕ) (i : ℕ) → i + 2 ≤ behind b i
behind_beyond b i = go (places_of b i) refl
  where
    go : (p : ℕ) → places_of b i ≡ p → i + 2 ≤ behind b i
    go p e = rw (behind_is b i p e) (omega arith)

-- One record more, at either end.
pub after_last : (b : List ℕ) (n i : ℕ) → after b (suc n) i ≡ behind b (after b n i)
after_last b zero i = refl
after_last b (suc n) i = after_last b n (behind b i)

pub record-after : (b : List ℕ) (w : ℕ) → record_at b w ≡ after b w 2
unfolding behind
record-after b zero = refl
record-after b (suc w) = ap (behind b) (record-after b w) ∙ sym (after_last b w 2)

pub record-behind : (b : List ℕ) (w : ℕ) → record_at b (suc w) ≡ behind b (record_at b w)
unfolding behind
record-behind b w = refl

-- The kind bytes of n records are those of each of them.
pub kind-of : (b : List ℕ) (n i w q : ℕ) → w < n → KindIn b (after b w i) q → KindFrom b n i q
kind-of b zero i w q h k = absurd (omega arith)
kind-of b (suc n) i zero q h k = inl k
kind-of b (suc n) i (suc w) q h k = inr (kind-of b n (behind b i) w q (omega arith) k)

pub kind_whose : (b : List ℕ) (n i q : ℕ) → KindFrom b n i q → (w : ℕ) × (w < n) × KindIn b (after b w i) q
kind_whose b zero i q h = absurd h
kind_whose b (suc n) i q (inl h) = (0, omega arith, h)
kind_whose b (suc n) i q (inr h) =
    let r = kind_whose b n (behind b i) q h in
    (suc r.0, omega (arith, r.1), r.2)

pub kind_byte_from : (b : List ℕ) (q : ℕ) → KindByte b q → KindFrom b (words_of b) 2 q
kind_byte_from b q (of_result w h) = kind-of b (words_of b) 2 w (record_at b w) h (rw (← record-after b w) (result_in w))
  where
    result_in : (w : ℕ) → KindIn b (record_at b w) (record_at b w)
    result_in w = record { from = omega arith; no_map = omega arith; before = omega (arith, behind_beyond b (record_at b w)) }
kind_byte_from b q (of_place w j h l) = kind-of b (words_of b) 2 w _ h (rw (← record-after b w) (place_in (record_at b w) (places_of b (record_at b w)) refl l))
  where
    place_in : (i p : ℕ) → places_of b i ≡ p → j < p → KindIn b i (i + 1 + map_bytes + j)
    place_in i p e l = record { from = omega arith; no_map = omega arith; before = rw (behind_is b i p e) (omega arith) }

pub kind-byte : (b : List ℕ) (q : ℕ) → KindFrom b (words_of b) 2 q → KindByte b q
kind-byte b q h =
    let r = kind_whose b (words_of b) 2 q h in
    go r.0 r.1 (rw (record-after b r.0) r.2) (ℕ_discrete q (record_at b r.0))
  where
    place_at : (i p : ℕ) → places_of b i ≡ p → KindIn b i q → (q ≡ i → ⊥) → (j : ℕ) × (q ≡ i + 1 + map_bytes + j) × (j < p)
    place_at i p e k d =
        let from = k.from in
        let apart : q ≢ suc i = k.no_map in
        let before : q < i + 2 + p = rw (behind_is b i p e) at k.before in
        (q - (i + 2), omega arith, omega arith)

    go : (w : ℕ) → w < words_of b → KindIn b (record_at b w) q → Dec (q ≡ record_at b w) → KindByte b q
    go w h k (yes e) = rw e (of_result w h)
    go w h k (no d) =
        let i = record_at b w in
        let place = place_at i (places_of b i) refl k d in
        rw place.1 (of_place w place.0 h place.2)
