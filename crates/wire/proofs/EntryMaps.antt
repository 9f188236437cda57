-- EntryMaps: the words of a term, by the bits of its written map.
--
--   closed-bytes     the terms that are not written have no byte
--   number-kept      what a map keeps of its lower bits
--   spots_by_bits    a listing goes over the written bits of each word
--
use mathlib.Core.Path.{◌≡◌, refl, sym, ap, ap₂, subst, ◌∙◌}
use mathlib.Core.Bool.{Bool, true, false, not}
use mathlib.Core.List.{List, [], ◌∷◌, ◌++◌, append-nil, append_assoc}
use Prim.Native.Nat.{ℕ, suc, ◌+◌, ◌*◌, ◌%◌, ◌^◌, ◌<◌}
use native.Mathlib.Nat.{pow-suc, mul_assoc, mul_comm, mod-eq_of_lt, add-mul-mod_self_left}
use native.Mathlib.Omega.{arith}
use lib.ListN.{length, length-append}
use Rattle.terms.specs.Term.{Term, any, var, app, Terms, nil, cons, SortedAll}
use Rattle.terms.specs.Listing.{open_every}
use Rattle.wire.specs.Map.{write_map, flags, bit, number, ones, is_open, written_flags}
use Rattle.wire.specs.Vocabulary.{Vocabulary, signature, word, map_of}
use Rattle.wire.specs.TermBytes.{written_map, encode_at, encode_all}
use Rattle.wire.specs.EntryBytes.{above, up_to, spots, spots_all}
use Rattle.wire.specs.EntryMaps.{closed, bit_spots, SpotsByBits}
use Rattle.wire.proofs.Map.{number_lt, flags-written}
use Rattle.wire.proofs.Words.{length_symbols, arguments-word, word-in_order}
use Rattle.wire.proofs.EntryBytes.{above_snoc, above_bytes}

-- The terms that are not written have no byte.
pub closed-bytes : (W : Vocabulary) (ts : Terms) → encode_all W (closed ts) ≡ encode_all W ts
closed-bytes W nil = refl
closed-bytes W (cons any ts) = closed-bytes W ts
closed-bytes W (cons (var n) ts) = ap (λ l. encode_at W (var n) ++ l) (closed-bytes W ts)
closed-bytes W (cons (app f us) ts) = ap (λ l. encode_at W (app f us) ++ l) (closed-bytes W ts)

-- ---- the lower bits of a map

number_append : (low fs : List Bool) → number (low ++ fs) ≡ number low + 2 ^ length low * number fs
number_append [] fs = omega arith
number_append (b ∷ low) fs =
    let p : ℕ = 2 ^ length low in
    let ih = number_append low fs in
    let twice : 2 ^ suc (length low) * number fs ≡ 2 * (p * number fs) =
    ap (λ k. k * number fs) (pow-suc 2 (length low) ∙ mul_comm p 2) ∙ mul_assoc 2 p (number fs) in
    omega arith

-- What a map keeps of its lower bits.
pub number-kept : (low fs : List Bool) → number (low ++ fs) % 2 ^ length low ≡ number low
number-kept low fs =
    ap (λ k. k % 2 ^ length low) (number_append low fs)
    ∙ add-mul-mod_self_left (number low) (2 ^ length low) (number fs)
    ∙ mod-eq_of_lt (number_lt low)

number-above : (low fs : List Bool) → number fs ≡ 0 → number (low ++ fs) ≡ number low
number-above [] fs e = e
number-above (b ∷ low) fs e = ap (λ k. bit b + 2 * k) (number-above low fs e)

-- Places of which none is written have no bit.
pub written-empty : (ps : List Bool) (ts : Terms) → number (written_flags ps (open_every ts)) ≡ 0
written-empty [] ts = refl
written-empty (false ∷ ps) ts = omega (arith, written-empty ps ts)
written-empty (true ∷ ps) nil = omega (arith, written-empty ps nil)
written-empty (true ∷ ps) (cons t ts) = omega (arith, written-empty ps ts)

-- ---- the written bits of a word

-- The bits low are those of the terms lower; the bits of the place map from there on are ps.
module _ (W : Vocabulary) (f : ℕ) (front : List ℕ) where
  abbrev Below : Terms → List Bool → List Bool → Type 0
  Below lower low ps = (us : Terms) → written_flags (flags (map_of W f)) (above lower us) ≡ low ++ written_flags ps us

  abbrev ByBits : Terms → List Bool → List Bool → Terms → Terms → Type 0
  ByBits lower low ws ts us =
      spots_all W ts f lower front ≡ bit_spots W f (number (low ++ ws)) front ws (length low) (encode_all W lower) us

  -- One bit more below.
  bits_next : (lower : Terms) (low : List Bool) (b : Bool) (ws : List Bool) (ts us : Terms) (body : List ℕ) → encode_all W lower ≡ body →
      ByBits lower (low ++ (b ∷ [])) ws ts us →
      spots_all W ts f lower front ≡ bit_spots W f (number (low ++ (b ∷ ws))) front ws (suc (length low)) body us
  bits_next lower low b ws ts us body e h =
      let more : length (low ++ (b ∷ [])) ≡ suc (length low) = omega (arith, length-append low (b ∷ [])) in
      h
      ∙ ap (λ fs. bit_spots W f (number fs) front ws (length (low ++ (b ∷ []))) (encode_all W lower) us) (append_assoc low (b ∷ []) ws)
      ∙ ap₂ (λ n l. bit_spots W f (number (low ++ (b ∷ ws))) front ws n l us) more e

  -- The map kept at a written place is the whole map's lower bits, up to that of the place.
  up_to-kept : (lower : Terms) (low ps : List Bool) (t : Term) (ts : Terms) → Below lower low (true ∷ ps) →
      is_open t ≡ false → up_to W f lower t ts ≡ number (low ++ (true ∷ written_flags ps ts)) % 2 ^ suc (length low)
  up_to-kept lower low ps t ts h o =
      let more : length (low ++ (true ∷ [])) ≡ suc (length low) = omega (arith, length-append low (true ∷ [])) in
      ap number (h (cons t (open_every ts)))
      ∙ ap (λ b. number (low ++ (not b ∷ written_flags ps (open_every ts)))) o
      ∙ ap number (sym (append_assoc low (true ∷ []) (written_flags ps (open_every ts))))
      ∙ number-above (low ++ (true ∷ [])) (written_flags ps (open_every ts)) (written-empty ps ts)
      ∙ sym (number-kept (low ++ (true ∷ [])) (written_flags ps ts))
      ∙ ap₂ (λ fs n. number fs % 2 ^ n) (append_assoc low (true ∷ []) (written_flags ps ts)) more

  place_by_bits : (lower : Terms) (low ps : List Bool) (t : Term) (ts : Terms) → Below lower low (true ∷ ps) →
      ByBits (above lower (cons t nil)) (low ++ (not (is_open t) ∷ [])) (written_flags ps ts) ts (closed ts) →
      ByBits lower low (written_flags (true ∷ ps) (cons t ts)) (cons t ts) (closed (cons t ts))
  place_by_bits lower low ps t ts h ih = go t h ih
    where
      body : (t : Term) → encode_all W (above lower (cons t nil)) ≡ encode_all W lower ++ encode_at W t
      body t = above_bytes W lower (cons t nil) ∙ ap (λ l. encode_all W lower ++ l) (append-nil (encode_at W t))

      written : (t : Term) → is_open t ≡ false →
          ByBits (above lower (cons t nil)) (low ++ (true ∷ [])) (written_flags ps ts) ts (closed ts) →
          ByBits lower low (true ∷ written_flags ps ts) (cons t ts) (cons t (closed ts))
      written t o ih =
          ap₂ (λ m l. spots W t (front ++ (f ∷ (write_map m ++ encode_all W lower))) ++ l) (up_to-kept lower low ps t ts h o)
          (bits_next (above lower (cons t nil)) low true (written_flags ps ts) ts (closed ts) (encode_all W lower ++ encode_at W t) (body t) ih)

      go : (t : Term) → Below lower low (true ∷ ps) →
          ByBits (above lower (cons t nil)) (low ++ (not (is_open t) ∷ [])) (written_flags ps ts) ts (closed ts) →
          ByBits lower low (written_flags (true ∷ ps) (cons t ts)) (cons t ts) (closed (cons t ts))
      go any h ih =
          bits_next (above lower (cons any nil)) low false (written_flags ps ts) ts (closed ts) (encode_all W lower) (body any ∙ append-nil (encode_all W lower)) ih
      go (var n) h ih = written (var n) refl ih
      go (app g us) h ih = written (app g us) refl ih

  spots_by_bits_from : (ps : List Bool) (ts : Terms) (ks : List ℕ) (lower : Terms) (low : List Bool) → length ks ≡ ones ps →
      SortedAll (signature W) ts ks → Below lower low ps → ByBits lower low (written_flags ps ts) ts (closed ts)
  spots_by_bits_from [] nil [] lower low n sorted h = refl
  spots_by_bits_from [] nil (k ∷ ks) lower low n sorted h = absurd sorted
  spots_by_bits_from [] (cons t ts) [] lower low n sorted h = absurd sorted
  spots_by_bits_from [] (cons t ts) (k ∷ ks) lower low n sorted h = absurd (omega arith)
  spots_by_bits_from (false ∷ ps) ts ks lower low n sorted h =
      bits_next lower low false (written_flags ps ts) ts (closed ts) (encode_all W lower) refl
      (spots_by_bits_from ps ts ks lower (low ++ (false ∷ [])) (omega arith) sorted
      (λ us. h us ∙ sym (append_assoc low (false ∷ []) (written_flags ps us))))
  spots_by_bits_from (true ∷ ps) nil [] lower low n sorted h = absurd (omega arith)
  spots_by_bits_from (true ∷ ps) nil (k ∷ ks) lower low n sorted h = absurd sorted
  spots_by_bits_from (true ∷ ps) (cons t ts) [] lower low n sorted h = absurd sorted
  spots_by_bits_from (true ∷ ps) (cons t ts) (k ∷ ks) lower low n sorted h =
      place_by_bits lower low ps t ts h
      (spots_by_bits_from ps ts ks (above lower (cons t nil)) (low ++ (not (is_open t) ∷ [])) (omega arith) sorted.1
      (λ us.
      ap (written_flags (flags (map_of W f))) (sym (above_snoc lower t us))
      ∙ h (cons t us)
      ∙ sym (append_assoc low (not (is_open t) ∷ []) (written_flags ps us))))

pub spots_by_bits : SpotsByBits
spots_by_bits W in_order f ts s sorted front =
    let known : f < length W.words = rw (length_symbols W) at sorted.0 in
    ap (λ l. record { front = front; word = f } ∷ l)
    (spots_by_bits_from W f front (flags (map_of W f)) ts (word W f).kinds nil [] (word-in_order W f in_order known).count
    (subst (SortedAll (signature W) ts) (arguments-word W f) sorted.2) (λ us. refl)
    ∙ ap (λ ws. bit_spots W f (written_map W f ts) front ws 0 [] (closed ts)) (sym (flags-written (map_of W f) ts)))
