-- AgainstMaps: the written map of a word, by the bits of its places.
--
--   Rising b n l                     the numbers l are ascending, none below b and all below n
--   places_rising                    the places of a word are ascending bits of a map
--   places_count, places-sorted      a word has as many places as kinds, and as its symbol has arguments
--   written_bits_lem, written-map_bits   the written map of a word is that of its places
--   MapBelow W f lower low bs        low is the map of the terms at the lower places of the word f, and bs are the places above
--   map_below_none, map_below_next   there is none lower, and there is one more
--   map_below_fits                   the map with the next place written is a map
--
use mathlib.Core.Path.{◌≡◌, refl, sym, ap, subst, ◌∙◌}
use mathlib.Core.Bool.{Bool, true, false, not, true≢false}
use mathlib.Core.List.{List, [], ◌∷◌}
use Prim.Native.Nat.{ℕ, suc, ◌+◌, ◌*◌, ◌^◌, ◌<◌, ◌≤◌}
use native.Mathlib.Nat.{pow-suc, mul_assoc, mul-add, add_assoc, zero-add, one-mul}
use native.Mathlib.Omega.{arith}
use lib.ListN.{length}
use Rattle.terms.specs.Signature.{arguments}
use Rattle.terms.specs.Term.{Term, any, var, app, Terms, nil, cons, Sorted}
use Rattle.wire.specs.Map.{map_bits, flags, bit, number, ones, is_open, written_flags}
use Rattle.wire.specs.Vocabulary.{Vocabulary, InOrder, signature, word, map_of}
use Rattle.wire.specs.TermBytes.{written_map}
use Rattle.wire.specs.EntryBytes.{above}
use Rattle.wire.specs.EntryAgainst.{place_bits, bit_of, written_bits, places_of_word}
use Rattle.wire.proofs.Map.{length-flags_in, written_lt}
use Rattle.wire.proofs.Words.{length_symbols, arguments-word, word-in_order}
use Rattle.wire.proofs.EntryBytes.{above_snoc}

-- ---- the places of a word

abbrev pub Rising : ℕ → ℕ → List ℕ → Type 0
Rising b n [] = Unit {0}
Rising b n (c ∷ cs) = (b ≤ c) × (c < n) × Rising (suc c) n cs

rising_lower : (b n : ℕ) (l : List ℕ) → Rising (suc b) n l → Rising b n l
rising_lower b n [] r = tt
rising_lower b n (c ∷ cs) r = (let h = r.0 in omega arith, r.1, r.2)

place_bits_rising : (fs : List Bool) (b n : ℕ) → b + length fs ≤ n → Rising b n (place_bits b fs)
place_bits_rising [] b n h = tt
place_bits_rising (true ∷ fs) b n h = (omega arith, omega arith, place_bits_rising fs (suc b) n (omega arith))
place_bits_rising (false ∷ fs) b n h = rising_lower b n (place_bits (suc b) fs) (place_bits_rising fs (suc b) n (omega arith))

pub places_rising : (W : Vocabulary) (f : ℕ) → Rising 0 map_bits (places_of_word W f)
places_rising W f = place_bits_rising (flags (map_of W f)) 0 map_bits (omega (arith, length-flags_in map_bits (map_of W f)))

place_bits-count : (fs : List Bool) (b : ℕ) → length (place_bits b fs) ≡ ones fs
place_bits-count [] b = refl
place_bits-count (true ∷ fs) b = omega (arith, place_bits-count fs (suc b))
place_bits-count (false ∷ fs) b = omega (arith, place_bits-count fs (suc b))

pub places_count : (W : Vocabulary) → InOrder W → (f : ℕ) → f < length W.words → length (places_of_word W f) ≡ length (word W f).kinds
places_count W in_order f known = place_bits-count (flags (map_of W f)) 0 ∙ sym (word-in_order W f in_order known).count

pub places-sorted : (W : Vocabulary) → InOrder W → (f : ℕ) (ts : Terms) (s : ℕ) → Sorted (signature W) (app f ts) s →
    length (places_of_word W f) ≡ length (arguments (signature W) f)
places-sorted W in_order f ts s h = places_count W in_order f (rw (length_symbols W) at h.0) ∙ ap length (sym (arguments-word W f))

-- ---- the map of terms at those places

bits_up : (b n : ℕ) → 2 ^ suc b * n ≡ 2 ^ b * (2 * n)
bits_up b n = ap (λ k. k * n) (pow-suc 2 b) ∙ mul_assoc (2 ^ b) 2 n

bit_up : (t : Term) (b n : ℕ) → bit_of t b + 2 ^ suc b * n ≡ 2 ^ b * (bit (not (is_open t)) + 2 * n)
bit_up any b n = omega (arith, bits_up b n, mul-add (2 ^ b) 0 (2 * n))
bit_up (var m) b n = omega (arith, bits_up b n, mul-add (2 ^ b) 1 (2 * n))
bit_up (app f ts) b n = omega (arith, bits_up b n, mul-add (2 ^ b) 1 (2 * n))

-- The bits from bit b on are worth 2 ^ b times what they are worth from bit 0 on.
pub written_bits_lem : (fs : List Bool) (b : ℕ) (ts : Terms) → written_bits (place_bits b fs) ts ≡ 2 ^ b * number (written_flags fs ts)
written_bits_lem [] b nil = omega arith
written_bits_lem [] b (cons t ts) = omega arith
written_bits_lem (false ∷ fs) b ts = omega (arith, written_bits_lem fs (suc b) ts, bit_up any b (number (written_flags fs ts)))
written_bits_lem (true ∷ fs) b nil = omega (arith, written_bits_lem fs (suc b) nil, bit_up any b (number (written_flags fs nil)))
written_bits_lem (true ∷ fs) b (cons t ts) = omega (arith, written_bits_lem fs (suc b) ts, bit_up t b (number (written_flags fs ts)))

pub written-map_bits : (W : Vocabulary) (f : ℕ) (ts : Terms) → written_map W f ts ≡ written_bits (places_of_word W f) ts
written-map_bits W f ts = sym (written_bits_lem (flags (map_of W f)) 0 ts ∙ one-mul (written_map W f ts))

pub closed-bit : (t : Term) (b : ℕ) → is_open t ≡ false → bit_of t b ≡ 2 ^ b
closed-bit any b o = absurd (true≢false o)
closed-bit (var n) b o = refl
closed-bit (app f ts) b o = refl

-- ---- the map above terms at the lower places

abbrev pub MapBelow : Vocabulary → ℕ → Terms → ℕ → List ℕ → Type 0
MapBelow W f lower low bs = (us : Terms) → written_map W f (above lower us) ≡ low + written_bits bs us

pub map_below_none : (W : Vocabulary) (f : ℕ) → MapBelow W f nil 0 (places_of_word W f)
map_below_none W f us = written-map_bits W f us ∙ sym (zero-add (written_bits (places_of_word W f) us))

pub map_below_next : (W : Vocabulary) (f : ℕ) (lower : Terms) (low b : ℕ) (bs : List ℕ) (t : Term) → MapBelow W f lower low (b ∷ bs) →
    MapBelow W f (above lower (cons t nil)) (low + bit_of t b) bs
map_below_next W f lower low b bs t h us =
    ap (written_map W f) (sym (above_snoc lower t us)) ∙ h (cons t us) ∙ sym (add_assoc low (bit_of t b) (written_bits bs us))

pub map_below_fits : (W : Vocabulary) (f : ℕ) (lower : Terms) (low b : ℕ) (bs : List ℕ) (us : Terms) → MapBelow W f lower low (b ∷ bs) →
    low + (2 ^ b + written_bits bs us) < 2 ^ map_bits
map_below_fits W f lower low b bs us h =
    subst (λ (m : ℕ). m < 2 ^ map_bits) (h (cons (var 0) us)) (written_lt (map_of W f) (above lower (cons (var 0) us)))
