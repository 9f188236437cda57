-- EntrySizes: how many entries and bytes a listing has, by the words of the pattern and by one pass over its bytes.
--
--   entries-count, entries-length    the sums over the words of the pattern
--   spots-length                     the same sum over the words of a term
--   summed-bytes, summed-pattern     one pass over the bytes gives the same sum
--   pattern-count, pattern-length    the two sums by one pass over the pattern
--
use mathlib.Core.Path.{◌≡◌, refl, sym, ap, ap₂, ◌∙◌}
use mathlib.Core.List.{List, [], ◌∷◌, ◌++◌, map, append-nil, append_assoc}
use Prim.Native.Nat.{ℕ, suc, ◌+◌, ◌*◌, ◌<◌, ◌≤◌}
use native.Mathlib.Nat.{add_comm, add_assoc, add-zero, zero-add, suc-mul}
use native.Mathlib.Omega.{arith}
use lib.ListN.{length, length-append, length-map}
use borrow.Author.Tests.{lt-ltb, le-ltb}
use Rattle.terms.specs.Signature.{Signature, arguments}
use Rattle.terms.specs.Term.{Term, any, var, app, Terms, nil, cons, Sorted, SortedAll}
use Rattle.terms.specs.Listing.{others, bare, open_every, listing, listing_all}
use Rattle.wire.specs.Map.{map_bytes, write_map}
use Rattle.wire.specs.Vocabulary.{Vocabulary, InOrder, signature}
use Rattle.wire.specs.TermBytes.{first_name_byte, name_byte, whole_byte, written_map, encode_at, encode_all, encode_term}
use Rattle.wire.specs.Parser.{is_word}
use Rattle.wire.specs.Reply.{kinded}
use Rattle.wire.specs.Leftovers.{entries_bytes}
use Rattle.wire.specs.ListComputed.{entries_of}
use Rattle.wire.specs.EntryBytes.{above, up_to, spots, spots_all, others_bytes, spots_bytes}
use Rattle.wire.specs.EntrySizes.{summed, summed_all, count_at, size_at, counted, measured, summed_in, PatternCount, PatternLength}
use Rattle.wire.proofs.Cond.{cond_true, cond_false}
use Rattle.wire.proofs.Words.{length_symbols}
use Rattle.wire.proofs.EntryBytes.{above_bytes, spots_bytes-append, entries-bytes}

-- ---- entries

mutual
  counted-entries : (W : Vocabulary) (t : Term) (at : ℕ) → length (listing (signature W) t) ≡ summed W (count_at W) t at
  counted-entries W any at = refl
  counted-entries W (var n) at = refl
  counted-entries W (app f ts) at =
      let S : Signature = signature W in
      length-append (map (bare S) (others S f)) (map (app f) (listing_all S ts))
      ∙ ap₂ ◌+◌ (length-map (others S f) (bare S)) (length-map (listing_all S ts) (app f) ∙ counted_entries_all W ts (at + 1 + map_bytes))

  counted_entries_all : (W : Vocabulary) (ts : Terms) (at : ℕ) → length (listing_all (signature W) ts) ≡ summed_all W (count_at W) ts at
  counted_entries_all W nil at = refl
  counted_entries_all W (cons t ts) at =
      let S : Signature = signature W in
      length-append (map (λ e. cons e (open_every ts)) (listing S t)) (map (cons t) (listing_all S ts))
      ∙ ap₂ ◌+◌ (length-map (listing S t) (λ e. cons e (open_every ts)) ∙ counted-entries W t at)
      (length-map (listing_all S ts) (cons t) ∙ counted_entries_all W ts (at + length (encode_at W t)))

pub entries-count : (W : Vocabulary) (s : ℕ) (t : Term) → length (entries_of W s t) ≡ counted W t
entries-count W s t = length-map (listing (signature W) t) (kinded s) ∙ counted-entries W t 1

-- ---- bytes

pub others-length : (front hs : List ℕ) → length (others_bytes front hs) ≡ length hs * (length front + 1 + map_bytes)
others-length front [] = omega arith
others-length front (h ∷ hs) =
    let n : ℕ = length front + 1 + map_bytes in
    length-append (front ++ (h ∷ write_map 0)) (others_bytes front hs)
    ∙ ap₂ ◌+◌ (let e : length (front ++ (h ∷ write_map 0)) ≡ n = omega (arith, length-append front (h ∷ write_map 0)) in e) (others-length front hs)
    ∙ add_comm n (length hs * n)
    ∙ sym (suc-mul (length hs) n)

mutual
  pub spots-length : (W : Vocabulary) (t : Term) (front : List ℕ) → length (spots_bytes W (spots W t front)) ≡ summed W (size_at W) t (length front)
  spots-length W any front = refl
  spots-length W (var n) front = refl
  spots-length W (app f ts) front =
      length-append (others_bytes front (others (signature W) f)) (spots_bytes W (spots_all W ts f nil front))
      ∙ ap₂ ◌+◌ (others-length front (others (signature W) f))
      (spots_length_all W ts f nil front
      ∙ ap (summed_all W (size_at W) ts) (let e : length front + 1 + map_bytes + 0 ≡ length front + 1 + map_bytes = omega arith in e))

  spots_length_all : (W : Vocabulary) (ts : Terms) (f : ℕ) (lower : Terms) (front : List ℕ) →
      length (spots_bytes W (spots_all W ts f lower front)) ≡ summed_all W (size_at W) ts (length front + 1 + map_bytes + length (encode_all W lower))
  spots_length_all W nil f lower front = refl
  spots_length_all W (cons t ts) f lower front =
      let m : ℕ = up_to W f lower t ts in
      let next : List ℕ = front ++ (f ∷ (write_map m ++ encode_all W lower)) in
      let at : ℕ = length front + 1 + map_bytes + length (encode_all W lower) in
      let here : length next ≡ at = omega (arith, length-append front (f ∷ (write_map m ++ encode_all W lower))) in
      let behind : length front + 1 + map_bytes + length (encode_all W (above lower (cons t nil))) ≡ at + length (encode_at W t) =
      omega (arith, ap length (above_bytes W lower (cons t nil)), length-append (encode_all W lower) (encode_at W t ++ []), length-append (encode_at W t) []) in
      ap length (spots_bytes-append W (spots W t next) (spots_all W ts f (above lower (cons t nil)) front))
      ∙ length-append (spots_bytes W (spots W t next)) (spots_bytes W (spots_all W ts f (above lower (cons t nil)) front))
      ∙ ap₂ ◌+◌ (spots-length W t next ∙ ap (summed W (size_at W) t) here)
      (spots_length_all W ts f (above lower (cons t nil)) front ∙ ap (summed_all W (size_at W) ts) behind)

-- The sum over the words of the pattern of their others, each times the word's offset, a word and a map.
pub entries-length : (W : Vocabulary) (s : ℕ) (t : Term) → length (entries_bytes W (entries_of W s t)) ≡ measured W t
entries-length W s t = ap length (entries-bytes W s t) ∙ spots-length W t (s ∷ [])

-- ---- one pass over the pattern's bytes

module _ (W : Vocabulary) (g : ℕ → ℕ → ℕ) where
  skipped : (x l : List ℕ) (at : ℕ) → summed_in W g (length x) (x ++ l) at ≡ summed_in W g 0 l (at + length x)
  skipped [] l at = ap (summed_in W g 0 l) (let e : at ≡ at + 0 = omega arith in e)
  skipped (b ∷ x) l at = skipped x l (at + 1) ∙ ap (summed_in W g 0 l) (let e : at + 1 + length x ≡ at + suc (length x) = omega arith in e)

  -- The steps of the pass.
  pub summed-word : (f m : ℕ) (l : List ℕ) (at : ℕ) → f < length W.words →
      summed_in W g 0 (f ∷ (write_map m ++ l)) at ≡ g f at + summed_in W g 0 l (at + 1 + map_bytes)
  summed-word f m l at h = cond_true (is_word W f) _ _ (lt-ltb f (length W.words) h) ∙ ap (λ n. g f at + n) (skipped (write_map m) l (at + 1))

  pub summed-other : (b : ℕ) (l : List ℕ) (at : ℕ) → length W.words ≤ b → summed_in W g 0 (b ∷ l) at ≡ summed_in W g 0 l (at + 1)
  summed-other b l at h = cond_false (is_word W b) _ _ (le-ltb b (length W.words) h)

  nothing : (l : List ℕ) (at : ℕ) → summed_in W g 0 l at ≡ 0 + summed_in W g 0 l (at + 0)
  nothing l at = ap (summed_in W g 0 l) (let e : at ≡ at + 0 = omega arith in e) ∙ sym (zero-add (summed_in W g 0 l (at + 0)))

  module _ (in_order : InOrder W) where
    no_word : (b : ℕ) → first_name_byte ≤ b → length W.words ≤ b
    no_word b h = let few = in_order.few_words in omega arith

    mutual
      pub summed-bytes : (t : Term) (s : ℕ) → Sorted (signature W) t s → (at : ℕ) (r : List ℕ) →
          summed_in W g 0 (encode_at W t ++ r) at ≡ summed W g t at + summed_in W g 0 r (at + length (encode_at W t))
      summed-bytes any s h at r = nothing r at
      summed-bytes (var n) s h at r =
          summed-other (name_byte n) r at (no_word (name_byte n) (omega arith)) ∙ sym (zero-add (summed_in W g 0 r (at + 1)))
      summed-bytes (app f ts) s h at r =
          let m : ℕ = written_map W f ts in
          let known : f < length W.words = rw (length_symbols W) at h.0 in
          let behind : at + 1 + map_bytes + length (encode_all W ts) ≡ at + length (encode_at W (app f ts)) =
          omega (arith, length-append (write_map m) (encode_all W ts)) in
          ap (λ l. summed_in W g 0 (f ∷ l) at) (append_assoc (write_map m) (encode_all W ts) r)
          ∙ summed-word f m (encode_all W ts ++ r) at known
          ∙ ap (λ n. g f at + n)
          (summed_bytes_all ts (arguments (signature W) f) h.2 (at + 1 + map_bytes) r
          ∙ ap (λ q. summed_all W g ts (at + 1 + map_bytes) + summed_in W g 0 r q) behind)
          ∙ sym (add_assoc (g f at) (summed_all W g ts (at + 1 + map_bytes)) (summed_in W g 0 r (at + length (encode_at W (app f ts)))))

      pub summed_bytes_all : (ts : Terms) (ks : List ℕ) → SortedAll (signature W) ts ks → (at : ℕ) (r : List ℕ) →
          summed_in W g 0 (encode_all W ts ++ r) at ≡ summed_all W g ts at + summed_in W g 0 r (at + length (encode_all W ts))
      summed_bytes_all nil ks h at r = nothing r at
      summed_bytes_all (cons t ts) [] h at r = absurd h
      summed_bytes_all (cons t ts) (k ∷ ks) h at r =
          let next : ℕ = at + length (encode_at W t) in
          let behind : next + length (encode_all W ts) ≡ at + length (encode_all W (cons t ts)) =
          omega (arith, length-append (encode_at W t) (encode_all W ts)) in
          ap (λ l. summed_in W g 0 l at) (append_assoc (encode_at W t) (encode_all W ts) r)
          ∙ summed-bytes t k h.0 at (encode_all W ts ++ r)
          ∙ ap (λ n. summed W g t at + n)
          (summed_bytes_all ts ks h.1 next r ∙ ap (λ q. summed_all W g ts next + summed_in W g 0 r q) behind)
          ∙ sym (add_assoc (summed W g t at) (summed_all W g ts next) (summed_in W g 0 r (at + length (encode_all W (cons t ts)))))

    summed-alone : (t : Term) (s : ℕ) → Sorted (signature W) t s → summed_in W g 0 (encode_at W t) 1 ≡ summed W g t 1
    summed-alone t s h =
        ap (λ l. summed_in W g 0 l 1) (sym (append-nil (encode_at W t))) ∙ summed-bytes t s h 1 [] ∙ add-zero (summed W g t 1)

    -- Of a whole pattern: its kind byte is passed over, and an open place at the root is no word.
    pub summed-pattern : (s : ℕ) (t : Term) → Sorted (signature W) t s → summed_in W g 1 (encode_term W s t) 0 ≡ summed W g t 1
    summed-pattern s any h = summed-other whole_byte [] 1 (no_word whole_byte (omega arith))
    summed-pattern s (var n) h = summed-alone (var n) s h
    summed-pattern s (app f ts) h = summed-alone (app f ts) s h

-- The two sums by one pass over the pattern.
pub pattern-count : PatternCount
pattern-count W in_order s t good = entries-count W s t ∙ sym (summed-pattern W (count_at W) in_order s t good.sorted.sorted)

pub pattern-length : PatternLength
pattern-length W in_order s t good = entries-length W s t ∙ sym (summed-pattern W (size_at W) in_order s t good.sorted.sorted)
