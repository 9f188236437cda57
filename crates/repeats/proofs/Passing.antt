-- Passing: the steps of one pass over the bytes of a pattern, and the names that it meets in a good one.
--
--   name-byte, low_byte, high_byte       which bytes are names
--   at-word, at_other, at_name           one step of the pass, at a byte in front
--   pass_word, pass_other, pass_name     the same, at an offset of the pattern
--   repeat_inside                        what it finds is a byte of the pattern
--   sightings-bytes, sightings-pattern   the pass meets the names of a term, and of a whole pattern
--   pattern_repeats                      so it finds the term's first repeated name
--
use mathlib.Core.Path.{◌≡◌, refl, sym, ap, ap₂, ◌∙◌}
use mathlib.Core.Bool.{true, false, not}
use mathlib.Core.List.{List, [], ◌∷◌, ◌++◌, append_assoc, append-nil}
use mathlib.Core.Option.{some}
use Prim.Native.Nat.{ℕ, zero, suc, ◌+◌, ◌-◌, ◌<◌, ◌≤◌}
use native.Mathlib.Numerals.{add-one}
use native.Mathlib.Omega.{arith}
use lib.Dec.{ltb}
use lib.ListN.{length, get_or, drop, length-append}
use lib.Seq.{drop-cons, drop-drop}
use borrow.Author.Tests.{lt-ltb, le-ltb}
use Rattle.terms.specs.Lists.{All}
use Rattle.terms.specs.Term.{Term, any, var, app, Terms, nil, cons, names, names_all, Sorted, SortedAll}
use Rattle.terms.specs.Signature.{arguments}
use Rattle.terms.proofs.All.{all_left, all_right, all-at}
use Rattle.terms.proofs.Bools.{or_neither, or_left, or_right}
use Rattle.wire.specs.Map.{map_bytes, write_map}
use Rattle.wire.specs.Vocabulary.{Vocabulary, InOrder, signature}
use Rattle.wire.specs.TermBytes.{name_count, first_name_byte, name_byte, whole_byte, written_map, encode_at, encode_all, encode_term, GoodTerm}
use Rattle.wire.specs.Parser.{is_name}
use Rattle.wire.specs.PatternLines.{Sighting, sightings_from, sightings_all, sightings, no_sighting}
use Rattle.wire.specs.ListComputed.{repeated_in}
use Rattle.wire.proofs.Cond.{cond_true, cond_false, choice}
use Rattle.wire.proofs.Repeats.{repeated_is_exact}
use Rattle.wire.proofs.Words.{length_symbols}
use Rattle.repeats.specs.FirstRepeat.{sightings_in, first_repeat, PatternRepeats}

-- ---- which bytes are names

pub name-byte : (b : ℕ) → 128 ≤ b → b < 192 → is_name b ≡ true
name-byte b h k = ap not (or_neither (ltb b 128) (ltb 191 b) (le-ltb b 128 h) (le-ltb 191 b (omega arith)))

pub low_byte : (b : ℕ) → b < 128 → is_name b ≡ false
low_byte b h = ap not (or_left (ltb b 128) (ltb 191 b) (lt-ltb b 128 h))

pub high_byte : (b : ℕ) → 192 ≤ b → is_name b ≡ false
high_byte b h = ap not (or_right (ltb b 128) (ltb 191 b) (lt-ltb 191 b (omega arith)))

-- ---- the steps of the pass

module _ (n : ℕ) where
  pub skip_one : (l : List ℕ) (at : ℕ) → sightings_in n 1 l at ≡ sightings_in n 0 (drop 1 l) (at + 1)
  skip_one [] at = refl
  skip_one (b ∷ l) at = refl

  pub at-word : (f m : ℕ) (l : List ℕ) (at : ℕ) → f < n → sightings_in n 0 (f ∷ (m ∷ l)) at ≡ sightings_in n 0 l (at + 2)
  at-word f m l at h =
      cond_true (ltb f n) _ _ (lt-ltb f n h) ∙ ap (sightings_in n 0 l) (let e : at + 1 + 1 ≡ at + 2 = omega arith in e)

  pub at_other : (b : ℕ) (l : List ℕ) (at : ℕ) → n ≤ b → is_name b ≡ false → sightings_in n 0 (b ∷ l) at ≡ sightings_in n 0 l (at + 1)
  at_other b l at h k = cond_false (ltb b n) _ _ (le-ltb b n h) ∙ cond_false (is_name b) _ _ k

  pub at_name : (b : ℕ) (l : List ℕ) (at : ℕ) → n ≤ b → is_name b ≡ true →
      sightings_in n 0 (b ∷ l) at ≡ record { name = b - first_name_byte; offset = at } ∷ sightings_in n 0 l (at + 1)
  at_name b l at h k = cond_false (ltb b n) _ _ (le-ltb b n h) ∙ cond_true (is_name b) _ _ k

  module _ (p : List ℕ) (at : ℕ) (inside : at < length p) where
    pub pass_word : get_or p at 0 < n → sightings_in n 0 (drop at p) at ≡ sightings_in n 0 (drop (at + 2) p) (at + 2)
    pass_word k =
        ap (λ l. sightings_in n 0 l at) (drop-cons p at 0 inside)
        ∙ cond_true (ltb (get_or p at 0) n) _ _ (lt-ltb (get_or p at 0) n k)
        ∙ skip_one (drop (suc at) p) (at + 1)
        ∙ ap₂ (λ l q. sightings_in n 0 l q)
        (drop-drop 1 (suc at) p ∙ ap (λ i. drop i p) (let e : suc at + 1 ≡ at + 2 = omega arith in e))
        (let e : at + 1 + 1 ≡ at + 2 = omega arith in e)

    pub pass_other : n ≤ get_or p at 0 → is_name (get_or p at 0) ≡ false → sightings_in n 0 (drop at p) at ≡ sightings_in n 0 (drop (at + 1) p) (at + 1)
    pass_other h k =
        ap (λ l. sightings_in n 0 l at) (drop-cons p at 0 inside)
        ∙ at_other (get_or p at 0) (drop (suc at) p) at h k
        ∙ ap (λ i. sightings_in n 0 (drop i p) (at + 1)) (sym (add-one at))

    pub pass_name : n ≤ get_or p at 0 → is_name (get_or p at 0) ≡ true →
        sightings_in n 0 (drop at p) at ≡ record { name = get_or p at 0 - 128; offset = at } ∷ sightings_in n 0 (drop (at + 1) p) (at + 1)
    pass_name h k =
        ap (λ l. sightings_in n 0 l at) (drop-cons p at 0 inside)
        ∙ at_name (get_or p at 0) (drop (suc at) p) at h k
        ∙ ap (λ i. record { name = get_or p at 0 - 128; offset = at } ∷ sightings_in n 0 (drop i p) (at + 1)) (sym (add-one at))

-- ---- the byte that is found

sightings-inside : (n skip : ℕ) (l : List ℕ) (at k : ℕ) → at + length l ≡ k → All (λ o. o.offset < k) (sightings_in n skip l at)
sightings-inside n zero [] at k e = tt
sightings-inside n (suc skip) [] at k e = tt
sightings-inside n (suc skip) (b ∷ l) at k e = sightings-inside n skip l (at + 1) k (omega arith)
sightings-inside n zero (b ∷ l) at k e =
    choice (All (λ o. o.offset < k)) (ltb b n) _ _ (λ h. sightings-inside n map_bytes l (at + 1) k (omega arith))
    (λ h.
    choice (All (λ o. o.offset < k)) (is_name b) _ _ (λ h. (omega arith, sightings-inside n zero l (at + 1) k (omega arith)))
    (λ h. sightings-inside n zero l (at + 1) k (omega arith)))

pub repeat_inside : (n : ℕ) (p : List ℕ) (q : ℕ) → first_repeat n p ≡ some q → q < length p
repeat_inside n p q e =
    let l : List Sighting = sightings_in n 1 p 0 in
    let x = (repeated_is_exact l q).0 e in
    let here = x.here in
    let h = all-at (λ o. o.offset < length p) no_sighting l (sightings-inside n 1 p 0 (length p) (omega arith)) x.index x.below in
    omega arith

-- ---- the names of a good pattern

module _ (W : Vocabulary) (in_order : InOrder W) where
  abbrev count : ℕ
  count = length W.words

  no_word : (b : ℕ) → first_name_byte ≤ b → count ≤ b
  no_word b h = let few = in_order.few_words in omega arith

  mutual
    sightings-bytes : (t : Term) (s : ℕ) → Sorted (signature W) t s → All (λ n. n < name_count) (names t) → (at : ℕ) (r : List ℕ) →
        sightings_in count 0 (encode_at W t ++ r) at ≡ sightings_from W t at ++ sightings_in count 0 r (at + length (encode_at W t))
    sightings-bytes any s h a at r = ap (sightings_in count 0 r) (let e : at ≡ at + 0 = omega arith in e)
    sightings-bytes (var n) s h a at r =
        at_name count (name_byte n) r at (no_word (name_byte n) (omega arith)) (name-byte (name_byte n) (omega arith) (omega (arith, a.0)))
        ∙ ap (λ m. record { name = m; offset = at } ∷ sightings_in count 0 r (at + 1)) (let e : 128 + n - 128 ≡ n = omega arith in e)
    sightings-bytes (app f ts) s h a at r =
        let m : ℕ = written_map W f ts in
        let known : f < count = rw (length_symbols W) at h.0 in
        let behind : at + 1 + map_bytes + length (encode_all W ts) ≡ at + length (encode_at W (app f ts)) =
        omega (arith, length-append (write_map m) (encode_all W ts)) in
        at-word count f m (encode_all W ts ++ r) at known
        ∙ ap (sightings_in count 0 (encode_all W ts ++ r)) (let e : at + 2 ≡ at + 1 + map_bytes = omega arith in e)
        ∙ sightings_bytes_all ts (arguments (signature W) f) h.2 a (at + 1 + map_bytes) r
        ∙ ap (λ q. sightings_all W ts (at + 1 + map_bytes) ++ sightings_in count 0 r q) behind

    sightings_bytes_all : (ts : Terms) (ks : List ℕ) → SortedAll (signature W) ts ks → All (λ n. n < name_count) (names_all ts) →
        (at : ℕ) (r : List ℕ) →
        sightings_in count 0 (encode_all W ts ++ r) at ≡ sightings_all W ts at ++ sightings_in count 0 r (at + length (encode_all W ts))
    sightings_bytes_all nil ks h a at r = ap (sightings_in count 0 r) (let e : at ≡ at + 0 = omega arith in e)
    sightings_bytes_all (cons t ts) [] h a at r = absurd h
    sightings_bytes_all (cons t ts) (k ∷ ks) h a at r =
        let next : ℕ = at + length (encode_at W t) in
        let behind : next + length (encode_all W ts) ≡ at + length (encode_all W (cons t ts)) =
        omega (arith, length-append (encode_at W t) (encode_all W ts)) in
        ap (λ l. sightings_in count 0 l at) (append_assoc (encode_at W t) (encode_all W ts) r)
        ∙ sightings-bytes t k h.0 (all_left (λ n. n < name_count) (names t) (names_all ts) a) at (encode_all W ts ++ r)
        ∙ ap (λ l. sightings_from W t at ++ l)
        (sightings_bytes_all ts ks h.1 (all_right (λ n. n < name_count) (names t) (names_all ts) a) next r
        ∙ ap (λ q. sightings_all W ts next ++ sightings_in count 0 r q) behind)
        ∙ sym (append_assoc (sightings_from W t at) (sightings_all W ts next) (sightings_in count 0 r (at + length (encode_all W (cons t ts)))))

  placed-alone : (t : Term) (s : ℕ) → Sorted (signature W) t s → All (λ n. n < name_count) (names t) →
      sightings_in count 0 (encode_at W t) 1 ≡ sightings_from W t 1
  placed-alone t s h a =
      ap (λ l. sightings_in count 0 l 1) (sym (append-nil (encode_at W t))) ∙ sightings-bytes t s h a 1 [] ∙ append-nil (sightings_from W t 1)

  sightings-pattern : (s : ℕ) (t : Term) → GoodTerm W s t → sightings_in count 1 (encode_term W s t) 0 ≡ sightings W t
  sightings-pattern s any good = at_other count whole_byte [] 1 (no_word whole_byte (omega arith)) (high_byte whole_byte (omega arith))
  sightings-pattern s (var n) good = placed-alone (var n) s good.sorted.sorted good.named
  sightings-pattern s (app f ts) good = placed-alone (app f ts) s good.sorted.sorted good.named

pub pattern_repeats : PatternRepeats
pattern_repeats W in_order s t good = ap (repeated_in []) (sightings-pattern W in_order s t good)
