-- NameMaps: the bit map of names at the front of a filling file, name by name.
--
--   names_stand             in the bit map of some names these names stand, and no others
--   stand_names             bytes in whose map these names stand, and no others, begin with that bit map
--   occurs-ascending        the names of a term, ascending, are its names below 64
--   range-once, ascending-once    .. and none of them stands there twice
--   apart-same, same-apart  two truth values that differ, or not
--   unlike-same             no name is unlike exactly where each stands in the map as it does in the pattern
--   unlike_none             no name is unlike exactly where map and pattern differ at none
--   unlike_some             the first that is unlike is the lowest at which they differ
--   unlike-names            no name is unlike exactly where the bytes begin with the bit map of the pattern's names
--
use mathlib.Core.Path.{◌≡◌, refl, sym, ap, ap₂, ◌∙◌}
use mathlib.Core.Bool.{Bool, true, false, true≢false}
use mathlib.Core.List.{List, ◌++◌, map}
use mathlib.Core.Logic.{◌↔◌}
use mathlib.Core.Option.{some, none}
use Prim.Native.Nat.{ℕ, zero, suc, ◌+◌, ◌*◌, ◌/◌, ◌%◌, ◌<◌, ◌≤◌}
use native.Mathlib.Omega.{arith}
use lib.Dec.{eqb}
use lib.ListN.{length, length-map, get_or, take, drop, take-append-drop, get_or-append}
use lib.Seq.{ext_get_or, get_or-take, length-take-le}
use borrow.Author.Tests.{ne_eqb}
use Rattle.terms.specs.Lists.{occurs, NoneTwice, range}
use Rattle.terms.specs.Term.{Term, names}
use Rattle.terms.specs.Emptiness.{first}
use Rattle.terms.proofs.Bools.{and_always, or_neither}
use Rattle.terms.proofs.Count.{length-range}
use Rattle.terms.proofs.First.{Least, first-least, least_first, first_nowhere, nowhere_first}
use Rattle.terms.proofs.Keep.{occurs-keep, none_twice_keep}
use Rattle.terms.proofs.Occurs.{occurs-range}
use Rattle.wire.specs.Reply.{IsBytes}
use Rattle.wire.specs.Map.{flags_in, number}
use Rattle.wire.specs.TermBytes.{name_count}
use Rattle.wire.specs.VocabularyLines.{byte_at}
use Rattle.wire.specs.FillingFile.{name_map_bytes, names_byte, write_names, ascending}
use Rattle.wire.specs.FillingLines.{name_stands, Differs}
use Rattle.wire.specs.FillComputed.{apart, unlike}
use Rattle.wire.proofs.Bytes.{byte_small}
use Rattle.wire.proofs.Map.{length-flags_in, number-flags_in, flags-number}

-- ---- the bits of the map

get_d_range : {A : Type 0} (f : ℕ → A) (from n : ℕ) (d : A) (i : ℕ) → i < n → get_or (map f (range from n)) i d ≡ f (from + i)
get_d_range f from zero d i h = absurd (omega arith)
get_d_range f from (suc n) d zero h = ap f (let e : from ≡ from + 0 = omega arith in e)
get_d_range f from (suc n) d (suc i) h =
    get_d_range f (suc from) n d i (omega arith) ∙ ap f (let e : suc from + i ≡ from + suc i = omega arith in e)

length_mapped : {A : Type 0} (f : ℕ → A) (from n : ℕ) → length (map f (range from n)) ≡ n
length_mapped f from n = length-map (range from n) f ∙ length-range from n

-- The bits of the map's byte i.
abbrev bits_at : List ℕ → ℕ → List Bool
bits_at ns i = map (λ n. occurs n ns) (range (8 * i) 8)

pub names_stand : (ns r : List ℕ) (n : ℕ) → n < name_count → name_stands (write_names ns ++ r) n ≡ occurs n ns
names_stand ns r n h =
    ap (λ b. get_or (flags_in 8 b) (n % 8) false)
    (get_or-append (write_names ns) r 0 (n / 8) (omega arith) ∙ get_d_range (names_byte ns) 0 name_map_bytes 0 (n / 8) (omega arith))
    ∙ ap (λ i. get_or (flags_in 8 (names_byte ns i)) (n % 8) false) (let e : 0 + n / 8 ≡ n / 8 = omega arith in e)
    ∙ ap (λ fs. get_or fs (n % 8) false) (flags-number 8 (bits_at ns (n / 8)) (length_mapped (λ n. occurs n ns) (8 * (n / 8)) 8))
    ∙ get_d_range (λ n. occurs n ns) (8 * (n / 8)) 8 false (n % 8) (omega arith)
    ∙ ap (λ n. occurs n ns) (let e : 8 * (n / 8) + n % 8 ≡ n = omega arith in e)

module _ (b ns : List ℕ) (bytes : IsBytes b) (long : name_map_bytes ≤ length b)
    (stand : (n : ℕ) → n < name_count → name_stands b n ≡ occurs n ns) where
  byte-names : (i : ℕ) → i < name_map_bytes → byte_at b i ≡ names_byte ns i
  byte-names i h =
      sym (number-flags_in 8 (byte_at b i) (byte_small b i bytes))
      ∙ ap number
      (ext_get_or false (flags_in 8 (byte_at b i)) (bits_at ns i)
      (length-flags_in 8 (byte_at b i) ∙ sym (length_mapped (λ n. occurs n ns) (8 * i) 8))
      (λ j k. bit j (omega (arith, length-flags_in 8 (byte_at b i)))))
    where
      bit : (j : ℕ) → j < 8 → get_or (flags_in 8 (byte_at b i)) j false ≡ get_or (bits_at ns i) j false
      bit j k =
          let at : (8 * i + j) / 8 ≡ i = omega arith in
          let of : (8 * i + j) % 8 ≡ j = omega arith in
          sym (ap₂ (λ i j. get_or (flags_in 8 (byte_at b i)) j false) at of)
          ∙ stand (8 * i + j) (omega arith)
          ∙ sym (get_d_range (λ n. occurs n ns) (8 * i) 8 false j k)

  pub stand_names : b ≡ write_names ns ++ drop name_map_bytes b
  stand_names =
      sym (take-append-drop name_map_bytes b)
      ∙ ap (λ l. l ++ drop name_map_bytes b)
      (ext_get_or 0 (take name_map_bytes b) (write_names ns) (length-take-le name_map_bytes b long)
      (λ i h. byte i (omega (arith, length-take-le name_map_bytes b long))))
    where
      byte : (i : ℕ) → i < name_map_bytes → get_or (take name_map_bytes b) i 0 ≡ get_or (write_names ns) i 0
      byte i h =
          get_or-take name_map_bytes b i 0 h
          ∙ byte-names i h
          ∙ ap (names_byte ns) (let e : i ≡ 0 + i = omega arith in e)
          ∙ sym (get_d_range (names_byte ns) 0 name_map_bytes 0 i h)

-- ---- map and pattern

pub occurs-ascending : (t : Term) (n : ℕ) → n < name_count → occurs n (ascending t) ≡ occurs n (names t)
occurs-ascending t n h =
    occurs-keep (λ n. occurs n (names t)) n (range 0 name_count)
    ∙ and_always (occurs n (names t)) (occurs n (range 0 name_count)) (occurs-range 0 name_count n (omega arith) (omega arith))

below-range : (k from n : ℕ) → k < from → occurs k (range from n) ≡ false
below-range k from zero h = refl
below-range k from (suc n) h =
    or_neither (eqb k from) (occurs k (range (suc from) n)) (ne_eqb k from (λ e. absurd (omega arith)))
    (below-range k (suc from) n (omega arith))

pub range-once : (from n : ℕ) → NoneTwice (range from n)
range-once from zero = tt
range-once from (suc n) = (below-range from (suc from) n (omega arith), range-once (suc from) n)

pub ascending-once : (t : Term) → NoneTwice (ascending t)
ascending-once t = none_twice_keep (λ n. occurs n (names t)) (range 0 name_count) (range-once 0 name_count)

pub apart-same : (a b : Bool) → apart a b ≡ false → a ≡ b
apart-same true true e = refl
apart-same true false e = absurd (true≢false e)
apart-same false true e = absurd (true≢false e)
apart-same false false e = refl

pub same-apart : (a b : Bool) → a ≡ b → apart a b ≡ false
same-apart true true e = refl
same-apart true false e = e
same-apart false true e = sym e
same-apart false false e = refl

module _ (b : List ℕ) (t : Term) where
  abbrev test : ℕ → Bool
  test n = apart (name_stands b n) (occurs n (names t))

  -- The test tells where map and pattern differ.
  test-differs : (n : ℕ) → n < name_count → test n ≡ true → Differs b t n
  test-differs n h e = (h, λ same. true≢false (sym e ∙ same-apart (name_stands b n) (occurs n (names t)) same))

  agrees-test : (n : ℕ) → n < name_count → (Differs b t n → ⊥) → test n ≡ false
  agrees-test n h same = go (test n) refl
    where
      go : (c : Bool) → test n ≡ c → test n ≡ false
      go false e = e
      go true e = absurd (same (test-differs n h e))

  pub unlike-same : (first (unlike b t) ≡ none) ↔ ((n : ℕ) → n < name_count → name_stands b n ≡ occurs n (names t))
  unlike-same = (
    (λ e n h. apart-same (name_stands b n) (occurs n (names t)) (first_nowhere test 0 name_count e n (omega arith) h)),
    (λ same. nowhere_first test 0 name_count (λ n lo hi. same-apart (name_stands b n) (occurs n (names t)) (same n hi))),
  )

  pub unlike_none : (first (unlike b t) ≡ none) ↔ ((n : ℕ) → Differs b t n → ⊥)
  unlike_none = (
    (λ e n d. d.1 (unlike-same.0 e n d.0)),
    (λ same. nowhere_first test 0 name_count (λ n lo hi. agrees-test n hi (same n))),
  )

  pub unlike_some : (n : ℕ) → (first (unlike b t) ≡ some n) ↔ (Differs b t n × ((m : ℕ) → m < n → Differs b t m → ⊥))
  unlike_some n = (
    (λ e.
        let r = first-least test 0 name_count n e in
        (test-differs n r.high r.passes, λ m h d. d.1 (apart-same (name_stands b m) (occurs m (names t)) (r.lower m (omega arith) h)))),
    (λ (d, lower). least_first test 0 name_count n (least d lower)),
  )
    where
      passes : Differs b t n → (c : Bool) → test n ≡ c → test n ≡ true
      passes d true e = e
      passes d false e = absurd (d.1 (apart-same (name_stands b n) (occurs n (names t)) e))

      least : Differs b t n → ((m : ℕ) → m < n → Differs b t m → ⊥) → Least test 0 name_count n
      least d lower = record {
        low = omega arith;
        high = d.0;
        passes = passes d (test n) refl;
        lower = λ m lo h. agrees-test m (let k = d.0 in omega arith) (lower m h);
      }

  pub unlike-names : name_map_bytes ≤ length b → IsBytes b → (first (unlike b t) ≡ none) ↔ (b ≡ write_names (ascending t) ++ drop name_map_bytes b)
  unlike-names long bytes = (
    (λ e. stand_names b (ascending t) bytes long (λ n h. unlike-same.0 e n h ∙ sym (occurs-ascending t n h))),
    (λ e.
        unlike-same.1
        (λ n h. ap (λ l. name_stands l n) e ∙ names_stand (ascending t) (drop name_map_bytes b) n h ∙ occurs-ascending t n h)),
  )
