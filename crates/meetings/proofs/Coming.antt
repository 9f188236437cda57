-- Coming: what meet_term and meet_places do.
--
--   some_levels, term_falls, places_fall, places-near   the levels left, the measures, and how far a level leads
--   meet_none, meet_open, meet_name, meet_apart, meet_word_lem   a term where no level is left, where the pattern has a name, where
--                          the entry has one, where the words differ and where they are the same
--   met_none .. met_word   the same, where the code finds the bytes
--   word-there             a word's byte is not missing
--   Coming                 the loop: the terms below a bit are met
--   coming_begins, coming_all   how that begins and ends
--   coming_ours, coming_theirs, coming_both, coming_apart   how it goes on, where at most the entry has written the place, only the
--                          pattern has, and both have
--   coming_small, bits_fall, term-near, theirs_fit, both_fit   the bits left are few and fall, and the sums fit
--   front-meeting          what meet answers
--
use mathlib.Core.Path.{◌≡◌, refl, sym, ap, ap₂, ◌∙◌, subst}
use mathlib.Core.Bool.{Bool, true, false}
use mathlib.Core.List.{List, ◌∷◌}
use Prim.Native.Nat.{ℕ, zero, suc, ◌+◌, ◌-◌, ◌*◌, ◌/◌, ◌%◌, ◌^◌, ◌<◌, ◌≤◌, min}
use native.Mathlib.Nat.{pow-le-pow_right}
use native.Mathlib.Omega.{arith}
use lib.Dec.{ltb, eqb}
use lib.ListN.{length, get_or, take}
use borrow.Author.Tests.{lt-ltb, le-ltb, ltb-true, ltb-false, eq-eqb, ne_eqb}
use Rattle.wire.specs.Map.{map_bits, map_bytes, flags_in, flags}
use Rattle.wire.specs.TermBytes.{first_name_byte, most_bytes, most_levels}
use Rattle.wire.proofs.Cond.{cond_true, cond_false}
use Rattle.maps.specs.Reading.{map_at}
use Rattle.extents.proofs.Extents.{front_is}
use Rattle.extents.specs.Bytes.{term_byte, Small}
use Rattle.meetings.specs.Passing.{passed, passed_if}
use Rattle.std.specs.Prelude.{None}
use Rattle.meetings.specs.Walking.{Walk, reached, size_in, entries_in, onward, meet_places, meet_word, meet_term, answer, meeting}
use Rattle.marks.specs.Inside.{most_entries}
use Rattle.meetings.specs.Inside.{NoteAt, farthest, Bounded, Met}
use Rattle.marks.proofs.Bits.{some_left, first_bit, fewer_bits}
use Rattle.extents.proofs.Bytes.{word-inside}
use Rattle.meetings.proofs.Passing.{passed-within}

-- ---- levels and measures

pub some_levels : {left : ℕ} → (left ≡ 0 → ⊥) → 0 < left
some_levels h = omega arith

pub term_falls : (left : ℕ) {t : ℕ} → 2 * left + 1 ≡ t → 2 * left < t
term_falls left h = omega arith

pub places_fall : (left : ℕ) {t : ℕ} → 2 * left ≡ t → (left ≡ 0 → ⊥) → 2 * (left - 1) + 1 < t
places_fall left h k = omega arith

pub places-near : (left j : ℕ) → (left ≡ 0 → ⊥) → j + farthest * left ≤ farthest * most_levels → j + farthest * (left - 1 + 1) ≤ farthest * most_levels
places-near left j h k = omega arith

-- ---- a term

module _ (left : ℕ) (e p m : List ℕ) (i j : ℕ) where
  abbrev whole : Walk
  whole = meet_term left e p m i j

  pub meet_none : left ≡ 0 → None ≡ whole
  unfolding meet_term
  meet_none z = ap (λ k. meet_term k e p m i j) (sym z)

  module _ (some : 0 < left) where
    one_less : whole ≡ meet_term (suc (left - 1)) e p m i j
    one_less = ap (λ k. meet_term k e p m i j) (let z : left ≡ suc (left - 1) = omega arith in z)

    pub meet_open : first_name_byte ≤ term_byte p j → whole ≡ reached (passed e i) 0
    unfolding meet_term
    meet_open h = one_less ∙ cond_false _ _ _ (le-ltb (term_byte p j) first_name_byte h)

    module _ (word : term_byte p j < first_name_byte) where
      pub meet_name : first_name_byte ≤ term_byte e i → whole ≡ reached (passed e i) (entries_in (get_or m j 0))
      unfolding meet_term
      meet_name h =
          one_less ∙ cond_true _ _ _ (lt-ltb (term_byte p j) first_name_byte word) ∙ cond_false _ _ _ (le-ltb (term_byte e i) first_name_byte h)

      module _ (ours : term_byte e i < first_name_byte) where
        pub meet_apart : (term_byte e i ≡ term_byte p j → ⊥) → whole ≡ None
        unfolding meet_term
        meet_apart h =
            one_less
            ∙ cond_true _ _ _ (lt-ltb (term_byte p j) first_name_byte word)
            ∙ cond_true _ _ _ (lt-ltb (term_byte e i) first_name_byte ours)
            ∙ cond_false _ _ _ (ne_eqb (term_byte e i) (term_byte p j) h)

        pub meet_word_lem : term_byte e i ≡ term_byte p j → whole ≡ meet_word (meet_term (left - 1) e p m) e p m i j
        unfolding meet_term
        meet_word_lem h =
            one_less
            ∙ cond_true _ _ _ (lt-ltb (term_byte p j) first_name_byte word)
            ∙ cond_true _ _ _ (lt-ltb (term_byte e i) first_name_byte ours)
            ∙ cond_true _ _ _ (eq-eqb (term_byte e i) (term_byte p j) h)

  -- What is met is right, where the code finds the bytes a and b.
  module _ (in_entry : i ≤ length e + 1) where
    pub met_none : left ≡ 0 → Met whole (length e) i None
    met_none z = record { same = meet_none z; bounded = tt }

    module _ (some : 0 < left) {b : ℕ} (there : Small b (term_byte p j)) where
      pub met_open : 127 < b → {to : ℕ} → to ≡ passed e i → Met whole (length e) i (reached to 0)
      met_open h {to} z =
          let w = passed-within true e i in_entry in
          record {
            same = ap (λ k. reached k 0) z ∙ sym (meet_open some (omega (arith, there.same)));
            bounded = (omega arith, omega arith, omega arith);
          }

      module _ (word : b ≤ 127) {a : ℕ} (here : Small a (term_byte e i)) where
        pub met_name : 127 < a → {to x : ℕ} → to ≡ passed e i → NoteAt x (get_or m j 0) → Met whole (length e) i (reached to (x / 8192))
        met_name h {to} {x} z k =
            let w = passed-within true e i in_entry in
            let low = k.low in
            record {
              same = ap₂ (λ n y. reached n (entries_in y)) z k.same ∙ sym (meet_name some (omega (arith, there.same)) (omega (arith, here.same)));
              bounded = (omega arith, omega arith, omega arith);
            }

        module _ (ours : a ≤ 127) where
          pub met_apart : (a ≡ b → ⊥) → Met whole (length e) i None
          met_apart h = record {
            same = sym (meet_apart some (omega (arith, there.same)) (omega (arith, here.same)) (λ z. h (here.same ∙ z ∙ sym there.same)));
            bounded = tt;
          }

          pub met_word : a ≡ b → {r : Walk} → Met (meet_word (meet_term (left - 1) e p m) e p m i j) (length e) i r → Met whole (length e) i r
          met_word h k = record {
            same = k.same ∙ sym (meet_word_lem some (omega (arith, there.same)) (omega (arith, here.same)) (sym here.same ∙ h ∙ there.same));
            bounded = k.bounded;
          }

-- A word's byte is not missing.
pub word-there : (l : List ℕ) (i : ℕ) {a : ℕ} → Small a (term_byte l i) → a ≤ 127 → i < length l
word-there l i s h = word-inside l i (omega (arith, s.same))

-- ---- the places of a word

pub record Coming (whole : Walk) (rec : ℕ → ℕ → Walk) (e m : List ℕ) (levels i at from n ours theirs : ℕ) : Type 0 where
  pub left : ℕ
  pub small_ours : ours < 2 ^ left
  pub small_theirs : theirs < 2 ^ left
  pub same : whole ≡ meet_places rec e m (flags_in left ours) (flags_in left theirs) at from n
  pub bits : left ≤ map_bits
  pub forth : i + 2 ≤ at
  pub inside : at ≤ length e + 1
  pub near : from + 8192 * left + farthest * levels ≤ farthest * most_levels
  pub few : n + most_entries * left ≤ most_entries * (map_bits * (at - i - 1))

pub coming_begins : (rec : ℕ → ℕ → Walk) (e p m : List ℕ) (levels i j : ℕ) {ours theirs : ℕ} → i < length e → j + farthest * (levels + 1) ≤ farthest * most_levels →
    Small ours (map_at e (i + 1)) → Small theirs (map_at p (j + 1)) → Coming (meet_word rec e p m i j) rec e m levels i (i + 2) (j + 2) 0 ours theirs
unfolding meet_word
coming_begins rec e p m levels i j {ours} {theirs} he near so st = record {
  left = map_bits;
  small_ours = so.low;
  small_theirs = st.low;
  same =
      ap₂ (λ x y. meet_places rec e m (flags x) (flags y) (i + 1 + map_bytes) (j + 1 + map_bytes) 0) (sym so.same) (sym st.same)
      ∙ ap₂ (λ x y. meet_places rec e m (flags ours) (flags theirs) x y 0)
      (let z : i + 1 + map_bytes ≡ i + 2 = omega arith in z) (let z : j + 1 + map_bytes ≡ j + 2 = omega arith in z);
  bits = omega arith;
  forth = omega arith;
  inside = omega arith;
  near = omega arith;
  few = omega arith;
}

none_met : (rec : ℕ → ℕ → Walk) (e m : List ℕ) (k i j n : ℕ) → meet_places rec e m (flags_in k 0) (flags_in k 0) i j n ≡ reached i n
none_met rec e m zero i j n = refl
none_met rec e m (suc k) i j n = none_met rec e m k i j n

module _ {whole : Walk} {rec : ℕ → ℕ → Walk} {e m : List ℕ} {levels i at from n ours theirs : ℕ}
    (h : Coming whole rec e m levels i at from n ours theirs) where
  pub coming_all : ours + theirs ≡ 0 → Met whole (length e) i (reached at n)
  coming_all z =
      let a = h.few in
      let b = h.forth in
      record {
        same =
            sym (h.same
            ∙ ap₂ (λ x y. meet_places rec e m (flags_in h.left x) (flags_in h.left y) at from n)
            (let o : ours ≡ 0 = omega arith in o) (let t : theirs ≡ 0 = omega arith in t)
            ∙ none_met rec e m h.left at from n);
        bounded = (omega arith, h.inside, omega arith);
      }

  pub term-near : from + farthest * levels ≤ farthest * most_levels
  term-near = let a = h.near in omega arith

  pub coming_small : ours + theirs < 512
  coming_small =
      let a : 2 ^ h.left ≤ 2 ^ map_bits = pow-le-pow_right (let z : 0 < 2 = omega arith in z) h.bits in
      let b = h.small_ours in
      let c = h.small_theirs in omega arith

  module _ (some : ours + theirs ≡ 0 → ⊥) where
    more : 0 < h.left
    more = go (ltb 0 ours) refl
      where
        go : (b : Bool) → ltb 0 ours ≡ b → 0 < h.left
        go true z = some_left h.left ours h.small_ours (ltb-true 0 ours z)
        go false z =
            some_left h.left theirs h.small_theirs
            (let none = ltb-false 0 ours z in
            go_on (ltb 0 theirs) refl none)
          where
            go_on : (b : Bool) → ltb 0 theirs ≡ b → ours ≤ 0 → 0 < theirs
            go_on true d l = ltb-true 0 theirs d
            go_on false d l = absurd (some (let z = ltb-false 0 theirs d in omega arith))

    pub bits_fall : ours / 2 + theirs / 2 < ours + theirs
    bits_fall = let k = some in omega arith

    begun : (a b : Bool) → eqb (ours % 2) 1 ≡ a → eqb (theirs % 2) 1 ≡ b →
        whole ≡ meet_places rec e m (a ∷ flags_in (h.left - 1) (ours / 2)) (b ∷ flags_in (h.left - 1) (theirs / 2)) at from n
    begun a b x y =
        h.same
        ∙ ap₂ (λ es ps. meet_places rec e m es ps at from n) (first_bit h.left ours more) (first_bit h.left theirs more)
        ∙ ap₂ (λ a b. meet_places rec e m (a ∷ flags_in (h.left - 1) (ours / 2)) (b ∷ flags_in (h.left - 1) (theirs / 2)) at from n) x y

    -- Only the entry is written, or neither is.
    pub coming_ours : theirs % 2 ≡ 0 → {to : ℕ} → to ≡ passed_if (eqb (ours % 2) 1) e at → Coming whole rec e m levels i to from n (ours / 2) (theirs / 2)
    coming_ours z {to} t =
        let w = passed-within (eqb (ours % 2) 1) e at h.inside in
        let a = h.few in
        let b = h.forth in
        let c = more in
        record {
          left = h.left - 1;
          small_ours = fewer_bits h.left ours h.small_ours more;
          small_theirs = fewer_bits h.left theirs h.small_theirs more;
          same =
              go (eqb (ours % 2) 1) refl
              ∙ ap (λ k. meet_places rec e m (flags_in (h.left - 1) (ours / 2)) (flags_in (h.left - 1) (theirs / 2)) k from n) (sym t);
          bits = omega (arith, h.bits);
          forth = omega arith;
          inside = omega arith;
          near = omega (arith, h.near);
          few = omega arith;
        }
      where
        go : (b : Bool) → eqb (ours % 2) 1 ≡ b →
            whole ≡ meet_places rec e m (flags_in (h.left - 1) (ours / 2)) (flags_in (h.left - 1) (theirs / 2)) (passed_if b e at) from n
        go true d = begun true false d (ne_eqb (theirs % 2) 1 (λ d. omega arith))
        go false d = begun false false d (ne_eqb (theirs % 2) 1 (λ d. omega arith))

    module _ (there : theirs % 2 ≡ 0 → ⊥) {x : ℕ} (k : NoteAt x (get_or m from 0)) where
      standing : eqb (theirs % 2) 1 ≡ true
      standing = eq-eqb (theirs % 2) 1 (omega arith)

      -- Only the pattern is written.
      pub coming_theirs : ours % 2 ≡ 0 → Coming whole rec e m levels i at (from + x % 8192) (n + x / 8192) (ours / 2) (theirs / 2)
      coming_theirs z =
          let a = h.few in
          let b = h.forth in
          let c = more in
          let d = k.low in
          record {
            left = h.left - 1;
            small_ours = fewer_bits h.left ours h.small_ours more;
            small_theirs = fewer_bits h.left theirs h.small_theirs more;
            same =
                begun false true (ne_eqb (ours % 2) 1 (λ d. omega arith)) standing
                ∙ ap (λ y. meet_places rec e m (flags_in (h.left - 1) (ours / 2)) (flags_in (h.left - 1) (theirs / 2)) at (from + size_in y) (n + entries_in y))
                (sym k.same);
            bits = omega (arith, h.bits);
            forth = h.forth;
            inside = h.inside;
            near = omega (arith, h.near);
            few = omega arith;
          }

      -- The sums fit.
      pub theirs_fit : length e ≤ most_bytes → ours % 2 ≡ 0 → (n + x / 8192 < 18446744073709551616) × (from + x % 8192 < 18446744073709551616)
      theirs_fit few z =
          let a = h.few in
          let b = h.inside in
          let d = k.low in
          let l = h.near in (omega arith, omega arith)

      -- Both are written.
      module _ (here : ours % 2 ≡ 0 → ⊥) {r : Walk} (met : Met (rec at from) (length e) at r) where
        abbrev next : ℕ → ℕ → Walk
        next to more = meet_places rec e m (flags_in (h.left - 1) (ours / 2)) (flags_in (h.left - 1) (theirs / 2)) to (from + size_in (get_or m from 0)) (n + more)

        through : whole ≡ onward r next
        through = begun true true (eq-eqb (ours % 2) 1 (omega arith)) standing ∙ ap (λ w. onward w next) (sym met.same)

        pub coming_apart : r ≡ None → Met whole (length e) i None
        coming_apart z = record { same = sym (through ∙ ap (λ w. onward w next) z); bounded = tt }

        pub both_fit : length e ≤ most_bytes → {to count : ℕ} → r ≡ reached to count →
            (n + count < 18446744073709551616) × (from + x % 8192 < 18446744073709551616)
        both_fit few {to} {count} z =
            let w : Bounded (length e) at (reached to count) = subst (Bounded (length e) at) z met.bounded in
            let a = h.few in
            let b = h.inside in
            let l = h.near in (omega arith, omega arith)

        pub coming_both : {to count : ℕ} → r ≡ reached to count → Coming whole rec e m levels i to (from + x % 8192) (n + count) (ours / 2) (theirs / 2)
        coming_both {to} {count} z =
            let w : Bounded (length e) at (reached to count) = subst (Bounded (length e) at) z met.bounded in
            let a = h.few in
            let b = h.forth in
            let c = more in
            record {
              left = h.left - 1;
              small_ours = fewer_bits h.left ours h.small_ours more;
              small_theirs = fewer_bits h.left theirs h.small_theirs more;
              same =
                  through
                  ∙ ap (λ w. onward w next) z
                  ∙ ap (λ y. meet_places rec e m (flags_in (h.left - 1) (ours / 2)) (flags_in (h.left - 1) (theirs / 2)) to (from + size_in y) (n + count))
                  (sym k.same);
              bits = omega (arith, h.bits);
              forth = omega arith;
              inside = w.1;
              near = omega (arith, h.near);
              few = omega arith;
            }

-- ---- the whole

-- What meet answers, by what it met in the first bytes.
pub front-meeting : (e p m : List ℕ) (a b : ℕ) → a ≡ min (length e) most_bytes → b ≡ min (length p) most_bytes →
    {r : Walk} → r ≡ meet_term most_levels (take a e) (take b p) m 0 0 → answer r ≡ meeting e p m
front-meeting e p m a b ea eb h =
    ap answer
    (h ∙ ap₂ (λ x y. meet_term most_levels x y m 0 0) (ap (λ n. take n e) ea ∙ front_is most_bytes e) (ap (λ n. take n p) eb ∙ front_is most_bytes p))
