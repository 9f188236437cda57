-- Noting: what mark_term does.
--
--   head_none, head-name, head-word, below-name, below_word   the head of a term, and the map below it
--   mark_none, mark_some    a term where no level is left, and where some are
--   notes_none              what is noted where no level is left
--   Noting                  the loop: the terms below a bit are noted
--   noting-begins, noting-clear, noting-term, noting-all    how that begins, goes on and ends
--   note_fits, offset-fits, entries_fit  what is noted has room
--
use mathlib.Core.Path.{◌≡◌, refl, sym, ap, ap₂, ◌∙◌}
use mathlib.Core.Bool.{Bool, true, false}
use mathlib.Core.List.{List, ◌∷◌}
use Prim.Native.Nat.{ℕ, zero, suc, ◌+◌, ◌-◌, ◌*◌, ◌/◌, ◌%◌, ◌^◌, ◌<◌, ◌≤◌}
use native.Mathlib.Omega.{arith}
use lib.Dec.{ltb, eqb}
use lib.ListN.{length, set, length-set}
use borrow.Author.Tests.{lt-ltb, le-ltb, ltb-true, ltb-false, eq-eqb, ne_eqb}
use Rattle.wire.specs.Map.{map_bits, map_bytes, flags_in}
use Rattle.wire.specs.TermBytes.{first_name_byte, most_bytes}
use Rattle.wire.proofs.Cond.{cond_true, cond_false}
use Rattle.maps.specs.Reading.{map_at}
use Rattle.extents.specs.Bytes.{term_byte, Small}
use Rattle.extents.proofs.Bytes.{missing}
use Rattle.marks.specs.Marking.{mark_scale, sibling_at, head_size, bits_below, Marking, marking, then, with_note, mark_places, mark_below, mark_term}
use Rattle.marks.specs.Inside.{most_entries, Notes}
use Rattle.marks.proofs.Bits.{some_left, first_bit, fewer_bits}

-- ---- the head of a term

module _ (l : List ℕ) (at : ℕ) where
  pub head_none : length l ≤ at → head_size l at ≡ 0
  head_none h = cond_false _ _ _ (le-ltb at (length l) h)

  pub head-name : at < length l → first_name_byte ≤ term_byte l at → head_size l at ≡ 1
  head-name h k = cond_true _ _ _ (lt-ltb at (length l) h) ∙ cond_false _ _ _ (le-ltb (term_byte l at) first_name_byte k)

  pub head-word : at < length l → term_byte l at < first_name_byte → head_size l at ≡ 1 + map_bytes
  head-word h k = cond_true _ _ _ (lt-ltb at (length l) h) ∙ cond_true _ _ _ (lt-ltb (term_byte l at) first_name_byte k)

  pub below-name : first_name_byte ≤ term_byte l at → bits_below l at ≡ 0
  below-name k = cond_false _ _ _ (le-ltb (term_byte l at) first_name_byte k)

  pub below_word : term_byte l at < first_name_byte → bits_below l at ≡ map_at l (at + 1)
  below_word k = cond_true _ _ _ (lt-ltb (term_byte l at) first_name_byte k)

  -- The head is inside, and has few entries: only a word has some, and it has two bytes.
  head_few : (siblings : List ℕ) {n : ℕ} → at ≤ length l + 1 → Small n (sibling_at siblings (term_byte l at)) →
      (at + head_size l at ≤ length l + 1) × (2 * n ≤ 255 * head_size l at)
  head_few siblings {n} within s = go (ltb at (length l)) refl (ltb (term_byte l at) first_name_byte) refl
    where
      none : first_name_byte ≤ term_byte l at → n ≡ 0
      none h = s.same ∙ cond_false _ _ _ (le-ltb (term_byte l at) first_name_byte h)

      go : (a : Bool) → ltb at (length l) ≡ a → (b : Bool) → ltb (term_byte l at) first_name_byte ≡ b →
          (at + head_size l at ≤ length l + 1) × (2 * n ≤ 255 * head_size l at)
      go true x true y =
          let h = ltb-true at (length l) x in
          let z = head-word h (ltb-true (term_byte l at) first_name_byte y) in
          let k = s.low in (omega arith, omega arith)
      go true x false y =
          let h = ltb-true at (length l) x in
          let d = ltb-false (term_byte l at) first_name_byte y in
          let z = head-name h d in
          let k = none (let w : first_name_byte ≤ term_byte l at = omega arith in w) in (omega arith, omega arith)
      go false x b y =
          let h = ltb-false at (length l) x in
          let z = head_none h in
          let d = missing l at h in
          let k = none (let w : first_name_byte ≤ term_byte l at = omega arith in w) in (omega arith, omega arith)

-- ---- a term

module _ (left : ℕ) (siblings l : List ℕ) (at : ℕ) (m : List ℕ) where
  pub mark_none : left ≡ 0 → mark_term left siblings l at m ≡ marking at 0 m
  unfolding mark_term
  mark_none e = ap (λ k. mark_term k siblings l at m) e

  pub mark_some : (left ≡ 0 → ⊥) → mark_term left siblings l at m ≡ with_note at (mark_below (mark_term (left - 1) siblings l) siblings l at m)
  unfolding mark_term
  mark_some h = ap (λ k. mark_term k siblings l at m) (let e : left ≡ suc (left - 1) = omega arith in e)

  pub notes_none : at ≤ length l + 1 → left ≡ 0 → Notes (mark_term left siblings l at m) (length l) at m at 0 m
  notes_none h e = record { same = mark_none e; forth = omega arith; inside = h; few = omega arith; long = refl }

-- ---- the terms below

pub record Noting (whole : Marking) (rec : ℕ → List ℕ → Marking) (size word : ℕ) (before now : List ℕ) (n bits at : ℕ) : Type 0 where
  pub left : ℕ
  pub small : bits < 2 ^ left
  pub same : whole ≡ with_note word (mark_places rec (flags_in left bits) at n now)
  pub forth : word ≤ at
  pub inside : at ≤ size + 1
  pub few : 2 * n ≤ 255 * (at - word)
  pub long : length now ≡ length before

pub noting-begins : (left : ℕ) (siblings l : List ℕ) (word : ℕ) (m : List ℕ) {b n bits head : ℕ} → word ≤ length l + 1 → (left ≡ 0 → ⊥) →
    Small b (term_byte l word) → Small n (sibling_at siblings b) → Small bits (bits_below l word) → head ≡ head_size l word →
    Noting (mark_term left siblings l word m) (mark_term (left - 1) siblings l) (length l) word m m n bits (word + head)
unfolding mark_below
noting-begins left siblings l word m {b} {n} {bits} {head} within some sb sn sm sh =
    let own : Small n (sibling_at siblings (term_byte l word)) = record { same = sn.same ∙ ap (sibling_at siblings) sb.same; low = sn.low } in
    let f = head_few l word siblings within own in
    record {
      left = map_bits;
      small = sm.low;
      same =
          mark_some left siblings l word m some
          ∙ ap₂ (λ i k. with_note word (mark_places (mark_term (left - 1) siblings l) (flags_in map_bits i) (word + head_size l word) k m))
          (sym sm.same) (sym own.same)
          ∙ ap (λ i. with_note word (mark_places (mark_term (left - 1) siblings l) (flags_in map_bits bits) (word + i) n m)) (sym sh);
      forth = omega arith;
      inside = omega (arith, f.0);
      few = omega (arith, f.1);
      long = refl;
    }

none_noted : (rec : ℕ → List ℕ → Marking) (k at n : ℕ) (m : List ℕ) → mark_places rec (flags_in k 0) at n m ≡ marking at n m
none_noted rec zero at n m = refl
none_noted rec (suc k) at n m = none_noted rec k at n m

module _ {whole : Marking} {rec : ℕ → List ℕ → Marking} {size word : ℕ} {before now : List ℕ} {n bits at : ℕ}
    (h : Noting whole rec size word before now n bits at) where
  -- What is noted has room.
  pub note_fits : size ≤ most_bytes → (at - word < mark_scale) × (n < most_entries)
  note_fits k = let a = h.inside in let b = h.few in (omega arith, omega arith)

  pub offset-fits : size ≤ most_bytes → at < 18446744073709551616
  offset-fits k = let a = h.inside in omega arith

  pub noting-all : bits ≡ 0 → {after : List ℕ} → after ≡ set now word (at - word + mark_scale * n) → Notes whole size word before at n after
  noting-all e {after} z = record {
    same =
        h.same
        ∙ ap (λ i. with_note word (mark_places rec (flags_in h.left i) at n now)) e
        ∙ ap (with_note word) (none_noted rec h.left at n now)
        ∙ ap (marking at n) (sym z);
    forth = h.forth;
    inside = h.inside;
    few = h.few;
    long = ap length z ∙ length-set now word (at - word + mark_scale * n) ∙ h.long;
  }

  module _ (some : bits ≡ 0 → ⊥) where
    more : 0 < h.left
    more = some_left h.left bits h.small (omega arith)

    fewer : bits / 2 < 2 ^ (h.left - 1)
    fewer = fewer_bits h.left bits h.small more

    begun : (b : Bool) → eqb (bits % 2) 1 ≡ b → whole ≡ with_note word (mark_places rec (b ∷ flags_in (h.left - 1) (bits / 2)) at n now)
    begun b e =
        h.same
        ∙ ap (λ fs. with_note word (mark_places rec fs at n now)) (first_bit h.left bits more)
        ∙ ap (λ c. with_note word (mark_places rec (c ∷ flags_in (h.left - 1) (bits / 2)) at n now)) e

    pub noting-clear : (bits % 2 ≡ 1 → ⊥) → Noting whole rec size word before now n (bits / 2) at
    noting-clear e = record {
      left = h.left - 1;
      small = fewer;
      same = begun false (ne_eqb (bits % 2) 1 e);
      forth = h.forth;
      inside = h.inside;
      few = h.few;
      long = h.long;
    }

    module _ (e : bits % 2 ≡ 1) {end k : ℕ} {after : List ℕ} (t : Notes (rec at now) size at now end k after) where
      pub noting-term : Noting whole rec size word before after (n + k) (bits / 2) end
      noting-term =
          let a = h.few in
          let b = h.forth in
          let c = t.few in
          let d = t.forth in
          record {
            left = h.left - 1;
            small = fewer;
            same =
                begun true (eq-eqb (bits % 2) 1 e)
                ∙ ap (λ x. with_note word (then x (λ end k r. mark_places rec (flags_in (h.left - 1) (bits / 2)) end (n + k) r))) t.same;
            forth = omega arith;
            inside = t.inside;
            few = omega arith;
            long = t.long ∙ h.long;
          }

      pub entries_fit : size ≤ most_bytes → n + k < 18446744073709551616
      entries_fit few =
          let a = h.few in
          let b = h.inside in
          let c = t.few in
          let d = t.inside in omega arith
