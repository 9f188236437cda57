-- Passing: a term that is passed.
--
--   passed-one, passed-end, passed_none    where there is one, at the end, and where none is due
--   passed-fits, passed-within    it is passed no further than the bytes go
--   passed-term                   a term that is written
--
use mathlib.Core.Path.{◌≡◌, refl, sym, ap, subst, ◌∙◌}
use mathlib.Core.Bool.{Bool, true, false}
use mathlib.Core.List.{List, ◌++◌}
use Prim.Native.Nat.{ℕ, ◌+◌, ◌-◌, ◌<◌, ◌≤◌}
use native.Mathlib.Nat.{le_refl, le_trans, le_of_lt}
use native.Mathlib.Omega.{arith}
use lib.Dec.{eqb}
use lib.ListN.{length, take, drop, length-drop, length-take, drop_of_length-le}
use lib.Seq.{take_all}
use borrow.Author.Tests.{eq-eqb, ne_eqb}
use Rattle.terms.specs.Term.{Term, Sorted}
use Rattle.wire.specs.Map.{is_open}
use Rattle.wire.specs.Vocabulary.{Vocabulary, InOrder, signature}
use Rattle.wire.specs.TermBytes.{encode_at, most_bytes}
use Rattle.wire.proofs.EntryCut.{due-within}
use Rattle.extents.specs.Extents.{most_extent, term_size}
use Rattle.extents.proofs.Extents.{term_extent}
use Rattle.marks.proofs.Standing.{fits}
use Rattle.meetings.specs.Passing.{passed, passed_if}

drop-whole : (l : List ℕ) (i : ℕ) → take (length l - i) (drop i l) ≡ drop i l
drop-whole l i = take_all (length l - i) (drop i l) (let e = length-drop i l in omega arith)

pub passed-one : (l : List ℕ) (i bit : ℕ) → bit ≡ 1 → {n : ℕ} → n ≡ term_size (take (length l - i) (drop i l)) → i + n ≡ passed_if (eqb bit 1) l i
unfolding passed
passed-one l i bit e h = ap (λ n. i + n) (h ∙ ap term_size (drop-whole l i)) ∙ ap (λ b. passed_if b l i) (sym (eq-eqb bit 1 e))

none_more : (i : ℕ) {n : ℕ} → 0 ≡ n → i ≡ i + n
none_more i e = omega arith

pub passed-end : (l : List ℕ) (i bit : ℕ) → bit ≡ 1 → length l ≤ i → i ≡ passed_if (eqb bit 1) l i
unfolding passed
passed-end l i bit e h = none_more i (sym (ap term_size (drop_of_length-le l h))) ∙ ap (λ b. passed_if b l i) (sym (eq-eqb bit 1 e))

pub passed_none : (l : List ℕ) (i bit : ℕ) → (bit ≡ 1 → ⊥) → i ≡ passed_if (eqb bit 1) l i
passed_none l i bit h = ap (λ b. passed_if b l i) (sym (ne_eqb bit 1 h))

take_short : (n : ℕ) (l : List ℕ) → length (take n l) ≤ length l
take_short n l = let e = length-take n l in omega arith

term-within : (l : List ℕ) (i : ℕ) → term_size (drop i l) ≤ length l - i
term-within l i =
    le_trans (le_trans (due-within 0 (take most_extent (drop i l)) 1) (take_short most_extent (drop i l)))
    (subst (λ k. length (drop i l) ≤ k) (length-drop i l) (le_refl (length (drop i l))))

both_ends : (i size : ℕ) {n : ℕ} → n ≤ size - i → (i ≤ i + n) × (i ≤ size → i + n ≤ size) × (i ≤ size + 1 → i + n ≤ size + 1)
both_ends i size h = (omega arith, λ k. omega arith, λ k. omega arith)

-- It is passed no further than the bytes go.
passed-ends : (l : List ℕ) (i : ℕ) → (i ≤ passed l i) × (i ≤ length l → passed l i ≤ length l) × (i ≤ length l + 1 → passed l i ≤ length l + 1)
unfolding passed
passed-ends l i = both_ends i (length l) (term-within l i)

below : {a b c : ℕ} → a ≡ b → b ≤ c → c < 18446744073709551616 → a < 18446744073709551616
below e h k = omega arith

-- So the offset behind it fits.
pub passed-fits : (l : List ℕ) (i : ℕ) → i < length l → length l < 18446744073709551616 → {n : ℕ} → n ≡ term_size (take (length l - i) (drop i l)) →
    i + n < 18446744073709551616
passed-fits l i h most e = below (passed-one l i 1 refl e) ((passed-ends l i).1 (le_of_lt h)) most

pub passed-within : (b : Bool) (l : List ℕ) (i : ℕ) → i ≤ length l + 1 → (i ≤ passed_if b l i) × (passed_if b l i ≤ length l + 1)
passed-within true l i h = ((passed-ends l i).0, (passed-ends l i).2 h)
passed-within false l i h = (le_refl i, h)

-- A term that is written there.
pub passed-term : (l : List ℕ) (i : ℕ) (W : Vocabulary) → InOrder W → (t : Term) (s : ℕ) → Sorted (signature W) t s → is_open t ≡ false → length l ≤ most_bytes →
    (r : List ℕ) → drop i l ≡ encode_at W t ++ r → passed l i ≡ i + length (encode_at W t)
unfolding passed
passed-term l i W in_order t s sorted closed short r h =
    let few = fits l i (encode_at W t) r h in
    ap (λ x. i + term_size x) h ∙ ap (λ n. i + n) (term_extent W in_order t s sorted closed (omega arith) r)
