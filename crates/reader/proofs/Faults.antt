-- Faults: the first byte at fault where no full word stands or level 33 would begin.
--
--   fault-ends, fault-deep, fault-unknown, fault-differs    the first byte of the term, which may be missing
--   fault-map                 the map behind a word of the kind that is due
--   fault-stops, lent_fits    the same in a file, where the rest of it is lent
--
use mathlib.Core.Path.{◌≡◌, refl, sym, ap, subst, ◌∙◌}
use mathlib.Core.Bool.{Bool, true, false, ◌&&◌, cond, and-false}
use mathlib.Core.List.{List, [], ◌∷◌}
use mathlib.Core.Logic.{◌⊎◌, inl, inr}
use Prim.Native.Nat.{ℕ, suc, ◌+◌, ◌-◌, ◌<◌, ◌≤◌}
use native.Mathlib.Decide.{dec_le}
use native.Mathlib.Omega.{arith}
use lib.Dec.{eqb}
use lib.ListN.{length, get_or, take, drop, length-drop, drop_of_length-le}
use lib.Seq.{drop-drop}
use borrow.Author.Tests.{le-ltb, lt-ltb, eq-eqb, ne_eqb, eqb-true}
use Rattle.wire.specs.Vocabulary.{Vocabulary, word, map_of}
use Rattle.wire.specs.TermLines.{Due}
use Rattle.wire.specs.Parser.{Got, got, stop, and_then, is_word}
use Rattle.wire.specs.FillComputed.{full_word, read_values}
use Rattle.wire.proofs.Cond.{cond_false}
use Rattle.wire.proofs.FullReading.{full-word, put, behind, values-node, values-limit}
use Rattle.signature.specs.Tables.{Tabled}
use Rattle.reader.specs.Full.{NotFull}
use Rattle.reader.specs.Fillings.{FaultAt}
use Rattle.reader.proofs.Standing.{rest-whole}

-- ---- where a full word is missing

module _ (W : Vocabulary) (k : ℕ) where
  none_ends : (l : List ℕ) (q : ℕ) → length l ≡ 0 → full_word W k l ≡ stop 22 (drop q l)
  none_ends [] q h = ap (stop 22) (sym (drop_of_length-le [] {i = q} (omega arith)))
  none_ends (f ∷ l) q h = absurd (omega arith)

  none_word : (l : List ℕ) → 0 < length l → (is_word W (get_or l 0 0) && eqb (word W (get_or l 0 0)).result k) ≡ false → full_word W k l ≡ stop 22 l
  none_word [] some e = absurd (omega arith)
  none_word (f ∷ l) some e = cond_false (is_word W f && eqb (word W f).result k) _ _ e

  none_map : (l : List ℕ) → 0 < length l → get_or l 0 0 < length W.words → (word W (get_or l 0 0)).result ≡ k → NotFull W k l → full_word W k l ≡ stop 22 (drop 1 l)
  none_map [] some known due none = absurd (omega arith)
  none_map (f ∷ []) some known due none = rw (lt-ltb f (length W.words) known, eq-eqb (word W f).result k due)
  none_map (f ∷ m ∷ l) some known due none = rw (lt-ltb f (length W.words) known, eq-eqb (word W f).result k due) (go (eqb m (map_of W f)) refl)
    where
      go : (b : Bool) → eqb m (map_of W f) ≡ b → cond b (got f l) (stop 22 (m ∷ l)) ≡ stop 22 (m ∷ l)
      go true e = absurd (none f l (ap (λ m. full_word W k (f ∷ m ∷ l)) (eqb-true m (map_of W f) e) ∙ full-word W k f l known due))
      go false e = refl

-- ---- the place of the fault

module _ (rest : List ℕ) (at depth k n : ℕ) (results : List ℕ) where
  -- At level 33 the term's first byte is at fault; above it the missing full word tells.
  fault_made : (q : ℕ) → at ≤ q → q ≤ at + length rest → (31 < depth → q ≡ at) →
      (depth ≤ 31 → (W : Vocabulary) → Tabled W n results → NotFull W k rest → full_word W k rest ≡ stop 22 (drop (q - at) rest)) →
      FaultAt rest at depth k n results q
  fault_made q low high deep shallow = record {
    from = low;
    up_to = high;
    stops = λ W tabled why ds. go (dec_le depth 31) W tabled why ds;
  }
    where
      go : Dec (depth ≤ 31) → (W : Vocabulary) → Tabled W n results → (31 < depth) ⊎ NotFull W k rest → (ds : List Due) →
          read_values W (record { sort = k; level = suc depth; root = false } ∷ ds) rest ≡ stop 22 (drop (q - at) rest)
      go (no over) W tabled why ds =
          let high : 31 < depth = omega arith in
          let e = deep high in
          let none : 0 ≡ q - at = omega arith in
          values-limit W (record { sort = k; level = suc depth; root = false }) ds rest (omega arith) ∙ ap (λ n. stop 22 (drop n rest)) none
      go (yes room) W tabled (inl over) ds = absurd (omega arith)
      go (yes room) W tabled (inr none) ds =
          let d : Due = record { sort = k; level = suc depth; root = false } in
          values-node W d ds rest (omega arith)
          ∙ ap (λ x. and_then x (λ f r. and_then (read_values W (behind W d ds f) r) (put W f))) (shallow room W tabled none)

  here : ◌≡◌ {A = Got ℕ} (stop 22 rest) (stop 22 (drop (at - at) rest))
  here = let none : 0 ≡ at - at = omega arith in ap (λ n. stop 22 (drop n rest)) none

  pub fault-ends : length rest ≡ 0 → FaultAt rest at depth k n results at
  fault-ends none = fault_made at (omega arith) (omega arith) (λ h. refl) (λ room W tabled other. none_ends W k rest (at - at) none)

  pub fault-deep : 31 < depth → FaultAt rest at depth k n results at
  fault-deep deep = fault_made at (omega arith) (omega arith) (λ h. refl) (λ room. absurd (omega arith))

  module _ (some : 0 < length rest) {f : ℕ} (first : f ≡ get_or rest 0 0) where
    pub fault-unknown : n ≤ f → FaultAt rest at depth k n results at
    fault-unknown high =
        fault_made at (omega arith) (omega arith) (λ h. refl)
        (λ room W tabled other.
        none_word W k rest some (ap (λ b. b && eqb (word W (get_or rest 0 0)).result k) (le-ltb (get_or rest 0 0) (length W.words) (omega (arith, tabled.words)))) ∙ here)

    pub fault-differs : f < n → (get_or results f 0 ≡ k → ⊥) → FaultAt rest at depth k n results at
    fault-differs known differs =
        fault_made at (omega arith) (omega arith) (λ h. refl)
        (λ room W tabled other.
        none_word W k rest some
        (ap (λ b. is_word W (get_or rest 0 0) && b)
        (ne_eqb _ _ (λ e. differs (tabled.result f known ∙ ap (λ f. (word W f).result) first ∙ e)))
        ∙ and-false (is_word W (get_or rest 0 0)))
        ∙ here)

    pub fault-map : depth ≤ 31 → f < n → get_or results f 0 ≡ k → FaultAt rest at depth k n results (at + 1)
    fault-map room known due =
        fault_made (at + 1) (omega arith) (omega arith) (λ h. absurd (omega arith))
        (λ low W tabled none.
        let one : 1 ≡ at + 1 - at = omega arith in
        none_map W k rest some (omega (arith, tabled.words)) (ap (λ f. (word W f).result) (sym first) ∙ sym (tabled.result f known) ∙ due) none
        ∙ ap (λ n. stop 22 (drop n rest)) one)

-- In a file, from an offset on.
pub fault-stops : (b : List ℕ) {at depth k n : ℕ} {results : List ℕ} {q : ℕ} → FaultAt (take (length b - at) (drop at b)) at depth k n results q → at ≤ length b →
    (W : Vocabulary) → Tabled W n results → (31 < depth) ⊎ NotFull W k (drop at b) → (ds : List Due) →
    (read_values W (record { sort = k; level = suc depth; root = false } ∷ ds) (drop at b) ≡ stop 22 (drop q b)) × (q ≤ length b)
fault-stops b {at} {depth} {k} {n} {results} {q} lent inside W tabled why ds =
    let x : FaultAt (drop at b) at depth k n results q = subst (λ l. FaultAt l at depth k n results q) (rest-whole b at) lent in
    let from = x.from in
    let up_to = x.up_to in
    let whole : at + (q - at) ≡ q = omega arith in (
      x.stops W tabled why ds ∙ ap (stop 22) (drop-drop (q - at) at b ∙ ap (λ n. drop n b) whole),
      omega (arith, length-drop at b),
    )

pub lent_fits : (b : List ℕ) (at : ℕ) {m : ℕ} → at ≤ length b → length b < m → at + length (take (length b - at) (drop at b)) < m
lent_fits b at inside fits = omega (arith, ap length (rest-whole b at), length-drop at b)
