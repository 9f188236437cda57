-- Tallying: the words of each result kind are counted, one word after the other.
use mathlib.Core.Path.{◌≡◌, refl, sym, ap, ◌∙◌}
use mathlib.Core.Bool.{Bool, true, false}
use mathlib.Core.List.{List, [], ◌∷◌}
use Prim.Native.Nat.{ℕ, ◌+◌, ◌%◌, ◌<◌, ◌≤◌}
use native.Mathlib.Omega.{arith}
use lib.ListN.{length, get_or, set, replicate, take, length-set, get_or-replicate}
use Rattle.std.proofs.lemmas.List.{get_or-take}
use lib.Seq.{get_or-set_same, get_or-set_other}
use borrow.Author.Tests.{eqb-true, eqb-false}
use Rattle.terms.specs.Lists.{range, keep}
use Rattle.terms.proofs.Count.{bit, count, count-append, count_le, length-keep, length-range}
use Rattle.wire.specs.Vocabulary.{most_kinds}
use Rattle.kinds.specs.Kinds.{kind_in, has_kind, Tallied}
use Rattle.kinds.proofs.Ranges.{range-next}

pub tallied_none : (results : List ℕ) → Tallied 0 results (replicate most_kinds 0)
tallied_none results = record { size = refl; each = λ k low. get_or-replicate most_kinds k 0 0 low }

module _ (results : List ℕ) (k : ℕ) where
  abbrev many : ℕ → ℕ
  many n = length (keep (has_kind results k) (range 0 n))

  many-counted : (n : ℕ) → many n ≡ count (has_kind results k) (range 0 n)
  many-counted n = length-keep (has_kind results k) (range 0 n)

  many-next : (h : ℕ) → many (h + 1) ≡ many h + bit (has_kind results k h)
  many-next h =
      many-counted (h + 1)
      ∙ ap (count (has_kind results k)) (range-next h)
      ∙ count-append (has_kind results k) (range 0 h) (h ∷ [])
      ∙ omega (arith, many-counted h)

  many-few : (n : ℕ) → many n ≤ n
  many-few n = omega (arith, many-counted n, count_le (has_kind results k) (range 0 n), length-range 0 n)

pub tallied-few : {results counts : List ℕ} {h : ℕ} → Tallied h results counts → (k : ℕ) → k < most_kinds → get_or counts k 0 ≤ h
tallied-few {results} {counts} {h} t k low = omega (arith, t.each k low, many-few results k h)

module _ {results counts : List ℕ} {h : ℕ} (t : Tallied h results counts) (k : ℕ) (same : k ≡ kind_in results h) (low : k < most_kinds) where
  abbrev next : List ℕ
  next = set counts k (get_or counts k 0 + 1)

  next-each : (j : ℕ) → j < most_kinds → (b : Bool) → has_kind results j h ≡ b → get_or next j 0 ≡ many results j h + bit b
  next-each j small true e =
      let s = t.size in
      let here : j ≡ k = sym (eqb-true (kind_in results h) j e) ∙ sym same in
      ap (λ i. get_or next i 0) here ∙ get_or-set_same counts k (get_or counts k 0 + 1) 0 (omega arith)
      ∙ ap (λ i. get_or counts i 0 + 1) (sym here)
      ∙ ap (λ n. n + 1) (t.each j small)
  next-each j small false e =
      get_or-set_other counts k j (get_or counts k 0 + 1) 0 (λ z. eqb-false (kind_in results h) j e (sym same ∙ sym z)) ∙ t.each j small ∙ omega arith

  pub tallied_turn : Tallied (h + 1) results next
  tallied_turn = record {
    size = length-set counts k (get_or counts k 0 + 1) ∙ t.size;
    each = λ j small. next-each j small (has_kind results j h) refl ∙ sym (many-next results j h);
  }

-- A word's kind, as it is read in the front of the table.
pub kind_front : (n : ℕ) (results : List ℕ) (h : ℕ) → h < n → {k : ℕ} → k ≡ get_or (take n results) h 0 % most_kinds → k ≡ kind_in results h
kind_front n results h low e = e ∙ ap (λ x. x % most_kinds) (get_or-take n results h 0 low)
