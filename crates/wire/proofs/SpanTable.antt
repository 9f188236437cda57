-- SpanTable: the table of match has two numbers a name, and they are the name's span.
use mathlib.Core.Path.{◌≡◌, refl, ap, ap₂, ◌∙◌}
use mathlib.Core.List.{List, [], ◌∷◌}
use Prim.Native.Nat.{ℕ, zero, suc, ◌+◌, ◌*◌, ◌<◌}
use native.Mathlib.Numerals.{add-one}
use native.Mathlib.Omega.{arith}
use lib.ListN.{length, get_or}
use Rattle.terms.specs.Lists.{range}
use Rattle.terms.specs.Term.{Term, Ground}
use Rattle.wire.specs.Vocabulary.{Vocabulary}
use Rattle.wire.specs.TermBytes.{name_count}
use Rattle.wire.specs.Matching.{table_length, Span, span, span_in}
use Rattle.wire.specs.MatchComputed.{span_numbers, span_table}

length-range : (from k : ℕ) → length (range from k) ≡ k
length-range from zero = refl
length-range from (suc k) = ap suc (length-range (suc from) k)

module _ (W : Vocabulary) (t : Term) (g : Ground) where
  length-spans : (ns : List ℕ) → length (span_numbers W t g ns) ≡ 2 * length ns
  length-spans [] = refl
  length-spans (n ∷ ns) = let h = length-spans ns in omega arith

  spans-at : (k from i j : ℕ) → i < k → j ≡ 2 * i →
      (get_or (span_numbers W t g (range from k)) j 0 ≡ (span W t g (from + i)).offset)
      × (get_or (span_numbers W t g (range from k)) (suc j) 0 ≡ (span W t g (from + i)).bytes)
  spans-at zero from i j l e = absurd (omega arith)
  spans-at (suc k) from zero zero l e =
      let same : from ≡ from + 0 = omega arith in
      (ap (λ (c : ℕ). (span W t g c).offset) same, ap (λ (c : ℕ). (span W t g c).bytes) same)
  spans-at (suc k) from zero (suc j) l e = absurd (omega arith)
  spans-at (suc k) from (suc i) zero l e = absurd (omega arith)
  spans-at (suc k) from (suc i) (suc zero) l e = absurd (omega arith)
  spans-at (suc k) from (suc i) (suc (suc j)) l e =
      let h = spans-at k (suc from) i j (omega arith) (omega arith) in
      let same : suc from + i ≡ from + suc i = omega arith in
      (h.0 ∙ ap (λ (c : ℕ). (span W t g c).offset) same, h.1 ∙ ap (λ (c : ℕ). (span W t g c).bytes) same)

  pub length-table : length (span_table W t g) ≡ table_length
  length-table = length-spans (range 0 name_count) ∙ ap (λ (c : ℕ). 2 * c) (length-range 0 name_count)

  pub table-span : (n : ℕ) → n < name_count → span_in (span_table W t g) n ≡ span W t g n
  table-span n l =
      let h = spans-at name_count 0 n (2 * n) l refl in
      let same : 0 + n ≡ n = omega arith in
      ap₂ {C = Span} (λ o k. record { offset = o; bytes = k })
      (h.0 ∙ ap (λ (c : ℕ). (span W t g c).offset) same)
      (ap (λ (c : ℕ). get_or (span_numbers W t g (range 0 name_count)) c 0) (add-one (2 * n)) ∙ h.1 ∙ ap (λ (c : ℕ). (span W t g c).bytes) same)
