-- PartTable: part's span is the one that match's table gives the name, also where match was lent a blank table.
use mathlib.Core.Path.{◌≡◌, refl, sym, ap, ap₂, ◌∙◌, subst}
use mathlib.Core.Bool.{Bool, true, false, cond, ◌&&◌}
use mathlib.Core.List.{List}
use mathlib.Core.Logic.{◌⊎◌, inl, inr}
use mathlib.Core.Option.{Option, some, none}
use Prim.Native.Nat.{ℕ, ◌+◌, ◌*◌, ◌<◌, ◌≤◌}
use native.Mathlib.Omega.{arith}
use lib.Dec.{eqb, ltb}
use lib.ListN.{length, replicate, get_or-replicate}
use borrow.Author.Tests.{eq-eqb, lt-ltb, le-ltb}
use Rattle.terms.specs.Lists.{occurs}
use Rattle.terms.specs.Term.{names}
use Rattle.terms.specs.Filling.{Filling}
use Rattle.terms.specs.Matcher.{matcher}
use Rattle.wire.specs.TermBytes.{name_count}
use Rattle.wire.specs.Matching.{Inputs, table_length, Span, or_no_span, no_span, span, span_in, yes}
use Rattle.wire.specs.Effect.{Effect}
use Rattle.wire.specs.MatchComputed.{Judged, clear, refusal, judged, verdict, matched_with, matched, span_found, span_with, part_span}
use Rattle.wire.specs.Laws.{PartIsTable}
use Rattle.wire.proofs.Cond.{cond_true}
use Rattle.wire.proofs.Matching.{not_accepted, no_not_yes, yes_or_kept}
use Rattle.wire.proofs.Spans.{span-absent}
use Rattle.wire.proofs.SpanTable.{table-span}

-- What a match that says yes, and one that does not, have to do with the span x of a name n.
abbrev Tied : ℕ → Effect → Span → Type 0
Tied n m x = (m.reply ≡ yes → n < name_count → x ≡ span_in m.after n) × ((m.reply ≡ yes → ⊥) ⊎ (name_count ≤ n) → x ≡ no_span)

module _ (x : Inputs) (n : ℕ) where
  abbrev here : Span
  here = span x.vocabulary x.pattern x.situation n

  -- A name below 64 has its span, whether it stands in the pattern or not.
  low-span : n < name_count → cond (ltb n name_count && occurs n (names x.pattern)) here no_span ≡ here
  low-span low =
      ap (λ b. cond (b && occurs n (names x.pattern)) here no_span) (lt-ltb n name_count low) ∙ go (occurs n (names x.pattern)) refl
    where
      go : (b : Bool) → occurs n (names x.pattern) ≡ b → cond b here no_span ≡ here
      go true q = refl
      go false q = sym (ap or_no_span (span-absent x.vocabulary x.pattern x.situation n 1 q))

  verdict_tied : (table : List ℕ) (o : Option Filling) → Tied n (verdict table x o) (span_found x n o)
  verdict_tied table none = ((λ e low. absurd (no_not_yes e)), (λ h. refl))
  verdict_tied table (some f) = (
    (λ e low. low-span low ∙ sym (table-span x.vocabulary x.pattern x.situation n low)),
    high,
  )
    where
      high : (yes ≡ yes → ⊥) ⊎ (name_count ≤ n) → span_found x n (some f) ≡ no_span
      high (inl h) = absurd (h refl)
      high (inr h) = ap (λ b. cond (b && occurs n (names x.pattern)) here no_span) (le-ltb n name_count h)

pub part_is_table : PartIsTable
part_is_table v p s table n long = go (judged v p s)
  where
    go : (j : Judged) → Tied n (matched_with table j) (span_with n j)
    go (refusal m i q) = ((λ e low. absurd (not_accepted m i q _ e)), (λ h. refl))
    go (clear x) =
        let o = matcher x.pattern x.situation in
        subst (λ m. Tied n m (span_found x n o)) (sym (cond_true (eqb (length table) table_length) _ _ (eq-eqb (length table) table_length long)))
        (verdict_tied x n table o)

-- ---- a blank table

blank-span : (n : ℕ) → n < name_count → span_in (replicate table_length 0) n ≡ no_span
blank-span n low =
    ap₂ {C = Span} (λ o l. record { offset = o; bytes = l }) (get_or-replicate table_length (2 * n) 0 0 (omega arith))
    (get_or-replicate table_length (2 * n + 1) 0 0 (omega arith))

-- A table that match did not fill is still blank, as the part then is.
pub blank_part : (v p s : List ℕ) (n : ℕ) → n < name_count → span_in (matched v p s (replicate table_length 0)).after n ≡ part_span v p s n
blank_part v p s n low = go (yes_or_kept v p s blank)
  where
    blank : List ℕ
    blank = replicate table_length 0

    law : ((matched v p s blank).reply ≡ yes → n < name_count → part_span v p s n ≡ span_in (matched v p s blank).after n) ×
        (((matched v p s blank).reply ≡ yes → ⊥) ⊎ (name_count ≤ n) → part_span v p s n ≡ no_span)
    law = part_is_table v p s blank n refl

    go : ((matched v p s blank).reply ≡ yes) ⊎ (((matched v p s blank).reply ≡ yes → ⊥) × ((matched v p s blank).after ≡ blank)) →
        span_in (matched v p s blank).after n ≡ part_span v p s n
    go (inl e) = sym (law.0 e low)
    go (inr (e, kept)) = ap (λ t. span_in t n) kept ∙ blank-span n low ∙ sym (law.1 (inl e))
