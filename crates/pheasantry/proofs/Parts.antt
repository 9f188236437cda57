-- Parts: where the part of a name stands, read off the table of match.
use mathlib.Core.Path.{◌≡◌, refl, sym, ap, ap₂, ◌∙◌, subst}
use mathlib.Core.List.{List, [], ◌∷◌}
use mathlib.Core.Logic.{inr}
use Prim.Native.Nat.{ℕ, ◌+◌, ◌*◌, ◌<◌}
use native.Mathlib.Omega.{arith}
use lib.ListN.{get_or, replicate}
use Rattle.wire.specs.Reply.{accepted}
use Rattle.wire.specs.TermBytes.{name_count}
use Rattle.wire.specs.Matching.{table_length, Span, no_span, span_in, cut_out, PartPromise}
use Rattle.wire.specs.MatchComputed.{matched, part_span}
use Rattle.wire.proofs.Matching.{part-keeps}
use Rattle.wire.proofs.PartTable.{part_is_table, blank_part}
use Rattle.matcher.proofs.Calls.{Lent}
use Rattle.numbers.specs.Numbers.{reply_numbers, span_said}
use Rattle.pheasantry.specs.Replies.{PartReplied}

-- The table as it is lent to match.
abbrev pub blank : List ℕ
blank = replicate table_length 0

module _ {v p s : List ℕ} (lent : Lent v p s) (n : ℕ) where
  -- What part ensures of its numbers.
  abbrev Ensured : List ℕ → Type 0
  Ensured numbers = PartReplied v p s n numbers × (span_said numbers ≡ part_span v p s n)

  -- The numbers of a span say it.
  replied : {numbers : List ℕ} (x : Span) → numbers ≡ reply_numbers (accepted (x.offset ∷ x.bytes ∷ [])) → x ≡ part_span v p s n →
      Ensured numbers
  replied x said e = subst Ensured (sym said) (
    record {
      form = refl;
      promise =
          subst (λ y. PartPromise v p s n y (cut_out s y)) (sym e)
          (part-keeps v p s n lent.vocabulary lent.pattern lent.situation);
    },
    e,
  )

  pub part-above : {numbers : List ℕ} → 63 < n → numbers ≡ reply_numbers (accepted (0 ∷ 0 ∷ [])) → Ensured numbers
  part-above l said = replied no_span said (sym ((part_is_table v p s blank n refl).1 (inr (omega arith))))

  pub part-matched : {table numbers : List ℕ} {o l : ℕ} → n < name_count → table ≡ (matched v p s blank).after →
      o ≡ get_or table (2 * n) 0 → l ≡ get_or table (2 * n + 1) 0 → numbers ≡ reply_numbers (accepted (o ∷ l ∷ [])) → Ensured numbers
  part-matched {o = o} {l = l} low t e h said =
      replied (record { offset = o; bytes = l }) said
      (ap₂ {C = Span} (λ a b. record { offset = a; bytes = b }) e h ∙ ap (λ t. span_in t n) t ∙ blank_part v p s n low)
