-- Marking: a pattern is noted before the entries of an area are taken against it.
--
--   pattern-bytes    a pattern has two bytes or more
--   noted_struck     the entries are taken against it by what is noted
--
use mathlib.Core.Path.{◌≡◌, sym, ap, ◌∙◌, subst}
use mathlib.Core.List.{List, [], ◌++◌, append-nil}
use Prim.Native.Nat.{ℕ, suc, ◌≤◌}
use native.Mathlib.Nat.{le_of_lt}
use lib.ListN.{length, drop}
use Rattle.wire.specs.Vocabulary.{Vocabulary}
use Rattle.wire.specs.TermBytes.{encode_root}
use Rattle.slices.proofs.Writing.{part, part_is}
use Rattle.marks.specs.Marking.{marked, MarksOf}
use Rattle.marks.proofs.Marks.{marks_right}
use Rattle.strikes.specs.Calls.{Struck, LeftOf, leaves_of, AreaAt}
use Rattle.strikes.specs.Striking.{NotedAt, StrikesNoted}
use Rattle.strikes.proofs.Striking.{some_bytes}

module _ {area pattern siblings : List ℕ} {copied : ℕ} (h : AreaAt area pattern siblings copied) where
  abbrev W : Vocabulary
  W = h.vocabulary

  pub pattern-bytes : 2 ≤ length pattern
  pattern-bytes = subst (λ l. 2 ≤ length l) (sym h.begins) (some_bytes W h.kind h.term)

  behind-kind : part 1 pattern ≡ encode_root W h.term ++ []
  behind-kind = part_is 1 pattern ∙ ap (drop 1) h.begins ∙ sym (append-nil (encode_root W h.term))

  module _ (marks marks' : List ℕ) (room : length pattern ≤ length marks) (notes : marks' ≡ marked siblings (part 1 pattern) marks) where
    root-fits : suc (length (encode_root W h.term)) ≤ length marks
    root-fits = subst (λ l. length l ≤ length marks) h.begins room

    area-noted : NotedAt area pattern marks' siblings copied
    area-noted = record { at = h; marked = noted }
      where
        noted : MarksOf W h.term marks'
        noted =
            let t = h.tables in
            subst (MarksOf W h.term) (sym (notes ∙ ap (λ l. marked siblings l marks) behind-kind))
            (marks_right W t.in_order t.results siblings t.tabled.result t.siblings h.term h.kind h.pattern_of.sorted h.pattern_of.low
            h.pattern_of.short [] marks (le_of_lt root-fits))

    pub noted_struck : (before after : List ℕ) (r : Struck) → StrikesNoted area pattern marks' siblings copied before after r →
        LeftOf (leaves_of W h.kind h.term h.entries) 0 before after r
    unfolding area-noted
    noted_struck before after r strikes = strikes area-noted
