-- `dues::Known::put_words_of` meets its contract.
use mathlib.Core.Path.{sym, ap, ◌∙◌}
use native.Mathlib.Omega.{arith}
use Rattle.texts.specs.Complaints.{unlisted}
use Rattle.pages.proofs.Pages.{adds-nothing, adds_is, adds_then}
use Rattle.pages.proofs.Turns.{left-all, left_turn, left_end}
use Rattle.dues.proofs.Alternatives.{listing-all, listing-in, listing-out, listing-end}
use Rattle.dues.proofs.Known.put_words_of.Goals as goal
use Rattle.dues.proofs.Known.put_words_of.Goals.{then-from-kind, else-from-kind}

pub loop-i-init : goal.loop-i-init
loop-i-init c =
    let t = c.args.self.now in
    left-all c.args.page.now.bytes c.args.page.now.end (listing-all t.text.now t.kinds.now t.kind_count t.words.now t.word_count t.records.now c.args.kind)

pub loop-i-preserved : goal.loop-i-preserved
loop-i-preserved c =
    let t = c.args.self.now in
    elim c.if-from-kind.branch [
      | then-from-kind w ↦
          rw (w.page-is, w.again-is)
          (left_turn c.loop-i.invariant
          (listing-in t.text.now t.kinds.now t.kind_count t.words.now t.word_count t.records.now c.args.kind c.loop-i.i c.loop-i.again (omega arith) (sym c.from.ensures ∙ w.if-from-kind.true))
          (adds_then w.put_between.ensures w.put_word.ensures))
      | else-from-kind w ↦
          rw (w.page-is, w.again-is)
          (left_turn c.loop-i.invariant
          (listing-out t.text.now t.kinds.now t.kind_count t.words.now t.word_count t.records.now c.args.kind c.loop-i.i c.loop-i.again (omega arith) (λ e. w.if-from-kind.false (c.from.ensures ∙ e)))
          (adds-nothing c.loop-i.page.bytes c.loop-i.page.end))
    ]

pub returns-then-not-again : goal.returns-then-not-again
returns-then-not-again c =
    let t = c.args.self.now in
    let last = listing-end t.text.now t.kinds.now t.kind_count t.words.now t.word_count t.records.now c.args.kind c.loop-i.i c.loop-i.again (omega arith) in
    c.loop-i.invariant _ _ (adds_is (sym (last ∙ ap unlisted c.if-not-again.true)) c.put.ensures)

pub returns-else-not-again : goal.returns-else-not-again
returns-else-not-again c =
    let t = c.args.self.now in
    let last = listing-end t.text.now t.kinds.now t.kind_count t.words.now t.word_count t.records.now c.args.kind c.loop-i.i c.loop-i.again (omega arith) in
    left_end c.loop-i.invariant (last ∙ ap unlisted c.if-not-again.false)
