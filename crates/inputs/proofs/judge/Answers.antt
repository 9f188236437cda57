-- `inputs::judge` meets its contract.
use mathlib.Core.Path.{sym, ap, ◌∙◌}
use Rattle.std.specs.Prelude.{Err}
use Rattle.reader.specs.Pairs.{pair_numbers}
use Rattle.inputs.specs.declared.InputsRefusal.TheVariants.{Vocabulary, Pattern, Situation, Incomplete}
use Rattle.inputs.proofs.Judging.{judged-refused, taken, first-apart, first-same, judged-other, judged-whole}
use Rattle.inputs.proofs.judge.Goals as goal

pub returns-then-ne : goal.returns-then-ne
returns-then-ne c = λ agree. let a = c.args in
    judged-other (taken a.vocabulary.now a.pattern.now a.situation.now (λ i. (c.type_inv.vocabulary i).fits) (λ i. (c.type_inv.pattern i).fits) (λ i. (c.type_inv.situation i).fits) (c.in-Ok.ensures agree))
    (λ e. first-apart (λ x. x.now) c.first.result c.first-in-Ok.result c.if-ne.ensures (c.first.ensures.value ∙ e ∙ sym c.first-in-Ok.ensures.value))

pub returns-else-ne : goal.returns-else-ne
returns-else-ne c = λ agree. let a = c.args in
    judged-whole (taken a.vocabulary.now a.pattern.now a.situation.now (λ i. (c.type_inv.vocabulary i).fits) (λ i. (c.type_inv.pattern i).fits) (λ i. (c.type_inv.situation i).fits) (c.in-Ok.ensures agree))
    (sym c.first.ensures.value ∙ first-same (λ x. x.now) c.first.result c.first-in-Ok.result c.if-ne.ensures ∙ c.first-in-Ok.ensures.value)

pub returns-in-Err-Vocabulary : goal.returns-in-Err-Vocabulary
returns-in-Err-Vocabulary c = λ agree. let a = c.args in
    judged-refused a.vocabulary.now a.pattern.now a.situation.now (Vocabulary c.in-Err-Vocabulary.why) (sym (ap pair_numbers (c.in-Err-Vocabulary.is ∙ ap Err c.in-Err-Vocabulary.field-0-is)) ∙ c.read_pair.ensures agree)

pub returns-in-Err-First : goal.returns-in-Err-First
returns-in-Err-First c = λ agree. let a = c.args in
    judged-refused a.vocabulary.now a.pattern.now a.situation.now (Pattern c.in-Err-First.why) (sym (ap pair_numbers (c.in-Err-First.is ∙ ap Err c.in-Err-First.field-0-is)) ∙ c.read_pair.ensures agree)

pub returns-in-Err-Second : goal.returns-in-Err-Second
returns-in-Err-Second c = λ agree. let a = c.args in
    judged-refused a.vocabulary.now a.pattern.now a.situation.now (Situation c.in-Err-Second.why) (sym (ap pair_numbers (c.in-Err-Second.is ∙ ap Err c.in-Err-Second.field-0-is)) ∙ c.read_pair.ensures agree)

pub returns-in-Err-Incomplete : goal.returns-in-Err-Incomplete
returns-in-Err-Incomplete c = λ agree. let a = c.args in
    judged-refused a.vocabulary.now a.pattern.now a.situation.now (Incomplete c.in-Err-Incomplete.q) (sym (ap pair_numbers (c.in-Err-Incomplete.is ∙ ap Err c.in-Err-Incomplete.field-0-is)) ∙ c.read_pair.ensures agree)
