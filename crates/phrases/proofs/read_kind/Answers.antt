-- `phrases::read_kind` meets its contract.
use mathlib.Core.Path.{sym, ◌∙◌}
use native.Mathlib.Omega.{arith}
use Rattle.phrases.proofs.Roots.{kind_missing, kind-unknown, kind-named}
use Rattle.phrases.proofs.read_kind.Goals as goal

pub returns-then-not-is_identifier : goal.returns-then-not-is_identifier
returns-then-not-is_identifier c = let a = c.args in
    kind_missing a.text.now a.kinds.now a.at a.k c.start-s.result c.requires.at_in_bounds c.start-s.ensures c.end.result c.start-named.result (sym c.is_mark.ensures ∙ c.if-not-is_mark.false) c.end.ensures c.start-named.ensures (sym c.is_identifier.ensures ∙ c.if-not-is_identifier.true)

pub returns-then-k-kind : goal.returns-then-k-kind
returns-then-k-kind c = let a = c.args in
    kind-unknown a.text.now a.kinds.now a.at a.k c.start-s.result c.requires.at_in_bounds c.start-s.ensures c.end.result c.start-named.result (sym c.is_mark.ensures ∙ c.if-not-is_mark.false) c.end.ensures c.start-named.ensures
    c.find-kind.result (sym c.is_identifier.ensures ∙ c.if-not-is_identifier.false) (omega (arith, c.told-kinds, c.requires.k_le_most_kinds)) c.find-kind.ensures c.if-k-kind.true

pub returns : goal.returns
returns c = let a = c.args in
    kind-named a.text.now a.kinds.now a.at a.k c.start-s.result c.requires.at_in_bounds c.start-s.ensures c.end.result c.start-named.result (sym c.is_mark.ensures ∙ c.if-not-is_mark.false) c.end.ensures c.start-named.ensures
    c.find-kind.result (sym c.is_identifier.ensures ∙ c.if-not-is_identifier.false) (omega (arith, c.told-kinds, c.requires.k_le_most_kinds)) c.find-kind.ensures c.end-2.result c.if-k-kind.false c.end-2.ensures
