-- `spans::walk_words` meets its contract. The loop's invariant: terms without open places are due at i and j. The measure
-- is the number of the pattern's bytes that are left.
--   read, on    the inputs, and what is due behind nodes that are the same
use Prim.Native.Nat.{◌+◌}
use native.Mathlib.Omega.{arith}
use Rattle.spans.specs.Walking.{InputsRead, Going}
use Rattle.spans.proofs.Begin.{going-ends}
use Rattle.spans.proofs.Going.{going-inside, going-differs, going-shared, going-covers, going-named, going_unnamed, going-same}
use Rattle.spans.proofs.walk_words.Goals as goal

pub same_nodes-n-requires : goal.same_nodes-n-requires
same_nodes-n-requires c =
    let some = c.loop-i-test.true in (omega arith, (c.loop-i.invariant c.requires.inputs_read).side.inside_situation)

pub bounds-s-j : goal.bounds-s-j
bounds-s-j c =
    let read : let a = c.args in InputsRead a.p.now a.s.now = c.requires.inputs_read in
    let on : let a = c.args in let l = c.loop-i in Going a.p.now a.s.now l.spans (l.i + c.same_nodes-n.result) (l.j + c.same_nodes-n.result) = going-same (read) c.loop-i.invariant c.same_nodes-n.ensures in
    going-inside (on) c.if-i-p.true c.if-b-lt128.true (read)

pub returns-then-b-s : goal.returns-then-b-s
returns-then-b-s c =
    let read : let a = c.args in InputsRead a.p.now a.s.now = c.requires.inputs_read in
    let on : let a = c.args in let l = c.loop-i in Going a.p.now a.s.now l.spans (l.i + c.same_nodes-n.result) (l.j + c.same_nodes-n.result) = going-same (read) c.loop-i.invariant c.same_nodes-n.ensures in
    going-differs (on) c.if-i-p.true c.if-b-lt128.true c.if-b-s.true

pub walk_word-requires-clause-at_shared_word : goal.walk_word-requires-clause-at_shared_word
walk_word-requires-clause-at_shared_word c =
    let read : let a = c.args in InputsRead a.p.now a.s.now = c.requires.inputs_read in
    let on : let a = c.args in let l = c.loop-i in Going a.p.now a.s.now l.spans (l.i + c.same_nodes-n.result) (l.j + c.same_nodes-n.result) = going-same (read) c.loop-i.invariant c.same_nodes-n.ensures in
    going-shared (on) c.if-i-p.true c.if-b-lt128.true c.if-b-s.false

pub cover-requires-clause-name_bound : goal.cover-requires-clause-name_bound
cover-requires-clause-name_bound c =
    let read : let a = c.args in InputsRead a.p.now a.s.now = c.requires.inputs_read in
    let on : let a = c.args in let l = c.loop-i in Going a.p.now a.s.now l.spans (l.i + c.same_nodes-n.result) (l.j + c.same_nodes-n.result) = going-same (read) c.loop-i.invariant c.same_nodes-n.ensures in
    (going-covers (on) c.if-i-p.true c.if-b-lt128.false c.from.ensures (read)).0

pub cover-requires-clause-name_in_bounds : goal.cover-requires-clause-name_in_bounds
cover-requires-clause-name_in_bounds c =
    let read : let a = c.args in InputsRead a.p.now a.s.now = c.requires.inputs_read in
    let on : let a = c.args in let l = c.loop-i in Going a.p.now a.s.now l.spans (l.i + c.same_nodes-n.result) (l.j + c.same_nodes-n.result) = going-same (read) c.loop-i.invariant c.same_nodes-n.ensures in
    (going-covers (on) c.if-i-p.true c.if-b-lt128.false c.from.ensures (read)).1

pub returns-in_default-cover : goal.returns-in_default-cover
returns-in_default-cover c =
    let read : let a = c.args in InputsRead a.p.now a.s.now = c.requires.inputs_read in
    let on : let a = c.args in let l = c.loop-i in Going a.p.now a.s.now l.spans (l.i + c.same_nodes-n.result) (l.j + c.same_nodes-n.result) = going-same (read) c.loop-i.invariant c.same_nodes-n.ensures in
    going_unnamed (on) c.if-i-p.true c.if-b-lt128.false c.from.ensures c.in_default-cover.ensures

pub loop-i-preserved-else-b-lt128 : goal.loop-i-preserved-else-b-lt128
loop-i-preserved-else-b-lt128 c =
    let read : let a = c.args in InputsRead a.p.now a.s.now = c.requires.inputs_read in
    let on : let a = c.args in let l = c.loop-i in Going a.p.now a.s.now l.spans (l.i + c.same_nodes-n.result) (l.j + c.same_nodes-n.result) = going-same (read) c.loop-i.invariant c.same_nodes-n.ensures in
    going-named (on) c.if-i-p.true c.if-b-lt128.false c.from.ensures c.in-Some-cover.ensures

pub loop-i-preserved : goal.loop-i-preserved
loop-i-preserved c =
    let read : let a = c.args in InputsRead a.p.now a.s.now = c.requires.inputs_read in
    let on : let a = c.args in let l = c.loop-i in Going a.p.now a.s.now l.spans (l.i + c.same_nodes-n.result) (l.j + c.same_nodes-n.result) = going-same (read) c.loop-i.invariant c.same_nodes-n.ensures in
    on

pub returns : goal.returns
returns c =
    going-ends c.loop-i.invariant c.loop-i-test.false
