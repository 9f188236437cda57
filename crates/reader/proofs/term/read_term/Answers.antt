-- `reader::term::read_term` meets its contract: 255, or the root and what is due behind it.
use mathlib.Core.Path.{ap, ◌∙◌}
use native.Mathlib.Omega.{arith}
use Rattle.cursors.specs.Cursors.{past_leaf}
use Rattle.cursors.specs.declared.Cursor.{Cursor}
use Rattle.reader.proofs.Tables.{few_words}
use Rattle.reader.proofs.Places.{ends_as, root-whole, root-read}
use Rattle.reader.proofs.term.read_term.Goals as goal

pub returns-then-whole_at : goal.returns-then-whole_at
returns-then-whole_at c =
    let there = c.whole_at.ensures.there c.if-whole_at.true in
    let few = few_words c.args.w.tables c.args.w.bytes in
    let words = c.args.w.tables.tabled.words in
    λ seen named.
    let at = ap (λ (d : Cursor). d.at) c.start-c.ensures in
    ends_as (c.leaf.ensures (let long = there.0 in let most = c.requires.2 in omega arith) (let long = there.0 in let most = c.requires.2 in omega arith) ∙ ap past_leaf c.start-c.ensures)
    (root-whole c.args.w.v.now c.args.t.now c.args.from c.args.kind c.requires.0 c.requires.2 there.0 there.1
    (omega arith) seen named)

pub returns : goal.returns
returns c =
    root-read c.args.w.v.now c.args.t.now c.args.from c.args.kind c.requires.0 c.start-c.ensures c.args.names.now c.read_nodes.new.names c.read_nodes.result
    (c.whole_at.ensures.other c.if-whole_at.false) c.read_nodes.ensures
