-- `reader::term::read_nodes` meets its contract. The loop's invariant: reading the node that is due at the cursor, and all that
-- is due behind it, gives what it gave from the first node on. The measure is the number of bytes left.
use native.Mathlib.Omega.{arith}
use Rattle.reader.specs.Terms.{Under}
use Rattle.std.proofs.lemmas.Result.{err_from_is_err_and}
use Rattle.reader.proofs.Tables.{few_words}
use Rattle.reader.proofs.Turns.{pass_asks}
use Rattle.reader.proofs.Places.{node-first, node-under, node-follows, node-refused, onward-passed, onward-ends, onward-node, positive}
use Rattle.reader.proofs.term.read_nodes.Goals as goal

pub loop-x-init : goal.loop-x-init
loop-x-init c = node-first c.args.first (omega arith) c.requires.0 c.requires.1

pub read_node-requires-clause-words_bound : goal.read_node-requires-clause-words_bound
read_node-requires-clause-words_bound c =
    let inv = c.loop-x.invariant in
    let few = few_words c.args.w.tables c.args.w.bytes in few

pub returns-in_err-x : goal.returns-in_err-x
returns-in_err-x c =
    let p = err_from_is_err_and c.from_residual.result c.from_residual.ensures.1 in
    rw (p.1, p.2) (
    let under : let a = c.args in Under a.w.v.now a.t.now a.w.count a.w.offsets.now a.w.results.now a.w.maps.now c.loop-x.frames c.loop-x.c = node-under c.loop-x.invariant c.requires.2 c.args.w.tables c.args.w.bytes in
    node-refused c.loop-x.invariant
    ((c.read_node.ensures c.args.w.v.now (under) c.loop-x.invariant.small
    ).fault _ c.in_err-x.was))

pub full_words-past-requires : goal.full_words-past-requires
full_words-past-requires c =
    let under : let a = c.args in Under a.w.v.now a.t.now a.w.count a.w.offsets.now a.w.results.now a.w.maps.now c.loop-x.frames c.loop-x.c = node-under c.loop-x.invariant c.requires.2 c.args.w.tables c.args.w.bytes in
    let answers = c.read_node.ensures c.args.w.v.now (under) c.loop-x.invariant.small in
    let followed = answers.went _ c.in_ok-x.was in followed.going

pub returns-then-past-eq0 : goal.returns-then-past-eq0
returns-then-past-eq0 c =
    let under : let a = c.args in Under a.w.v.now a.t.now a.w.count a.w.offsets.now a.w.results.now a.w.maps.now c.loop-x.frames c.loop-x.c = node-under c.loop-x.invariant c.requires.2 c.args.w.tables c.args.w.bytes in
    let answers = c.read_node.ensures c.args.w.v.now (under) c.loop-x.invariant.small in
    let followed = answers.went _ c.in_ok-x.was in
    onward-ends (onward-passed (node-follows c.loop-x.invariant followed) c.full_words-past.ensures) c.if-past-eq0.true

pub loop-x-preserved : goal.loop-x-preserved
loop-x-preserved c =
    let under : let a = c.args in Under a.w.v.now a.t.now a.w.count a.w.offsets.now a.w.results.now a.w.maps.now c.loop-x.frames c.loop-x.c = node-under c.loop-x.invariant c.requires.2 c.args.w.tables c.args.w.bytes in
    let answers = c.read_node.ensures c.args.w.v.now (under) c.loop-x.invariant.small in
    let followed = answers.went _ c.in_ok-x.was in
    let p = c.full_words-past.ensures in
    let low = positive _ c.if-past-eq0.false in
    let asks = pass_asks p.going.due (p.due low) in
    onward-node (onward-passed (node-follows c.loop-x.invariant followed) p) low (p.due low) (c.passed.ensures asks.0 asks.1 asks.2) c.onto-c.ensures
    c.kinds.ensures (c.args.w.bytes c.kinds.result)
