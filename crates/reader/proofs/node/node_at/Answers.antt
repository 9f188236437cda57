-- `reader::node::node_at` meets its contract.
use native.Mathlib.Omega.{arith}
use lib.ListN.{get_or}
use Rattle.reader.proofs.Standing.{at-word}
use Rattle.reader.proofs.node.node_at.Goals as goal

pub returns-then-b-words : goal.returns-then-b-words
returns-then-b-words c =
    let a = c.args in
    let some = c.if-rest-eq0.false in
    at-word a.depth a.words a.results.now a.maps.now a.kind a.at a.rest.now (omega arith) c.if-depth-gt31.false
    (get_or a.rest.now 0 0) c.word_node.result c.if-b-words.true c.word_node.ensures
