-- `reader::node::word_node` meets its contract.
use mathlib.Core.Path.{◌≡◌, sym, ◌∙◌}
use native.Mathlib.Omega.{arith}
use lib.ListN.{get_or}
use Rattle.maps.proofs.Reading.{map_at_lem}
use Rattle.reader.proofs.Standing.{word-stray, word_stands}
use Rattle.reader.proofs.node.word_node.Goals as goal

pub returns-then-written-map : goal.returns-then-written-map
returns-then-written-map c =
    let second : c.read-written.result ≡ get_or c.args.rest.now 1 0 = c.read-written.ensures ∙ sym (map_at_lem c.args.rest.now 1) in
    let a = c.args in
    word-stray a.word a.res a.map a.kind a.at a.rest.now c.requires.1 c.requires.2 (second)
    c.if-res-kind.false c.if-rest-lt-NODE.false (omega arith) c.if-written-map.true

pub returns : goal.returns
returns c =
    let second : c.read-written.result ≡ get_or c.args.rest.now 1 0 = c.read-written.ensures ∙ sym (map_at_lem c.args.rest.now 1) in
    let a = c.args in
    word_stands a.word a.res a.map a.kind a.at a.rest.now c.requires.1 c.requires.2 (second)
    c.if-res-kind.false c.if-rest-lt-NODE.false (omega arith) c.if-written-map.false
