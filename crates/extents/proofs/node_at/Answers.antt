-- `extents::node_at` meets its contract.
use mathlib.Core.Path.{◌≡◌, sym, ◌∙◌}
use Prim.Native.Nat.{◌+◌}
use lib.ListN.{get_or}
use Rattle.maps.proofs.Reading.{map_at_lem}
use Rattle.extents.proofs.Nodes.{node-word}
use Rattle.extents.proofs.node_at.Goals as goal

-- The map is the byte behind the word.
pub returns-then-next-bytes : goal.returns-then-next-bytes
returns-then-next-bytes c =
    let bytes = c.args.bytes.now in
    let behind : c.read.result ≡ get_or bytes (c.args.at + 1) 0 = c.read.ensures ∙ sym (map_at_lem bytes (c.args.at + 1)) in
    node-word bytes _ c.requires behind (rw behind (c.type_inv.bytes (c.args.at + 1)).fits) c.if-bytes-at-lt128.true c.if-next-bytes.true
