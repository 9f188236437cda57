-- `signature::read_word` meets its contract: each case of its answer is one of `read_word`.
use native.Mathlib.Omega.{arith}
use Rattle.signature.proofs.RecordBytes.{record-bare, record-kinds}
use Rattle.signature.proofs.read_word.Goals as goal

pub returns-then-map-eq0 : goal.returns-then-map-eq0
returns-then-map-eq0 c =
    record-bare _ _ _ (λ i. (c.type_inv.v i).fits) (omega arith) c.if-kinds-v.false _ c.read-map.ensures c.if-map-eq0.true

pub returns : goal.returns
returns c =
    record-kinds _ _ _ (λ i. (c.type_inv.v i).fits) (omega arith) c.if-kinds-v.false _ c.read-map.ensures _ _
    c.count-places.ensures c.read_kinds.ensures
