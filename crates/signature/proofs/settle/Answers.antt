-- `signature::settle` meets its contract.
use native.Mathlib.Omega.{arith}
use Rattle.wire.proofs.Bytes.{bytes_of}
use Rattle.signature.proofs.Rounds.{searched_below}
use Rattle.signature.proofs.Settling.{tables-counted, settles-same, settles-moved}
use Rattle.signature.proofs.settle.Goals as goal

pub empty_kind-missing-requires-clause-filled_counted : goal.empty_kind-missing-requires-clause-filled_counted
empty_kind-missing-requires-clause-filled_counted c =
    tables-counted _ (bytes_of c.args.v.now (λ i. (c.type_inv.v i).fits)) _ _ _ _ c.requires.prepared.tables _ c.requires.prepared.counted

pub overflow_cast-e : goal.overflow_cast-e
overflow_cast-e c =
    omega (arith, searched_below _ _ _ _ c.empty_kind-missing.ensures _ c.in-Some.is, c.requires.kinds_value)

pub move_words-requires-clause-filled_counted : goal.move_words-requires-clause-filled_counted
move_words-requires-clause-filled_counted c =
    tables-counted _ (bytes_of c.args.v.now (λ i. (c.type_inv.v i).fits)) _ _ _ _ c.requires.prepared.tables _ c.requires.prepared.counted

pub returns-in_default : goal.returns-in_default
returns-in_default c =
    settles-same _ (bytes_of c.args.v.now (λ i. (c.type_inv.v i).fits)) _ _ _ _ c.requires.prepared.tables _ _
    c.empty_kind-missing.ensures c.in_default.is

pub returns-in-Some : goal.returns-in-Some
returns-in-Some c =
    settles-moved _ (bytes_of c.args.v.now (λ i. (c.type_inv.v i).fits)) _ _ _ _ c.requires.prepared.tables _ _
    c.empty_kind-missing.ensures _ c.in-Some.is _ c.move_words.ensures
