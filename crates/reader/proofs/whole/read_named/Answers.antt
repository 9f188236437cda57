-- `reader::whole::read_named` meets its contract.
--
--   ordered, bytes    of the vocabulary and of the term
--
use mathlib.Core.Path.{refl}
use Rattle.wire.specs.Reply.{IsBytes}
use Rattle.wire.specs.Vocabulary.{InOrder}
use Rattle.wire.proofs.Bytes.{bytes_of}
use Rattle.std.proofs.lemmas.Result.{err_from_is_err_and}
use Rattle.signature.specs.Tables.{vocabulary_in}
use Rattle.reader.proofs.Tables.{in_order}
use Rattle.reader.proofs.Told.{told-fault, told_continues, told-read, ends}
use Rattle.reader.proofs.NameTables.{whole-refused, whole-read}
use Rattle.reader.proofs.whole.read_named.Goals as goal

pub returns-then-at-t : goal.returns-then-at-t
returns-then-at-t c =
    let ordered : InOrder (vocabulary_in c.args.w.v.now) = in_order c.args.w.tables c.args.w.bytes in
    let bytes : IsBytes c.args.t.now = bytes_of c.args.t.now (λ i. (c.type_inv.t i).fits) in
    let a = c.args in
    whole-refused refl (told_continues a.w.v.now a.t.now _ _ (ordered) (bytes) c.read_front.ensures c.in_ok-c.c c.in_ok-c.was c.if-at-t.true)

pub returns-in_err-c : goal.returns-in_err-c
returns-in_err-c c =
    let ordered : InOrder (vocabulary_in c.args.w.v.now) = in_order c.args.w.tables c.args.w.bytes in
    let bytes : IsBytes c.args.t.now = bytes_of c.args.t.now (λ i. (c.type_inv.t i).fits) in
    let a = c.args in
    let p = err_from_is_err_and c.from_residual.result c.from_residual.ensures.1 in
    rw (p.1, p.2) (whole-refused refl (told-fault a.w.v.now a.t.now _ _ ordered bytes c.read_front.ensures _ c.in_err-c.was))

pub returns : goal.returns
returns c =
    let ordered : InOrder (vocabulary_in c.args.w.v.now) = in_order c.args.w.tables c.args.w.bytes in
    let bytes : IsBytes c.args.t.now = bytes_of c.args.t.now (λ i. (c.type_inv.t i).fits) in
    let a = c.args in
    whole-read
    (told-read a.w.v.now a.t.now _ _ (ordered) (bytes) c.read_front.ensures c.in_ok-c.c c.in_ok-c.was c.if-at-t.false
    c.complete.ensures c.gap.ensures c.short.ensures)
    (ordered) (bytes) (ends a.w.v.now a.t.now _ _ (ordered) (bytes) c.read_front.ensures c.in_ok-c.c c.in_ok-c.was)
