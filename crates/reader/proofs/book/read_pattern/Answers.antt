-- `reader::book::read_pattern` meets its contract.
--
--   fronted    where a term was read: the pattern in front of the rest
--   fault      where it was not: why
--
use mathlib.Core.Path.{refl}
use lib.ListN.{drop}
use Rattle.wire.proofs.Bytes.{bytes_of}
use Rattle.signature.specs.Tables.{vocabulary_in}
use Rattle.reader.specs.Terms.{Refuses, front_run}
use Rattle.reader.specs.Books.{Fronted}
use Rattle.reader.proofs.Tables.{in_order}
use Rattle.reader.proofs.Fronts.{window, part-fault, part-ends}
use Rattle.reader.proofs.Books.{pattern-fault, pattern-between}
use Rattle.reader.proofs.book.read_pattern.Goals as goal

pub returns-in-Err : goal.returns-in-Err
returns-in-Err c =
    let fault : let a = c.args in Refuses (window (drop a.at a.b.now)) c.in-Err.why (front_run (vocabulary_in a.w.v.now) (window (drop a.at a.b.now))) = part-fault c.args.w.v.now c.args.b.now c.args.at c.requires c.min-limit.ensures c.read_front.new.names
    c.read_front.result c.read_front.ensures c.in-Err.is in
    let a = c.args in
    pattern-fault (vocabulary_in a.w.v.now) a.b.now a.at c.requires (fault) refl c.in_window.ensures c.placed.ensures

pub returns-in-Ok : goal.returns-in-Ok
returns-in-Ok c =
    let fronted : let a = c.args in Fronted (vocabulary_in a.w.v.now) (drop a.at a.b.now) c.in-Ok.c.at = part-ends c.args.w.v.now c.args.b.now c.args.at c.requires c.min-limit.ensures c.read_front.new.names c.read_front.result
    c.read_front.ensures (in_order c.args.w.tables c.args.w.bytes)
    (bytes_of c.args.b.now (λ i. (c.type_inv.b i).fits)) c.in-Ok.is in
    let a = c.args in
    let x = pattern-between (vocabulary_in a.w.v.now) a.b.now a.at (fronted) in
    c.judge_pattern.ensures (vocabulary_in a.w.v.now) (in_order c.args.w.tables c.args.w.bytes) c.args.w.tables.tabled.words x
