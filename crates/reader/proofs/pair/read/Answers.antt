-- `reader::pair::read` meets its contract.
use mathlib.Core.Path.{sym, ap, ◌∙◌}
use Rattle.wire.proofs.Bytes.{bytes_of}
use Rattle.signature.specs.Tables.{vocabulary_in}
use Rattle.reader.specs.Whole.{whole_told}
use Rattle.reader.proofs.Tables.{in_order}
use Rattle.reader.proofs.Pairs.{first_read, told-levels, spliced-read, spliced-whole}
use Rattle.reader.proofs.pair.read.Goals as goal

pub returns-then-x : goal.returns-then-x
returns-then-x c = λ agree. let a = c.args in let chosen = c.by_parts.ensures c.if-by_parts.true in
    spliced-whole c.in-Ok.x (in_order c.args.w.tables c.args.w.bytes) (bytes_of a.first.now (λ i. (c.type_inv.first i).fits)) (bytes_of a.second.now (λ i. (c.type_inv.second i).fits))
    (sym (ap whole_told c.in-Ok.is) ∙ c.read_named.ensures.told) c.read_named.ensures.table (agree chosen.agrees) chosen c.if-x.true

pub read_parts-requires : goal.read_parts-requires
read_parts-requires c = told-levels c.args.first.now (in_order c.args.w.tables c.args.w.bytes) (bytes_of c.args.first.now (λ i. (c.type_inv.first i).fits)) (sym (ap whole_told c.in-Ok.is) ∙ c.read_named.ensures.told)

pub returns-then-read_parts : goal.returns-then-read_parts
returns-then-read_parts c = λ agree. let a = c.args in let chosen = c.by_parts.ensures c.if-by_parts.true in
    spliced-read c.in-Ok.x (in_order c.args.w.tables c.args.w.bytes) (bytes_of a.first.now (λ i. (c.type_inv.first i).fits)) (bytes_of a.second.now (λ i. (c.type_inv.second i).fits))
    (sym (ap whole_told c.in-Ok.is) ∙ c.read_named.ensures.told) c.read_named.ensures.table (agree chosen.agrees) chosen (c.read_parts.ensures c.if-read_parts.true)

pub returns-after-by_parts : goal.returns-after-by_parts
returns-after-by_parts c = λ agree. let a = c.args in first_read (vocabulary_in a.w.v.now) a.first.now a.second.now c.in-Ok.x (sym (ap whole_told c.in-Ok.is) ∙ c.read_named.ensures.told) (c.read_second.ensures c.in-Ok.x)
