-- `blocks::put_lines` meets its contract.
use Rattle.std.proofs.Common.{arith}
use Rattle.texts.specs.Answering.{leftover_line_by}
use Rattle.wire.proofs.EntryCut.{entry-within}
use Rattle.wording.specs.Tables.{tables_of}
use Rattle.blocks.proofs.Blocks.{going_turn, going-all}
use Rattle.blocks.proofs.put_lines.Goals as goal

pub split_at-requires : goal.split_at-requires
split_at-requires c = omega (arith, entry-within c.loop-i.rest.now)

pub loop-i-preserved : goal.loop-i-preserved
loop-i-preserved c =
    going_turn {f = leftover_line_by (tables_of c.args.tables.now)} {l = c.args.listing.now} {n = c.args.n} {before = c.args.page.now} {i = c.loop-i._i}
    {rest = c.loop-i.rest.now} {now = c.loop-i.page} c.loop-i.invariant c.loop-i-test.true {size = c.entry_size.result} c.entry_size.ensures
    {entry = c.split_at.result.0.now} {behind = c.split_at.result.1.now} c.split_at.ensures.front c.split_at.ensures.back
    {next = c.put_line.new.page} c.put_line.ensures

pub returns : goal.returns
returns c = going-all c.loop-i.invariant c.loop-i-test.false
