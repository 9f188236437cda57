-- `blocks::put_lines` meets its contract.
use Rattle.wording.specs.Tables.{tables_of}
use Rattle.texts.specs.Answering.{leftover_line_by}
use Rattle.blocks.proofs.Blocks.{Going}
use Rattle.blocks.proofs.put_lines.Given as goal

abbrev pub invariant-loop-i : goal.invariant-loop-i
invariant-loop-i l = Going (leftover_line_by (tables_of l.tables)) l.listing l.n l.initial.page l._i l.rest l.page
