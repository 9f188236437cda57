-- `report::Text::put_lines` meets its contract. The loop's invariant: of the lines, those of the entries in what is left of the listing are still to be put.
use Prim.Native.Nat.{◌+◌, ◌-◌}
use Rattle.wire.specs.Printing.{entry_lines}
use Rattle.wire.specs.EntryCut.{cut_entries}
use Rattle.report.proofs.Putting.{Printing}
use Rattle.report.proofs.Text.put_lines.Given as goal

abbrev pub invariant-loop-i : goal.invariant-loop-i
invariant-loop-i l = Printing (entry_lines 1 (cut_entries l.n l.listing)) (entry_lines (l.i + 1) (cut_entries (l.n - l.i) l.rest)) l.initial.self l.self
