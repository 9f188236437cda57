-- `lines::line_of` meets its contract. The loop's invariant: the line is one of those that are left.
use Rattle.std.proofs.Common.{◌≡◌, ◌-◌, ◌≤◌, length}
use Rattle.lines.specs.Lines.{line_of}
use Rattle.lines.proofs.line_of.Given as goal

abbrev pub invariant-loop-i : goal.invariant-loop-i
invariant-loop-i l = (line_of (l.number - l._i) l.left ≡ line_of l.number l.text) × (length l.left ≤ length l.text)
