-- `notes::put_note` meets its contract.
use Rattle.pages.proofs.Pages.{adds_then}
use Rattle.notes.proofs.Noting.{note_none, note_said}
use Rattle.notes.proofs.put_note.Goals as goal

pub returns-else-is_empty : goal.returns-else-is_empty
returns-else-is_empty c = note_none c.is_empty.ensures c.if-is_empty.false

pub returns-then-is_empty : goal.returns-then-is_empty
returns-then-is_empty c =
    note_said c.is_empty.ensures c.if-is_empty.true
    (adds_then c.put.ensures (adds_then c.put_name.ensures c.put-then-is_empty.ensures))
