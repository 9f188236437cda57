-- Texts: what the methods that put a text together promise each other; no public contract cites it.
--
--   HasRoom text piece         the lent bytes have room for the piece behind the text
--   Puts before after piece    there was room, and the piece is put behind the text, in the same bytes
--
use Rattle.std.specs.Prelude.{◌≡◌, List, ℕ, ◌+◌, ◌≤◌, length}
use Rattle.report.specs.declared.Text.{Text}
use Rattle.report.specs.Putting.{Put}

abbrev pub HasRoom : Text → List ℕ → Type 0
HasRoom text piece = text.end + length piece ≤ length text.bytes.now

pub record Puts (before after : Text) (piece : List ℕ) : Type 0 where
  pub same_bytes : after.bytes.ghost_name ≡ before.bytes.ghost_name
  pub room : HasRoom before piece
  pub put : Put piece before.bytes.now before.end after.end after.bytes.now
