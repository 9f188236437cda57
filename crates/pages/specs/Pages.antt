-- Pages: a text that is put on a page piece by piece.
--
--   Holds out at g                     the text g is on the page out, up to the offset at; one past the end says that it had no room
--   Adds before at after next piece    the piece is put behind whatever text the page held
--   Puts before after piece            the same, of pages
--
use Rattle.std.specs.Prelude.{◌≡◌, ◌⊎◌, List, ◌++◌, ℕ, suc, ◌<◌, ◌≤◌, length, take}
use Rattle.pages.specs.declared.Page.{Page}

abbrev pub Holds : List ℕ → ℕ → List ℕ → Type 0
Holds out at g = ((at ≤ length out) × (take at out ≡ g)) ⊎ ((at ≡ suc (length out)) × (length out < length g))

pub record Adds (before : List ℕ) (at : ℕ) (after : List ℕ) (next : ℕ) (piece : List ℕ) : Type 0 where
  pub same : length after ≡ length before
  pub adds : (g : List ℕ) → Holds before at g → Holds after next (g ++ piece)

abbrev pub Puts : Page → Page → List ℕ → Type 0
Puts before after piece = Adds before.bytes before.end after.bytes after.end piece
