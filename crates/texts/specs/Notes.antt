-- Notes: what the answer says of a kind that no complete situation has. Leftovers with a place of such a kind are left out, so its reader
-- is to know of it: the kind's words may have been forgotten.
--
--   note_text X s           what is said of the kind s
--   IsNote X s text        the text is what is said of the kind s: nothing, where a complete situation has it
--
use Rattle.std.specs.Prelude.{List, [], ◌++◌, ℕ}
use Rattle.terms.specs.Inhabited.{HasGround, Empty}
use Rattle.wire.specs.Vocabulary.{signature}
use Rattle.wire.specs.Text.{ascii}
use Rattle.texts.specs.Names.{name_at}
use Rattle.texts.specs.Lexicon.{Lexicon, kind_names, vocabulary_of}

-- `# kind printer has no complete situation`, and an empty line.
abbrev pub note_text : Lexicon → ℕ → List ℕ
note_text X s = ascii "# kind " ++ (name_at (kind_names X) s ++ ascii " has no complete situation\n\n")

pub data IsNote (X : Lexicon) (s : ℕ) : List ℕ → Type 0 where
  inhabited : HasGround (signature (vocabulary_of X)) s → IsNote X s []
  empty : Empty (signature (vocabulary_of X)) s → IsNote X s (note_text X s)
