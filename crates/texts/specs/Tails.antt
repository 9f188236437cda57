-- Tails: what stands behind the patterns of a text, kind by kind.
--
--   IsTail X ps s text     the text is what is said of the kind s, and then what is printed for those of the patterns ps that are of it
--   AreTails X ps s k text    .. for each of the k kinds from s on
--
use Rattle.std.specs.Prelude.{◌≡◌, List, [], ◌++◌, ℕ, zero, suc}
use Rattle.texts.specs.Lexicon.{Lexicon}
use Rattle.texts.specs.Phrases.{Phrase}
use Rattle.texts.specs.Notes.{IsNote}
use Rattle.texts.specs.Together.{of_kind, IsTogether}

abbrev pub IsTail : Lexicon → List Phrase → ℕ → List ℕ → Type 0
IsTail X ps s text = (note here : List ℕ) × IsNote X s note × IsTogether X s (of_kind s ps) here × (text ≡ note ++ here)

abbrev pub AreTails : Lexicon → List Phrase → ℕ → ℕ → List ℕ → Type 0
AreTails X ps s zero text = text ≡ []
AreTails X ps s (suc k) text =
    (here behind : List ℕ) × IsTail X ps s here × AreTails X ps (suc s) k behind × (text ≡ here ++ behind)
