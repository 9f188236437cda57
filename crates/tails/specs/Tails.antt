-- Tails: what putting the notes on kinds and the leftovers of all patterns of a kind together promises, kind by kind.
--
--   Tailed X ps P              P holds of a text that is printed behind the patterns ps, kind by kind
--   Given                      the tables and the vocabulary's bytes are those of a good vocabulary, and these paragraphs are due
--   PutsTails                  what put_tails promises
--   PutsKind                   what is put for one kind; no public contract cites it
--
use Rattle.std.specs.Prelude.{◌≡◌, List, ℕ, ◌<◌, length}
use Rattle.terms.specs.Term.{Term}
use Rattle.wire.specs.Vocabulary.{encode_vocabulary}
use Rattle.texts.specs.Lexicon.{Lexicon, vocabulary_of}
use Rattle.texts.specs.Phrases.{Phrase}
use Rattle.texts.specs.Files.{Paragraph, phrases_of}
use Rattle.texts.specs.Tails.{IsTail, AreTails}
use Rattle.pages.specs.Pages.{Adds}
use Rattle.gatherings.specs.Courses.{Readable}
use Rattle.paragraphs.specs.Paragraphs.{places_table, Stands, Due}

abbrev pub Tailed : Lexicon → List Phrase → (List ℕ → Type 0) → Type 0
Tailed X ps P = (tail : List ℕ) × AreTails X ps 0 (length X) tail × P tail

-- The table ps has the numbers of places, and v is the vocabulary's bytes.
pub record Given (b : List ℕ) (at : ℕ) (ks : List ℕ) (k : ℕ) (ws : List ℕ) (n : ℕ) (r ps v : List ℕ) (m : ℕ) (X : Lexicon) (qs : List Paragraph) (ls : List (List Term)) : Type 0 where
  pub readable : Readable b at k n
  pub stands : Stands b ks k ws n r X
  pub places : ps ≡ places_table r
  pub bytes : v ≡ encode_vocabulary (vocabulary_of X)
  pub due : Due b at X m qs ls

pub record PutsKind (b : List ℕ) (at : ℕ) (ks : List ℕ) (k : ℕ) (ws : List ℕ) (n : ℕ) (r ps v : List ℕ) (m s : ℕ) (before : List ℕ) (to : ℕ) (after : List ℕ) (to' : ℕ) : Type 0 where
  pub puts : (X : Lexicon) (qs : List Paragraph) (ls : List (List Term)) → Given b at ks k ws n r ps v m X qs ls → s < length X →
      (text : List ℕ) × IsTail X (phrases_of qs) s text × Adds before to after to' text

pub record PutsTails (b : List ℕ) (at : ℕ) (ks : List ℕ) (k : ℕ) (ws : List ℕ) (n : ℕ) (r ps v : List ℕ) (m : ℕ) (before : List ℕ) (to : ℕ) (after : List ℕ) (to' : ℕ) : Type 0 where
  pub puts : (X : Lexicon) (qs : List Paragraph) (ls : List (List Term)) → Given b at ks k ws n r ps v m X qs ls →
      Tailed X (phrases_of qs) (λ tail. Adds before to after to' tail)
