-- Puts: what putting the answer for a text that is in order promises.
--
--   PutsFile                   what put_file promises
--
use Rattle.std.specs.Prelude.{List, ℕ}
use Rattle.terms.specs.Term.{Term}
use Rattle.texts.specs.Lexicon.{Lexicon}
use Rattle.texts.specs.Files.{Paragraph, phrases_of}
use Rattle.texts.specs.Answers.{desk_text}
use Rattle.pages.specs.Pages.{Adds}
use Rattle.gatherings.specs.Courses.{Readable}
use Rattle.paragraphs.specs.Paragraphs.{Stands, Due}
use Rattle.tails.specs.Tails.{Tailed}

-- The text b has m paragraphs from the offset `at` on, and the tables are those of its vocabulary.
pub record PutsFile (b : List ℕ) (at : ℕ) (ks : List ℕ) (k : ℕ) (ws : List ℕ) (n : ℕ) (r : List ℕ) (m : ℕ) (before : List ℕ) (to : ℕ) (after : List ℕ) (to' : ℕ) : Type 0 where
  pub puts : (X : Lexicon) (qs : List Paragraph) (ls : List (List Term)) → Readable b at k n → Stands b ks k ws n r X → Due b at X m qs ls →
      Tailed X (phrases_of qs) (λ tail. Adds before to after to' (desk_text (record { lexicon = X; paragraphs = qs }) ls tail))
