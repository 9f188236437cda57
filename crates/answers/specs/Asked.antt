-- Asked: what the functions that answer a text promise each other; no public contract cites it.
--
--   LexiconKnown               the vocabulary was read
--   AnswersWhole               the answer for a text, or what is said of its fault
--
use Rattle.std.specs.Prelude.{◌≡◌, List, ℕ, ◌≤◌, length, Ok}
use Rattle.terms.specs.Term.{Term}
use Rattle.texts.specs.Lexemes.{lexemes}
use Rattle.texts.specs.Files.{most_text, File, phrases_of, IsText}
use Rattle.texts.specs.Faults.{Fault}
use Rattle.texts.specs.Complaints.{Known, complaint}
use Rattle.texts.specs.Answers.{desk_text, AreListings}
use Rattle.texts.specs.LexiconReading.{read_lexicon}
use Rattle.texts.specs.Answering.{read_ill, read_file}
use Rattle.pages.specs.Pages.{Adds}
use Rattle.lexicon.specs.Answers.{lexicon_answered, Fits}
use Rattle.tails.specs.Tails.{Tailed}

pub record LexiconKnown (b : List ℕ) (at : ℕ) (ks : List ℕ) (k : ℕ) (ws : List ℕ) (n : ℕ) (r : List ℕ) : Type 0 where
  pub short : length b ≤ most_text
  pub same : read_lexicon (lexemes b) ≡ lexicon_answered b ks ws r (Ok (record { kinds = k; words = n; at = at }))
  pub fits : Fits b ks ws r k n at

pub record AnswersWhole (b before : List ℕ) (to : ℕ) (after : List ℕ) (to' : ℕ) : Type 0 where
  pub well : (F : File) (ls : List (List Term)) → IsText b F → AreListings F.lexicon (phrases_of F.paragraphs) ls →
      Tailed F.lexicon (phrases_of F.paragraphs) (λ tail. Adds before to after to' (desk_text F ls tail))
  pub ill : (x : Fault) (T : Known) → read_file b ≡ read_ill x T → Adds before to after to' (complaint b T x)
