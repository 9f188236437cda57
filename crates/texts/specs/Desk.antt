-- Desk: what the desk promises its reader.
--
--   DeskPromise b text     the text that is printed for the bytes b is the answer for the file that they are a text of, or tells their fault
--
use Rattle.std.specs.Prelude.{◌≡◌, List, ◌⊎◌, ℕ, length}
use Rattle.terms.specs.Term.{Term}
use Rattle.texts.specs.Files.{File, phrases_of, IsText}
use Rattle.texts.specs.Faults.{Fault}
use Rattle.texts.specs.Complaints.{Known, complaint}
use Rattle.texts.specs.Tails.{AreTails}
use Rattle.texts.specs.Answers.{desk_text, bounded, AreListings}
use Rattle.texts.specs.Answering.{read_ill, read_file}

pub record DeskPromise (b text : List ℕ) : Type 0 where
  -- One of the two cases below holds of every input.
  pub one : ((F : File) × (ls : List (List Term)) × IsText b F × AreListings F.lexicon (phrases_of F.paragraphs) ls) ⊎
      ((x : Fault) × (T : Known) × (read_file b ≡ read_ill x T))
  -- The leftovers of each pattern, in document 01's order: list's entries, in words; what each is asked, answered; which kinds have no
  -- complete situation; and the leftovers of all patterns of a kind together.
  pub answers : (F : File) (ls : List (List Term)) → IsText b F → AreListings F.lexicon (phrases_of F.paragraphs) ls →
      (tail : List ℕ) × AreTails F.lexicon (phrases_of F.paragraphs) 0 (length F.lexicon) tail × (text ≡ bounded (desk_text F ls tail))
  pub complains : (x : Fault) (T : Known) → read_file b ≡ read_ill x T → text ≡ bounded (complaint b T x)
