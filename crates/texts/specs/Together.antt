-- Together: the leftovers of all patterns of a kind, taken together as document 02's book (request ii).
--
--   of_kind s ps              those of the patterns ps that are of kind s
--   few_together              nothing is said of fewer patterns than these together (2)
--   together_of X s n         `all 2 patterns of step together`
--   together_text X s n es    what is printed for n patterns of kind s together, whose leftovers are es
--   many_text, past_text X s n ..     where there are too many patterns, and where what they leave is too long
--   IsTogether X s ts text   the text is what is printed for the patterns ts of kind s together
--
use Rattle.std.specs.Prelude.{cond, List, [], ◌∷◌, ◌++◌, ℕ, suc, ◌<◌, ◌≤◌, eqb, length}
use Rattle.terms.specs.Lists.{Reordered}
use Rattle.terms.specs.Term.{Term}
use Rattle.terms.specs.Book.{IsBookListing}
use Rattle.wire.specs.Vocabulary.{signature}
use Rattle.wire.specs.BookBytes.{most_patterns}
use Rattle.wire.specs.BookLeftovers.{FirstPast, WithinLimits}
use Rattle.wire.specs.Text.{ascii, newline, decimal}
use Rattle.texts.specs.Names.{name_at}
use Rattle.texts.specs.Lexicon.{Lexicon, kind_names, vocabulary_of}
use Rattle.texts.specs.Phrases.{Phrase}
use Rattle.texts.specs.Leftovers.{leftovers_text}

abbrev pub of_kind : ℕ → List Phrase → List Term
of_kind s [] = []
of_kind s (p ∷ ps) = cond (eqb p.kind s) (p.term ∷ of_kind s ps) (of_kind s ps)

abbrev pub few_together : ℕ
few_together = 2

abbrev pub together_of : Lexicon → ℕ → ℕ → List ℕ
together_of X s n =
    ascii "all " ++ (decimal n ++ (ascii " patterns of " ++ (name_at (kind_names X) s ++ ascii " together")))

-- `# all 2 patterns of step together`, and the leftovers, which have no variables.
abbrev pub together_text : Lexicon → ℕ → ℕ → List Term → List ℕ
together_text X s n es = ascii "# " ++ (together_of X s n ++ (newline ++ (leftovers_text X [] s es ++ newline)))

-- As where a list is too long, these are no comments.
abbrev pub many_text : Lexicon → ℕ → ℕ → List ℕ
many_text X s n =
    ascii "leftovers of " ++ (together_of X s n ++ ascii " not listed, as 64 patterns are the most\n\n")

abbrev pub past_text : Lexicon → ℕ → ℕ → ℕ → List ℕ
past_text X s n i =
    ascii "leftovers of "
    ++ (together_of X s n
    ++ (ascii " not listed, as behind pattern "
    ++ (decimal (suc i) ++ ascii " of them they have more than 32768 bytes, or one of them more than 4096\n\n")))

-- The order in which list_book's entries stand is left open, and so it is here.
pub data IsTogether (X : Lexicon) (s : ℕ) (ts : List Term) : List ℕ → Type 0 where
  alone : length ts < few_together → IsTogether X s ts []
  many : most_patterns < length ts → IsTogether X s ts (many_text X s (length ts))
  past : (i : ℕ) → few_together ≤ length ts → length ts ≤ most_patterns → FirstPast (vocabulary_of X) s ts i →
      IsTogether X s ts (past_text X s (length ts) i)
  listed : (es l : List Term) → few_together ≤ length ts → length ts ≤ most_patterns → WithinLimits (vocabulary_of X) s ts →
      IsBookListing (signature (vocabulary_of X)) s ts l → Reordered es l → IsTogether X s ts (together_text X s (length ts) es)
