-- Together: what putting the leftovers of several patterns of a kind promises.
--
--   PutsTogether                 what put_together promises
--   together_by K s n             `all 2 patterns of step together`, where K are the names of the kinds
--   many_by, past_by K s n ..      where there are too many patterns, and where what they leave is too long; no public contract cites them
--   listed_by T s n m l           .. and where the m entries at the front of l are left
--
use Rattle.std.specs.Prelude.{◌≡◌, ℕ, ◌<◌, ◌≤◌, List, [], ◌++◌, length}
use Rattle.terms.specs.Lists.{All}
use Rattle.terms.specs.Term.{Term}
use Rattle.wire.specs.Vocabulary.{encode_vocabulary}
use Rattle.wire.specs.BookBytes.{most_patterns, encode_book, Listable}
use Rattle.wire.specs.Text.{ascii, newline, decimal}
use Rattle.texts.specs.Lexemes.{Token}
use Rattle.texts.specs.Names.{name_at}
use Rattle.texts.specs.Lexicon.{Lexicon, vocabulary_of, GoodLexicon}
use Rattle.texts.specs.Saying.{Tables, TablesFor}
use Rattle.texts.specs.Together.{IsTogether}
use Rattle.texts.specs.Answering.{leftovers_by}
use Rattle.pages.specs.Pages.{Adds}
use Rattle.wording.specs.Tables.{tables_in}

-- The tables ks, ws and ps of the text b and the vocabulary's bytes v are those of a good vocabulary, and the book's bytes those of
-- the n patterns, where a book may have so many.
pub record PutsTogether (b ks ws ps v : List ℕ) (s n : ℕ) (book before : List ℕ) (to : ℕ) (after : List ℕ) (to' : ℕ) : Type 0 where
  pub same : length after ≡ length before
  pub puts : (X : Lexicon) (ts : List Term) → GoodLexicon X → s < length X → TablesFor X [] (tables_in b ks ws ps []) →
      v ≡ encode_vocabulary (vocabulary_of X) → n ≡ length ts → All (Listable (vocabulary_of X) s) ts →
      (n ≤ most_patterns → book ≡ encode_book (vocabulary_of X) s ts) →
      (text : List ℕ) × IsTogether X s ts text × Adds before to after to' text

-- ---- the parts

abbrev pub together_by : List Token → ℕ → ℕ → List ℕ
together_by K s n = ascii "all " ++ (decimal n ++ (ascii " patterns of " ++ (name_at K s ++ ascii " together")))

abbrev pub many_by : List Token → ℕ → ℕ → List ℕ
many_by K s n = ascii "leftovers of " ++ (together_by K s n ++ ascii " not listed, as 64 patterns are the most\n\n")

-- The pattern of number i, counted from 1.
abbrev pub past_by : List Token → ℕ → ℕ → ℕ → List ℕ
past_by K s n i =
    ascii "leftovers of "
    ++ (together_by K s n
    ++ (ascii " not listed, as behind pattern "
    ++ (decimal i ++ ascii " of them they have more than 32768 bytes, or one of them more than 4096\n\n")))

abbrev pub listed_by : Tables → ℕ → ℕ → ℕ → List ℕ → List ℕ
listed_by T s n m l = ascii "# " ++ (together_by T.kinds s n ++ (newline ++ (leftovers_by T m l ++ newline)))
