-- Answers: what the desk prints for a text: for each pattern its leftovers in words. Whatever is no leftover stands in comments, so
-- that the answer, read as a text, is the leftovers and nothing else. What is said where a list or the answer is too long is no
-- comment, and cannot be read.
--
--   page_size               an answer has at most so many bytes (1,048,576)
--   head_text X p           the pattern as it was read, in a comment
--   too_many_text n          where the list of leftovers has n bytes, which is too many
--   block_text X p l        what is printed for a pattern whose leftovers are l
--   blocks_text X qs ls     what is printed for each of the paragraphs qs: the leftovers, and the answers to what is asked
--   desk_text F ls tail     the whole answer, where tail is what stands behind the patterns (Tails)
--   too_long_text            where an answer would be too long
--   bounded t              the answer t, where it is not too long
--   AreListings X ps ls    ls are the leftovers of the patterns ps, in document 01's order
--
use Rattle.std.specs.Prelude.{cond, List, [], ◌∷◌, ◌++◌, ℕ, leb, length}
use Rattle.terms.specs.Term.{Term}
use Rattle.terms.specs.Listing.{IsListing}
use Rattle.wire.specs.Vocabulary.{signature}
use Rattle.wire.specs.BookBytes.{patterns_bytes}
use Rattle.wire.specs.Text.{ascii, newline, decimal}
use Rattle.wire.specs.Printing.{listing_space}
use Rattle.texts.specs.Lexicon.{Lexicon, vocabulary_of}
use Rattle.texts.specs.Phrases.{Phrase, whole_tokens, spell}
use Rattle.texts.specs.Files.{Paragraph, File}
use Rattle.texts.specs.Leftovers.{leftovers_text}
use Rattle.texts.specs.Verdicts.{questions_text}

abbrev pub page_size : ℕ
page_size = 1048576

-- `# go: wait(up, free)`
abbrev pub head_text : Lexicon → Phrase → List ℕ
head_text X p = ascii "# " ++ (spell (whole_tokens X p) ++ newline)

-- This is no comment, so that what was not listed cannot be taken for a list of none.
abbrev pub too_many_text : ℕ → List ℕ
too_many_text n =
    ascii "leftovers not listed, as the list has " ++ (decimal n ++ ascii " bytes and 65536 are the most\n")

abbrev pub block_text : Lexicon → Phrase → List Term → List ℕ
block_text X p l =
    let n : ℕ = length (patterns_bytes (vocabulary_of X) p.kind l) in
    head_text X p ++ (cond (leb n listing_space) (leftovers_text X p.variables p.kind l) (too_many_text n) ++ newline)

abbrev pub blocks_text : Lexicon → List Paragraph → List (List Term) → List ℕ
blocks_text X [] ls = []
blocks_text X (q ∷ qs) [] = []
blocks_text X (q ∷ qs) (l ∷ ls) =
    block_text X q.phrase l ++ (questions_text X q.phrase q.situations ++ blocks_text X qs ls)

-- The last line tells an answer that was cut from a whole one.
abbrev pub desk_text : File → List (List Term) → List ℕ → List ℕ
desk_text F ls tail =
    blocks_text F.lexicon F.paragraphs ls
    ++ (tail ++ (ascii "# end of " ++ (decimal (length F.paragraphs) ++ ascii " patterns\n")))

abbrev pub too_long_text : List ℕ
too_long_text = ascii "the answer has more than 1048576 bytes, which are the most: ask for fewer patterns at a time" ++ newline

abbrev pub bounded : List ℕ → List ℕ
bounded t = cond (leb (length t) page_size) t too_long_text

abbrev pub AreListings : Lexicon → List Phrase → List (List Term) → Type 0
AreListings X [] [] = Unit {0}
AreListings X [] (l ∷ ls) = ⊥
AreListings X (p ∷ ps) [] = ⊥
AreListings X (p ∷ ps) (l ∷ ls) = IsListing (signature (vocabulary_of X)) p.kind p.term l × AreListings X ps ls
