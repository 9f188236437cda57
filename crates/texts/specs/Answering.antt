-- Answering: what the desk prints for a text, by the bytes of its vocabulary and patterns.
--
-- This file is an algorithm: BlocksAreAnswers, FilesAreRead, FilesAreExact and VocabulariesAreRead (Laws) fix what it gives for texts
-- that are in order, and the laws on faults where a fault is.
--
--   label_text u             a label as it is printed
--   leftover_line_by T e      the line of the entry whose bytes are e
--   leftovers_by T n l       the text for the n entries at the front of l
--   listed_by T r l          the text for list's reply r, with l in the lent slice
--   block_by T u v p         the text for the pattern of bytes p, labelled u, under the vocabulary of bytes v
--   Read?                   a file, or a fault with what is known of the vocabulary
--   as_paragraph p gs        the pattern p, asked about the situations gs
--   read_paragraph K N W l   a pattern with the questions behind it
--   read_paragraphs K N W n l    all up to the end, where n are enough
--   vocabulary_read a, known_read a    the vocabulary that was read, and what complaints need of it
--   known_nothing            .. where nothing is known
--   with_paragraphs, with_lexicon, read_file b     the text b as a whole
--
use Rattle.std.specs.Prelude.{cond, List, [], ◌∷◌, ◌++◌, map, ℕ, zero, suc, ltb, eqb, length, replicate}
use Rattle.terms.specs.Term.{Ground}
use Rattle.wire.specs.Reply.{Reply, accepted, refused}
use Rattle.wire.specs.Row.{write_row}
use Rattle.wire.specs.Vocabulary.{Vocabulary}
use Rattle.wire.specs.Text.{ascii, newline, decimal}
use Rattle.wire.specs.Printing.{listing_space}
use Rattle.wire.specs.ListComputed.{listed}
use Rattle.wire.specs.EntryCut.{cut_entries}
use Rattle.texts.specs.Lexemes.{Token, Lexeme, lexemes}
use Rattle.texts.specs.Phrases.{Phrase}
use Rattle.texts.specs.Faults.{Fault, Parsed, parsed, bad, parse_then, token, long_text}
use Rattle.texts.specs.Complaints.{Known}
use Rattle.texts.specs.Files.{most_text, Paragraph}
use Rattle.texts.specs.Answers.{too_many_text}
use Rattle.texts.specs.Saying.{Tables, say_phrase}
use Rattle.texts.specs.LexiconReading.{WordRow, row_word, LexiconRead, read_lexicon}
use Rattle.texts.specs.PhraseReading.{read_phrase}
use Rattle.texts.specs.QuestionReading.{read_questions}

abbrev pub label_text : Token → List ℕ
label_text [] = []
label_text (b ∷ u) = (b ∷ u) ++ ascii ": "

abbrev pub leftover_line_by : Tables → List ℕ → List ℕ
leftover_line_by T e = say_phrase T e ++ newline

abbrev pub leftovers_by : Tables → ℕ → List ℕ → List ℕ
leftovers_by T n l =
    ascii "# "
    ++ (decimal n
    ++ (ascii " leftovers:\n"
    ++ (write_row (leftover_line_by T) (cut_entries n l) ++ (ascii "# end of " ++ (decimal n ++ ascii " leftovers\n")))))

abbrev pub listed_by : Tables → Reply → List ℕ → List ℕ
listed_by T (accepted []) l = []
listed_by T (accepted (n ∷ values)) l = leftovers_by T n l
listed_by T (refused n i q) l = too_many_text q

abbrev pub block_by : Tables → Token → List ℕ → List ℕ → List ℕ
block_by T u v p =
    ascii "# "
    ++ (label_text u
    ++ (say_phrase T p
    ++ (newline
    ++ (listed_by T (listed v p (replicate listing_space 0)).reply (listed v p (replicate listing_space 0)).after ++ newline))))

pub data Read? : Type 0 where
  read_well : LexiconRead → List Paragraph → Read?
  read_ill : Fault → Known → Read?

abbrev pub as_paragraph : Phrase → List Ground → Paragraph
as_paragraph p gs = record { phrase = p; situations = gs }

-- A pattern with the questions behind it.
abbrev pub read_paragraph : List Token → List Token → Vocabulary → List Lexeme → Parsed Paragraph
read_paragraph K N W l =
    parse_then (read_phrase K N W l) (λ p r. parse_then (read_questions N W p (length r) r) (λ gs r'. parsed (as_paragraph p gs) r'))

-- A text ends with an empty lexeme; a pattern takes one at least.
abbrev pub read_paragraphs : List Token → List Token → Vocabulary → ℕ → List Lexeme → Parsed (List Paragraph)
read_paragraphs K N W zero l = parsed [] l
read_paragraphs K N W (suc n) l =
    cond (eqb (length (token l)) 0) (parsed [] l)
    (parse_then (read_paragraph K N W l) (λ q r. parse_then (read_paragraphs K N W n r) (λ qs r'. parsed (q ∷ qs) r')))

abbrev pub vocabulary_read : LexiconRead → Vocabulary
vocabulary_read a = record { kinds = length a.kind_names; words = map row_word a.rows }

abbrev pub known_read : LexiconRead → Known
known_read a = record {
  kinds = a.kind_names;
  words = a.word_names;
  results = map (λ (x : WordRow). x.kind) a.rows;
  places = map (λ (x : WordRow). length x.places) a.rows;
}

abbrev pub known_nothing : Known
known_nothing = record { kinds = []; words = []; results = []; places = [] }

abbrev pub with_paragraphs : LexiconRead → Parsed (List Paragraph) → Read?
with_paragraphs a (parsed qs r) = read_well a qs
with_paragraphs a (bad x) = read_ill x (known_read a)

abbrev pub with_lexicon : Parsed LexiconRead → Read?
with_lexicon (bad x) = read_ill x known_nothing
with_lexicon (parsed a r) = with_paragraphs a (read_paragraphs a.kind_names a.word_names (vocabulary_read a) (length r) r)

abbrev pub read_file : List ℕ → Read?
read_file b =
    cond (ltb most_text (length b)) (read_ill (record { why = long_text; at = most_text; of = 0 }) known_nothing)
    (with_lexicon (read_lexicon (lexemes b)))
