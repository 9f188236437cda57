-- Files: a text as a whole: one vocabulary, and any number of patterns behind it, each with the situations that it is asked about.
--
--   most_text               a text has at most so many bytes (65,535)
--   Paragraph              a pattern, and the situations that it is asked about
--   File                   a vocabulary and paragraphs
--   phrases_of qs           the patterns of the paragraphs qs
--   paragraph_tokens X q    the tokens of a paragraph
--   paragraphs_tokens X qs  .. of paragraphs, one behind the other
--   file_tokens F           the tokens of a file
--   GoodParagraph X q      the pattern and what it is asked are good
--   IsText b F             the bytes b are a text of the file F: they spell its tokens, and it is a good one
--
use Rattle.std.specs.Prelude.{List, [], ◌∷◌, ◌++◌, map, ℕ, ◌≤◌, length}
use Rattle.terms.specs.Lists.{All}
use Rattle.terms.specs.Term.{Ground}
use Rattle.texts.specs.Lexemes.{Token}
use Rattle.texts.specs.Spelling.{Spells}
use Rattle.texts.specs.Lexicon.{Lexicon, lexicon_tokens, GoodLexicon}
use Rattle.texts.specs.Phrases.{Phrase, whole_tokens, GoodWhole}
use Rattle.texts.specs.Questions.{questions_tokens, GoodQuestion}

abbrev pub most_text : ℕ
most_text = 65535

pub record Paragraph : Type 0 where
  pub phrase : Phrase
  pub situations : List Ground

pub record File : Type 0 where
  pub lexicon : Lexicon
  pub paragraphs : List Paragraph

abbrev pub phrases_of : List Paragraph → List Phrase
phrases_of qs = map (λ (q : Paragraph). q.phrase) qs

abbrev pub paragraph_tokens : Lexicon → Paragraph → List Token
paragraph_tokens X q = whole_tokens X q.phrase ++ questions_tokens X q.phrase q.situations

abbrev pub paragraphs_tokens : Lexicon → List Paragraph → List Token
paragraphs_tokens X [] = []
paragraphs_tokens X (q ∷ qs) = paragraph_tokens X q ++ paragraphs_tokens X qs

abbrev pub file_tokens : File → List Token
file_tokens F = lexicon_tokens F.lexicon ++ paragraphs_tokens F.lexicon F.paragraphs

pub record GoodParagraph (X : Lexicon) (q : Paragraph) : Type 0 where
  pub phrase : GoodWhole X q.phrase
  pub questions : All (GoodQuestion X q.phrase) q.situations

pub record IsText (b : List ℕ) (F : File) : Type 0 where
  pub short : length b ≤ most_text
  pub spells : Spells b (file_tokens F)
  pub lexicon : GoodLexicon F.lexicon
  pub paragraphs : All (GoodParagraph F.lexicon) F.paragraphs
