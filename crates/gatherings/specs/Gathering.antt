-- Gathering: what gathering the patterns of a kind promises.
--
--   most_book                   a book has at most so many bytes: the count byte, and the longest patterns (262,145)
--   patterns_in s qs            the patterns of kind s among the paragraphs qs
--   Gathers                    what gather promises
--   paragraph_at, OneTo, ReadsOne, Sized, row_in, Appends, Keeps, GathersRow, Seals     what its parts promise each other; no public
--                              contract cites them
--
use Rattle.std.specs.Prelude.{◌≡◌, List, ◌++◌, ℕ, ◌+◌, ◌*◌, ◌<◌, ◌≤◌, length, take, drop, set, Result, Ok, Err}
use Rattle.terms.specs.Term.{Term}
use Rattle.wire.specs.TermBytes.{encode_term, most_bytes}
use Rattle.wire.specs.BookBytes.{most_patterns, patterns_bytes, encode_book}
use Rattle.texts.specs.Lexemes.{Lexeme, lexemes_from}
use Rattle.texts.specs.Files.{Paragraph, phrases_of}
use Rattle.texts.specs.Faults.{Parsed, parsed}
use Rattle.texts.specs.Together.{of_kind}
use Rattle.texts.specs.Tabled.{names_in, tabled_vocabulary}
use Rattle.texts.specs.Answering.{read_paragraph}
use Rattle.faults.specs.declared.Fault.{Fault}
use Rattle.gatherings.specs.Courses.{Readable, Courses}
use Rattle.gatherings.specs.declared.Gathered.{Gathered}
use Rattle.gatherings.specs.declared.One.{One}

abbrev pub most_book : ℕ
most_book = 1 + most_bytes * most_patterns

abbrev pub patterns_in : ℕ → List Paragraph → List Term
patterns_in s qs = of_kind s (phrases_of qs)

-- The m paragraphs stand from the offset `at` of the text b on; the first k of the offsets ks are those of the kinds' names, the first n
-- of ws those of the words', whose records are r. Where there are too many patterns for a book, they are only counted.
pub record Gathers (b : List ℕ) (at : ℕ) (ks : List ℕ) (k : ℕ) (ws : List ℕ) (n : ℕ) (r : List ℕ) (m s : ℕ) (book : List ℕ) (g : Gathered) : Type 0 where
  pub room : g.size ≤ most_book
  pub gathers : (qs : List Paragraph) → Readable b at k n → length qs ≡ m →
      Courses (names_in b (take k ks)) (names_in b (take n ws)) (tabled_vocabulary k n r) (lexemes_from b at) qs →
      (g.count ≡ length (patterns_in s qs)) ×
      (g.count ≤ most_patterns → take g.size book ≡ encode_book (tabled_vocabulary k n r) s (patterns_in s qs))

-- ---- the parts

abbrev pub paragraph_at : List ℕ → ℕ → List ℕ → ℕ → List ℕ → ℕ → List ℕ → Parsed Paragraph
paragraph_at b at ks k ws n r = read_paragraph (names_in b (take k ks)) (names_in b (take n ws)) (tabled_vocabulary k n r) (lexemes_from b at)

-- The pattern of the paragraph q is of this kind, and the first bytes of o are its bytes; m stands behind the paragraph.
pub record OneTo (b : List ℕ) (k n : ℕ) (r o : List ℕ) (q : Paragraph) (m : List Lexeme) (kind size e : ℕ) : Type 0 where
  pub same : q.phrase.kind ≡ kind
  pub bytes : take size o ≡ encode_term (tabled_vocabulary k n r) q.phrase.kind q.phrase.term
  pub behind : m ≡ lexemes_from b e

abbrev pub ReadsOne : List ℕ → ℕ → List ℕ → ℕ → List ℕ → ℕ → List ℕ → List ℕ → Result One Fault → Type 0
ReadsOne b at ks k ws n r o (Ok x) =
    (x.size ≤ most_bytes) × (x.at ≤ length b) ×
    ((q : Paragraph) (m : List Lexeme) → paragraph_at b at ks k ws n r ≡ parsed q m → OneTo b k n r o q m x.kind x.size x.at)
ReadsOne b at ks k ws n r o (Err x) = (q : Paragraph) (m : List Lexeme) → paragraph_at b at ks k ws n r ≡ parsed q m → ⊥

-- A book has its count byte, and at most the longest patterns.
pub record Sized (count size : ℕ) : Type 0 where
  pub some : 1 ≤ size
  pub few : size ≤ 1 + most_bytes * count
  pub room : size ≤ most_book

-- What stands in a book of this size behind its count byte.
abbrev pub row_in : ℕ → List ℕ → List ℕ
row_in size book = drop 1 (take size book)

abbrev pub Appends : List ℕ → ℕ → List ℕ → ℕ → List ℕ → Type 0
Appends pattern n before at after = row_in (at + n) after ≡ row_in at before ++ take n pattern

-- A pattern of kind s is put behind the others where there are fewer than 64.
pub record Keeps (kind s : ℕ) (pattern : List ℕ) (n : ℕ) (before : List ℕ) (count size : ℕ) (after : List ℕ) (g : Gathered) : Type 0 where
  pub sized : Sized g.count g.size
  pub most : g.count ≤ count + 1
  pub other : (kind ≡ s → ⊥) → (g.count ≡ count) × (row_in g.size after ≡ row_in size before)
  pub counts : kind ≡ s → g.count ≡ count + 1
  pub keeps : kind ≡ s → count < most_patterns → row_in g.size after ≡ row_in size before ++ take n pattern

pub record GathersRow (b : List ℕ) (at : ℕ) (ks : List ℕ) (k : ℕ) (ws : List ℕ) (n : ℕ) (r : List ℕ) (m s : ℕ) (book : List ℕ) (g : Gathered) : Type 0 where
  pub sized : Sized g.count g.size
  pub gathers : (qs : List Paragraph) → length qs ≡ m →
      Courses (names_in b (take k ks)) (names_in b (take n ws)) (tabled_vocabulary k n r) (lexemes_from b at) qs →
      (g.count ≡ length (patterns_in s qs)) ×
      (g.count ≤ most_patterns → row_in g.size book ≡ patterns_bytes (tabled_vocabulary k n r) s (patterns_in s qs))

pub record Seals (count : ℕ) (before after : List ℕ) : Type 0 where
  pub long : length before ≡ most_book
  pub seals : count ≤ most_patterns → after ≡ set before 0 count
