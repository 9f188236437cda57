-- Paragraphs: what reading the paragraphs of a text promises, and what is put for them.
--
--   places_table r              the number of places in each record
--   paragraphs_from             the paragraphs that are read from an offset on
--   Says y c                   the answer c, which is how many there are or a fault, is what the reading y says
--   Checks                     what check promises
--   Stands                     the tables are those of a good vocabulary
--   Due                        these paragraphs are due, and the leftovers of their patterns are known
--   PutsBlocks                 what put promises
--   ReadsParagraph, PutsPhrase, BehindAsking, About, PutsQuestions, paragraph_text, PutsParagraph     what their parts promise each other;
--                              no public contract cites them
--
use Rattle.std.specs.Prelude.{Result, Ok, Err, ◌≡◌, true, false, List, ◌++◌, map, ℕ, ◌+◌, ◌*◌, ◌<◌, ◌≤◌, length, get_or, take}
use Rattle.terms.specs.Lists.{All, range}
use Rattle.terms.specs.Term.{Term, Ground}
use Rattle.terms.specs.Listing.{IsListing}
use Rattle.wire.specs.Vocabulary.{most_words, signature, encode_vocabulary}
use Rattle.texts.specs.Lexemes.{Token, Lexeme, lexemes_from, token_at}
use Rattle.texts.specs.Names.{same, mark, opening}
use Rattle.texts.specs.Lexicon.{Lexicon, kind_names, word_names, vocabulary_of, GoodLexicon}
use Rattle.texts.specs.Phrases.{Phrase, whole_tokens, GoodWhole}
use Rattle.texts.specs.Files.{Paragraph, phrases_of, GoodParagraph}
use Rattle.texts.specs.Faults.{Parsed, parsed, bad, token, rest}
use Rattle.texts.specs.Verdicts.{questions_text}
use Rattle.texts.specs.Answers.{block_text, blocks_text, AreListings}
use Rattle.texts.specs.Saying.{place_counts}
use Rattle.texts.specs.PhraseReading.{read_phrase}
use Rattle.texts.specs.QuestionReading.{begins_question, read_questions}
use Rattle.texts.specs.Tabled.{names_in, record_size, tabled_vocabulary}
use Rattle.texts.specs.Answering.{read_paragraph, read_paragraphs}
use Rattle.texts.specs.Laws.{tokens_of}
use Rattle.pages.specs.Pages.{Adds}
use Rattle.questions.specs.Asking.{QuestionAnswer, ReadsTo}
use Rattle.gatherings.specs.Courses.{Readable, Courses}
use Rattle.paragraphs.specs.declared.Head.{Head}
use Rattle.faults.specs.declared.Fault as faults-fault
use Rattle.faults.specs.Reasons.{fault_of}

abbrev pub places_table : List ℕ → List ℕ
places_table r = map (λ (f : ℕ). get_or r (record_size * f + 1) 0) (range 0 most_words)

-- ---- reading

abbrev pub paragraphs_from : List ℕ → ℕ → List ℕ → ℕ → List ℕ → ℕ → List ℕ → Parsed (List Paragraph)
paragraphs_from b at ks k ws n r =
    read_paragraphs (names_in b (take k ks)) (names_in b (take n ws)) (tabled_vocabulary k n r) (length (lexemes_from b at)) (lexemes_from b at)

abbrev pub Says : Parsed (List Paragraph) → Result ℕ faults-fault.Fault → Type 0
Says (parsed qs r) (Ok m) = length qs ≡ m
Says (parsed qs r) (Err y) = ⊥
Says (bad x) (Ok m) = ⊥
Says (bad x) (Err y) = x ≡ fault_of y

-- The text b is read from the offset `at` on; the first k of the offsets ks are those of the kinds' names, the first n of ws those of
-- the words', whose records are r.
abbrev pub Checks : List ℕ → ℕ → List ℕ → ℕ → List ℕ → ℕ → List ℕ → Result ℕ faults-fault.Fault → Type 0
Checks b at ks k ws n r c = Readable b at k n → Says (paragraphs_from b at ks k ws n r) c

-- ---- putting

pub record Stands (b ks : List ℕ) (k : ℕ) (ws : List ℕ) (n : ℕ) (r : List ℕ) (X : Lexicon) : Type 0 where
  pub good : GoodLexicon X
  pub kinds : names_in b (take k ks) ≡ kind_names X
  pub words : names_in b (take n ws) ≡ word_names X
  pub vocabulary : tabled_vocabulary k n r ≡ vocabulary_of X
  pub places : (f : ℕ) → f < length (word_names X) → get_or (places_table r) f 0 ≡ get_or (place_counts X) f 0

pub record Due (b : List ℕ) (at : ℕ) (X : Lexicon) (m : ℕ) (qs : List Paragraph) (ls : List (List Term)) : Type 0 where
  pub count : length qs ≡ m
  pub course : Courses (kind_names X) (word_names X) (vocabulary_of X) (lexemes_from b at) qs
  pub goods : All (GoodParagraph X) qs
  pub listings : AreListings X (phrases_of qs) ls

-- The table ps has the numbers of places, and v is the vocabulary's bytes.
pub record PutsBlocks (b : List ℕ) (at : ℕ) (ks : List ℕ) (k : ℕ) (ws : List ℕ) (n : ℕ) (r ps v : List ℕ) (m : ℕ) (before : List ℕ) (to : ℕ) (after : List ℕ) (to' : ℕ) : Type 0 where
  pub puts : (X : Lexicon) (qs : List Paragraph) (ls : List (List Term)) → Readable b at k n → Stands b ks k ws n r X →
      ps ≡ places_table r → v ≡ encode_vocabulary (vocabulary_of X) → Due b at X m qs ls → Adds before to after to' (blocks_text X qs ls)

-- ---- the parts

pub record ReadsParagraph (b : List ℕ) (at : ℕ) (ks : List ℕ) (k : ℕ) (ws : List ℕ) (n : ℕ) (r : List ℕ) (a : QuestionAnswer) : Type 0 where
  pub reads : ReadsTo b (read_paragraph (names_in b (take k ks)) (names_in b (take n ws)) (tabled_vocabulary k n r) (lexemes_from b at)) a

pub record PutsPhrase (b : List ℕ) (at : ℕ) (ks : List ℕ) (k : ℕ) (ws : List ℕ) (n : ℕ) (r ps v before : List ℕ) (to : ℕ) (after : List ℕ) (to' : ℕ) (h : Head) : Type 0 where
  pub inside : h.at ≤ length b
  pub puts : (X : Lexicon) (p : Phrase) (m : List Lexeme) (l : List Term) → Stands b ks k ws n r X → ps ≡ places_table r →
      v ≡ encode_vocabulary (vocabulary_of X) → read_phrase (kind_names X) (word_names X) (vocabulary_of X) (lexemes_from b at) ≡ parsed p m →
      GoodWhole X p → IsListing (signature (vocabulary_of X)) p.kind p.term l →
      (p.label ≡ token_at b h.label) × (p.kind ≡ h.kind) × (m ≡ lexemes_from b h.at) × Adds before to after to' (block_text X p l)

-- The offset s is that behind the label and the ? of a question.
abbrev pub BehindAsking : List ℕ → ℕ → ℕ → Type 0
BehindAsking b at s = begins_question (lexemes_from b at) ≡ true → (s ≤ length b) × (rest (rest (lexemes_from b at)) ≡ lexemes_from b s)

-- The pattern p begins at the offset s, with its label where it has one; the token at the offset `label` is its label or empty.
pub record About (b : List ℕ) (s label kind : ℕ) (ws : List ℕ) (n : ℕ) (r : List ℕ) (X : Lexicon) (p : Phrase) : Type 0 where
  pub count : ℕ
  pub good : GoodLexicon X
  pub words : names_in b (take n ws) ≡ word_names X
  pub vocabulary : tabled_vocabulary count n r ≡ vocabulary_of X
  pub whole : GoodWhole X p
  pub named : p.label ≡ token_at b label
  pub of_kind : p.kind ≡ kind
  pub inside : s ≤ length b
  pub first : token_at b s ≡ token (lexemes_from b s)
  pub behind : List Token
  pub tokens : tokens_of (lexemes_from b s) ≡ whole_tokens X p ++ behind

pub record PutsQuestions (b : List ℕ) (s label kind at : ℕ) (ws : List ℕ) (n : ℕ) (r before : List ℕ) (to : ℕ) (after : List ℕ) (at' to' : ℕ) : Type 0 where
  pub inside : at' ≤ length b
  pub puts : (X : Lexicon) (p : Phrase) (gs : List Ground) (m : List Lexeme) → About b s label kind ws n r X p →
      read_questions (word_names X) (vocabulary_of X) p (length (lexemes_from b at)) (lexemes_from b at) ≡ parsed gs m →
      same (token m) (mark opening) ≡ false → (m ≡ lexemes_from b at') × Adds before to after to' (questions_text X p gs)

abbrev pub paragraph_text : Lexicon → Paragraph → List Term → List ℕ
paragraph_text X q l = block_text X q.phrase l ++ questions_text X q.phrase q.situations

pub record PutsParagraph (b : List ℕ) (at : ℕ) (ks : List ℕ) (k : ℕ) (ws : List ℕ) (n : ℕ) (r ps v before : List ℕ) (to : ℕ) (after : List ℕ) (at' to' : ℕ) : Type 0 where
  pub inside : at' ≤ length b
  pub puts : (X : Lexicon) (q : Paragraph) (m : List Lexeme) (l : List Term) → Stands b ks k ws n r X → ps ≡ places_table r →
      v ≡ encode_vocabulary (vocabulary_of X) → read_paragraph (kind_names X) (word_names X) (vocabulary_of X) (lexemes_from b at) ≡ parsed q m →
      GoodParagraph X q → IsListing (signature (vocabulary_of X)) q.phrase.kind q.phrase.term l →
      same (token m) (mark opening) ≡ false → (m ≡ lexemes_from b at') × Adds before to after to' (paragraph_text X q l)
