-- Lexicon: a vocabulary in the engineers' own words.
--
--   WordText              a word: its name, and the numbers of the kinds of its places
--   KindText              a kind: its name, and its words
--   Lexicon               the kinds, numbered from 0 as they stand
--   kind_names X           the names of the kinds
--   all_words X             the words of all kinds, numbered from 0 as they stand
--   word_names X           their names
--   gapless_map n             the map of n places, counted from 0 without gaps
--   as_word k w            the record of the word w of kind k
--   records_from k X       the records of the words of X, whose first kind has the number k
--   vocabulary_of X        the vocabulary that X stands for
--   place_kind_tokens K c ps   the tokens of the places ps, where K are the names of the kinds, with the mark c before the first
--   with_places ps us       us, where there is a place among ps
--   word_tokens K w        the tokens of a word's declaration
--   words_tokens K c ws    the tokens of the declarations ws, with the mark c before the first
--   kind_tokens K x        the tokens of a kind's declaration
--   kinds_tokens K X       the tokens of the declarations X
--   lexicon_tokens X       the tokens of a whole vocabulary
--   places_declared K c ps, word_declared K u ps, words_declared K c ws     the same in words, with the text c before the first
--   kind_line K x, kind_lines K X     a kind's declaration in words, and those of X
--   lexicon_text X         a whole vocabulary in words, a line a kind
--   most_places            a word has at most so many places (8)
--   GoodWord, GoodLexicon X    the names are names, none stands twice, every place has a kind, and the counts are within the limits
--
use Rattle.std.specs.Prelude.{List, [], ◌∷◌, ◌++◌, map, ℕ, suc, ◌-◌, ◌^◌, ◌<◌, ◌≤◌, length}
use Rattle.terms.specs.Lists.{All}
use Rattle.wire.specs.Map.{map_bits}
use Rattle.wire.specs.Vocabulary.{Word, Vocabulary, most_kinds, most_words}
use Rattle.wire.specs.Text.{ascii, newline}
use Rattle.texts.specs.Lexemes.{Token}
use Rattle.texts.specs.Names.{kind_word, mark, opening, closing, comma, bar, equals, IsIdentifier, name_at, Distinct}

pub record WordText : Type 0 where
  pub name : Token
  pub places : List ℕ

pub record KindText : Type 0 where
  pub name : Token
  pub words : List WordText

abbrev pub Lexicon : Type 0
Lexicon = List KindText

abbrev pub kind_names : Lexicon → List Token
kind_names X = map (λ (x : KindText). x.name) X

abbrev pub all_words : Lexicon → List WordText
all_words [] = []
all_words (x ∷ X) = x.words ++ all_words X

abbrev pub word_names : Lexicon → List Token
word_names X = map (λ (w : WordText). w.name) (all_words X)

-- "A word's places are counted from 0 without gaps."
abbrev pub gapless_map : ℕ → ℕ
gapless_map n = 2 ^ n - 1

abbrev pub as_word : ℕ → WordText → Word
as_word k w = record { result = k; place_map = gapless_map (length w.places); kinds = w.places }

abbrev pub records_from : ℕ → Lexicon → List Word
records_from k [] = []
records_from k (x ∷ X) = map (as_word k) x.words ++ records_from (suc k) X

abbrev pub vocabulary_of : Lexicon → Vocabulary
vocabulary_of X = record { kinds = length X; words = records_from 0 X }

-- `held(eye, queue)`: the kinds of the places in parentheses, which a word without places has not.
abbrev pub place_kind_tokens : List Token → ℕ → List ℕ → List Token
place_kind_tokens K c [] = mark closing ∷ []
place_kind_tokens K c (p ∷ ps) = mark c ∷ name_at K p ∷ place_kind_tokens K comma ps

abbrev pub with_places : List ℕ → List Token → List Token
with_places [] us = []
with_places (p ∷ ps) us = us

abbrev pub word_tokens : List Token → WordText → List Token
word_tokens K w = w.name ∷ with_places w.places (place_kind_tokens K opening w.places)

-- `= up | down`: = before the first word, | before each other; a kind without words has neither.
abbrev pub words_tokens : List Token → ℕ → List WordText → List Token
words_tokens K c [] = []
words_tokens K c (w ∷ ws) = mark c ∷ (word_tokens K w ++ words_tokens K bar ws)

-- `kind button = up | down | held(eye)`.
abbrev pub kind_tokens : List Token → KindText → List Token
kind_tokens K x = kind_word ∷ x.name ∷ words_tokens K equals x.words

abbrev pub kinds_tokens : List Token → Lexicon → List Token
kinds_tokens K [] = []
kinds_tokens K (x ∷ X) = kind_tokens K x ++ kinds_tokens K X

abbrev pub lexicon_tokens : Lexicon → List Token
lexicon_tokens X = kinds_tokens (kind_names X) X

-- `(eye, queue)`, with the text c before the first place.
abbrev pub places_declared : List Token → List ℕ → List ℕ → List ℕ
places_declared K c [] = mark closing
places_declared K c (p ∷ ps) = c ++ (name_at K p ++ places_declared K (ascii ", ") ps)

abbrev pub word_declared : List Token → Token → List ℕ → List ℕ
word_declared K u [] = u
word_declared K u (p ∷ ps) = u ++ places_declared K (mark opening) (p ∷ ps)

-- ` = up | down`, with the text c before the first word.
abbrev pub words_declared : List Token → List ℕ → List WordText → List ℕ
words_declared K c [] = []
words_declared K c (w ∷ ws) = c ++ (word_declared K w.name w.places ++ words_declared K (ascii " | ") ws)

-- `kind button = up | down | held(eye)`, on a line of its own.
abbrev pub kind_line : List Token → KindText → List ℕ
kind_line K x = ascii "kind " ++ (x.name ++ (words_declared K (ascii " = ") x.words ++ newline))

abbrev pub kind_lines : List Token → Lexicon → List ℕ
kind_lines K [] = []
kind_lines K (x ∷ X) = kind_line K x ++ kind_lines K X

abbrev pub lexicon_text : Lexicon → List ℕ
lexicon_text X = kind_lines (kind_names X) X

-- As many as a map has bits.
abbrev pub most_places : ℕ
most_places = map_bits

pub record GoodWord (kinds : ℕ) (w : WordText) : Type 0 where
  pub name : IsIdentifier w.name
  pub places : All (λ k. k < kinds) w.places
  pub few : length w.places ≤ most_places

pub record GoodLexicon (X : Lexicon) : Type 0 where
  pub kinds : All (λ (x : KindText). IsIdentifier x.name) X
  pub different_kinds : Distinct (kind_names X)
  pub some_kind : 1 ≤ length X
  pub few_kinds : length X ≤ most_kinds
  pub words : All (GoodWord (length X)) (all_words X)
  pub different_words : Distinct (word_names X)
  pub some_word : 1 ≤ length (all_words X)
  pub few_words : length (all_words X) ≤ most_words
