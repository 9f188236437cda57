-- Faults: what can be wrong with a text, and where.
--
--   Fault                a reason's number, the offset at which it stands, and the kind or word that it is about
--   kind_due, ..          the reasons
--   Parsed A                what is read off the front of some lexemes: a thing and the lexemes behind it, or a fault
--   parse_then g k          k goes on behind g
--   token l, place l, rest l     the first token, its offset, and the lexemes behind it
--
use Rattle.std.specs.Prelude.{List, [], ◌∷◌, ℕ}
use Rattle.texts.specs.Lexemes.{Token, Lexeme}

pub record Fault : Type 0 where
  pub why : ℕ
  pub at : ℕ
  pub of : ℕ

-- ---- of a vocabulary

-- The text does not begin with a declaration.
abbrev pub kind_due : ℕ
kind_due = 1

-- Behind `kind` no name stands.
abbrev pub kind_name_due : ℕ
kind_name_due = 2

abbrev pub long_name : ℕ
long_name = 3

abbrev pub kind_twice : ℕ
kind_twice = 4

abbrev pub many_kinds : ℕ
many_kinds = 5

-- Behind = or | no name stands.
abbrev pub word_due : ℕ
word_due = 6

abbrev pub word_twice : ℕ
word_twice = 7

abbrev pub many_words : ℕ
many_words = 8

-- Behind ( or , of a declaration, or behind the : of an open root, no name stands.
abbrev pub place_due : ℕ
place_due = 9

abbrev pub not_declared : ℕ
not_declared = 10

-- As many kinds as may be are named, and this is none of them.
abbrev pub kind_beyond : ℕ
kind_beyond = 28

abbrev pub many_places : ℕ
many_places = 11

-- Behind a place of a declaration neither , nor ) stands.
abbrev pub place_end : ℕ
place_end = 12

-- No kind has a word, up to where the declarations end.
abbrev pub no_words : ℕ
no_words = 13

-- ---- of a pattern

-- What stands there begins no pattern.
abbrev pub pattern_due : ℕ
pattern_due = 14

-- What stands there begins no term; `of` is the kind that is due.
abbrev pub term_due : ℕ
term_due = 15

-- The name is no word's.
abbrev pub unknown_word : ℕ
unknown_word = 16

-- The word is of another kind than the one that is due, which is `of`.
abbrev pub other_kind : ℕ
other_kind = 17

-- A place of the word `of` is due, and the mark before it does not stand there.
abbrev pub places_wrong : ℕ
places_wrong = 18

-- Level 33 would begin there.
abbrev pub too_deep : ℕ
too_deep = 19

-- The pattern would have more than 4,096 bytes.
abbrev pub too_long : ℕ
too_long = 20

abbrev pub variable_twice : ℕ
variable_twice = 21

abbrev pub many_variables : ℕ
many_variables = 22

-- Behind an open place or a variable at the root no : stands.
abbrev pub colon_due : ℕ
colon_due = 23

-- All places of the word `of` stand, and no ) behind them.
abbrev pub places_over : ℕ
places_over = 25

-- ---- of a question

-- An open place or a variable stands in a situation.
abbrev pub situation_open : ℕ
situation_open = 26

-- The label before ? is not that of the pattern before it.
abbrev pub other_label : ℕ
other_label = 27

-- ---- of the text as a whole

-- It has more than 65,535 bytes.
abbrev pub long_text : ℕ
long_text = 24

pub data Parsed (A : Type 0) : Type 0 where
  parsed : A → List Lexeme → Parsed A
  bad : Fault → Parsed A

abbrev pub parse_then : {A B : Type 0} → Parsed A → (A → List Lexeme → Parsed B) → Parsed B
parse_then (parsed a r) k = k a r
parse_then (bad x) k = bad x

abbrev pub token : List Lexeme → Token
token [] = []
token (x ∷ l) = x.token

abbrev pub place : List Lexeme → ℕ
place [] = 0
place (x ∷ l) = x.at

abbrev pub rest : List Lexeme → List Lexeme
rest [] = []
rest (x ∷ l) = l
