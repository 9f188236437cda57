-- Names: which tokens are names, variables, marks and the word kind, and how a name is found in a list of names.
--
--   same a b               two tokens have the same bytes
--   opened                 the token of an open place
--   kind_word               the token that begins the declaration of a kind
--   mark c                 the token of the mark c
--   opening, closing, comma, bar, equals, colon     the marks, as bytes
--   most_name               a name has at most so many bytes (32)
--   begins_name t           the first byte of t is a character of names
--   is_identifier t         the token t is a name that a kind, a word or a label may have
--   is_variable t           the token t is a ? with a name behind it
--   IsIdentifier t         t is such a name, and not too long
--   IsVariable t           t is a variable, and its name is not too long
--   index_in t l            the number of the token t in l, from 0; as many as l has where it is not there
--   name_at l i             the token of number i in l
--   Distinct l             no token stands twice in l
--
use Rattle.std.specs.Prelude.{◌≡◌, Bool, true, false, not, ◌&&◌, cond, List, [], ◌∷◌, ℕ, zero, suc, ◌≤◌, eqb, length, get_or, drop}
use Rattle.terms.specs.Lists.{All}
use Rattle.wire.specs.Text.{ascii}
use Rattle.texts.specs.Lexemes.{Token, is_name_byte, asking}

abbrev pub same : Token → Token → Bool
same [] [] = true
same [] (b ∷ u) = false
same (a ∷ t) [] = false
same (a ∷ t) (b ∷ u) = eqb a b && same t u

abbrev pub opened : Token
opened = ascii "_"

abbrev pub kind_word : Token
kind_word = ascii "kind"

abbrev pub opening : ℕ
opening = 40

abbrev pub closing : ℕ
closing = 41

abbrev pub comma : ℕ
comma = 44

abbrev pub bar : ℕ
bar = 124

abbrev pub equals : ℕ
equals = 61

abbrev pub colon : ℕ
colon = 58

abbrev pub mark : ℕ → Token
mark c = c ∷ []

abbrev pub most_name : ℕ
most_name = 32

abbrev pub begins_name : Token → Bool
begins_name [] = false
begins_name (b ∷ t) = is_name_byte b

abbrev pub is_identifier : Token → Bool
is_identifier t = begins_name t && (not (same t opened) && not (same t kind_word))

abbrev pub is_variable : Token → Bool
is_variable [] = false
is_variable (b ∷ t) = eqb b asking && begins_name t

-- Names of kinds and words are the engineers' own: a run of characters of names that is not _ and not kind.
pub record IsIdentifier (t : Token) : Type 0 where
  pub characters : All (λ b. is_name_byte b ≡ true) t
  pub identifier : is_identifier t ≡ true
  pub short : length t ≤ most_name

-- A variable's name is any run of characters of names: the ? before it tells it from words.
pub record IsVariable (t : Token) : Type 0 where
  pub characters : All (λ b. is_name_byte b ≡ true) (drop 1 t)
  pub variable : is_variable t ≡ true
  pub short : length t ≤ suc most_name

abbrev pub index_in : Token → List Token → ℕ
index_in t [] = zero
index_in t (u ∷ l) = cond (same t u) zero (suc (index_in t l))

abbrev pub name_at : List Token → ℕ → Token
name_at l i = get_or l i []

abbrev pub Distinct : List Token → Type 0
Distinct [] = Unit {0}
Distinct (t ∷ l) = (index_in t l ≡ length l) × Distinct l
