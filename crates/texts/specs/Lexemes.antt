-- Lexemes: what a text is made of: names, marks, and blanks between them, which change nothing.
--
--   Token                   the bytes of a name, of a variable or of a mark
--   is_blank b, is_name_byte b     the byte b is white space, a character of names
--   comment, asking         the bytes that begin a comment (#) and a variable (?)
--   is_run b                 the byte b begins a token that goes on as long as characters of names follow
--   blanks_in c l            how many bytes of white space and comments stand at the front of l; c: it begins in a comment
--   blanks l                the same outside a comment
--   run_size l               how many characters of names stand at the front of l
--   token_size l             how many bytes the token has that begins at the front of l
--   Lexeme                  a token, and the offset of its first byte
--   lexemes_in n at l        the lexemes of the bytes l, which begin at offset at, where n of them are enough
--   lexemes_behind more at l the lexemes of the bytes l where no blank stands at their front
--   lexemes b               the lexemes of a text; the last one is empty and stands at its end
--   tokens b                the tokens of a text
--   lexemes_from b at        the lexemes of a text from the offset at on
--   token_at b at            the token that begins at the offset at of a text
--
use Rattle.std.specs.Prelude.{Bool, true, false, not, ◌||◌, cond, List, [], ◌∷◌, map, ℕ, zero, suc, ◌+◌, ◌-◌, eqb, ltb, length, take, drop}
use Rattle.wire.specs.Reply.{outside}

abbrev pub Token : Type 0
Token = List ℕ

-- Tab, line feed, carriage return and space.
abbrev pub is_blank : ℕ → Bool
is_blank b = eqb b 32 || eqb b 10 || eqb b 9 || eqb b 13

-- Small and capital letters, digits, - and _, and every byte of a character beyond ASCII.
abbrev pub is_name_byte : ℕ → Bool
is_name_byte b =
    not (outside 97 122 b) || not (outside 65 90 b) || not (outside 48 57 b) || eqb b 95 || eqb b 45 || ltb 127 b

abbrev pub comment : ℕ
comment = 35

abbrev pub asking : ℕ
asking = 63

abbrev pub is_run : ℕ → Bool
is_run b = is_name_byte b || eqb b asking

-- A comment goes on to the end of its line.
abbrev pub blanks_in : Bool → List ℕ → ℕ
blanks_in c [] = 0
blanks_in true (b ∷ l) = suc (blanks_in (not (eqb b 10)) l)
blanks_in false (b ∷ l) = cond (is_blank b) (suc (blanks_in false l)) (cond (eqb b comment) (suc (blanks_in true l)) 0)

abbrev pub blanks : List ℕ → ℕ
blanks l = blanks_in false l

abbrev pub run_size : List ℕ → ℕ
run_size [] = 0
run_size (b ∷ l) = cond (is_name_byte b) (suc (run_size l)) 0

-- A name, a ? with the name behind it, or one byte.
abbrev pub token_size : List ℕ → ℕ
token_size [] = 0
token_size (b ∷ l) = suc (cond (is_run b) (run_size l) 0)

pub record Lexeme : Type 0 where
  pub at : ℕ
  pub token : Token

-- The lexemes from offset at on, where no blank stands at the front of l; `more` gives those behind the first.
abbrev pub lexemes_behind : (ℕ → List ℕ → List Lexeme) → ℕ → List ℕ → List Lexeme
lexemes_behind more at [] = record { at = at; token = [] } ∷ []
lexemes_behind more at (b ∷ l) =
    record { at = at; token = take (token_size (b ∷ l)) (b ∷ l) }
    ∷ more (at + token_size (b ∷ l)) (drop (token_size (b ∷ l)) (b ∷ l))

abbrev pub lexemes_in : ℕ → ℕ → List ℕ → List Lexeme
lexemes_in zero at l = []
lexemes_in (suc n) at l = lexemes_behind (lexemes_in n) (at + blanks l) (drop (blanks l) l)

-- A token has a byte at least, so a text has no more of them than bytes.
abbrev pub lexemes : List ℕ → List Lexeme
lexemes b = lexemes_in (suc (length b)) 0 b

abbrev pub tokens : List ℕ → List Token
tokens b = map (λ (x : Lexeme). x.token) (lexemes b)

abbrev pub lexemes_from : List ℕ → ℕ → List Lexeme
lexemes_from b at = lexemes_in (suc (length b - at)) at (drop at b)

abbrev pub token_at : List ℕ → ℕ → Token
token_at b at = take (token_size (drop at b)) (drop at b)
