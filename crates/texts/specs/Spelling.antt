-- Spelling: which texts spell which tokens. White space and comments between tokens change nothing.
--
--   Blank w             w is white space and whole comments, in any order
--   Trailing w          the same, where the last comment may lack the end of its line
--   IsToken u           u is a token: a name, a ? with or without a name behind it, or one other character
--   Ends u r            the token u does not go on into the bytes r
--   Spells b us         the text b is the tokens us, one behind the other, with blanks before, between and behind them
--
use Rattle.std.specs.Prelude.{◌≡◌, true, false, List, [], ◌∷◌, ◌++◌, ℕ, eqb}
use Rattle.terms.specs.Lists.{All}
use Rattle.texts.specs.Lexemes.{Token, is_blank, is_name_byte, is_run, comment}

pub data Blank : List ℕ → Type 0 where
  none : Blank []
  space : (b : ℕ) (w : List ℕ) → is_blank b ≡ true → Blank w → Blank (b ∷ w)
  -- # and what follows it, up to the end of the line.
  remark : (c w v : List ℕ) → All (λ b. eqb b 10 ≡ false) c → v ≡ c ++ (10 ∷ w) → Blank w → Blank (comment ∷ v)

pub data Trailing (v : List ℕ) : Type 0 where
  whole : Blank v → Trailing v
  unended : (w c : List ℕ) → Blank w → All (λ b. eqb b 10 ≡ false) c → v ≡ w ++ (comment ∷ c) → Trailing v

pub data IsToken : Token → Type 0 where
  run : (b : ℕ) (u : Token) → is_run b ≡ true → All (λ c. is_name_byte c ≡ true) u → IsToken (b ∷ u)
  single : (b : ℕ) → is_run b ≡ false → is_blank b ≡ false → eqb b comment ≡ false → IsToken (b ∷ [])

abbrev pub Ends : Token → List ℕ → Type 0
Ends [] r = Unit {0}
Ends (b ∷ u) [] = Unit {0}
Ends (b ∷ u) (c ∷ r) = is_run b ≡ true → is_name_byte c ≡ false

pub data Spells : List ℕ → List Token → Type 0 where
  end : (b : List ℕ) → Trailing b → Spells b []
  next : (b w : List ℕ) (u : Token) (r : List ℕ) (us : List Token) → b ≡ w ++ (u ++ r) → Blank w → IsToken u → Ends u r → Spells r us →
      Spells b (u ∷ us)
