-- Text: text in ASCII, and numbers as text.
--
--   ascii s              the codes of a text's characters
--   newline              what ends a line
--   digit d              the code of a digit, 0 to 9 and then a to f
--   decimal_in, decimal   a number in decimal
--   hexadecimal l        bytes in lowercase hexadecimal without gaps
--
use Rattle.std.specs.Prelude.{true, false, cond, List, [], ◌∷◌, ◌++◌, ℕ, zero, suc, ◌+◌, ◌-◌, ◌/◌, ◌%◌, ltb}
use Prim.Native.Char.{code}
use Prim.Native.String.{String, [] as nothing, ◌∷◌ as ◌then◌}

abbrev pub ascii : String → List ℕ
ascii nothing = []
ascii (c then s) = code c ∷ ascii s

-- "a newline (byte 10)"
abbrev pub newline : List ℕ
newline = 10 ∷ []

abbrev pub digit : ℕ → ℕ
digit d = cond (ltb d 10) (code "0" + d) (code "a" + (d - 10))

-- The digits of n, where `most` digits are enough.
abbrev pub decimal_in : ℕ → ℕ → List ℕ
decimal_in zero n = []
decimal_in (suc most) n =
    elim (ltb n 10) [ true ↦ digit n ∷ [] | false ↦ decimal_in most (n / 10) ++ (digit (n % 10) ∷ []) ]

abbrev pub decimal : ℕ → List ℕ
decimal n = decimal_in (suc n) n

abbrev pub hexadecimal : List ℕ → List ℕ
hexadecimal [] = []
hexadecimal (b ∷ l) = digit (b / 16) ∷ digit (b % 16) ∷ hexadecimal l
