-- Bytes: what is asked of a byte of a text on the way.
--
--   stops_at c b     the byte b ends the blanks before it; c: it stands in a comment
--   in_comment c b   what stands behind the byte b is in a comment
--
use Rattle.std.specs.Prelude.{Bool, false, not, cond, ℕ, eqb}
use Rattle.texts.specs.Lexemes.{is_blank, comment}

abbrev pub stops_at : Bool → ℕ → Bool
stops_at c b = cond c false (cond (eqb b comment) false (not (is_blank b)))

abbrev pub in_comment : Bool → ℕ → Bool
in_comment c b = cond c (not (eqb b 10)) (eqb b comment)
