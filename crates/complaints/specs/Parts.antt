-- Parts: the parts of a complaint that functions of their own put.
--
--   fault why at of        a fault, by its three numbers
--   seen_text s            the byte that stands for one of a line, or nothing
--   drawn r b              the byte b of a line, as it is shown, or as it is padded
--   about_places why        the reason may be that a ( stands where no place is due
--   plain u why            what is said of the token u for a reason that has its text in the tables
--   other_text u v why      what is said of the token u for a reason that is about no kind and no places; v stands behind it
--   place_text before last  line and column of the place behind the bytes before; last: those in its line
--   picture_text line last  the line, and below it the mark behind the bytes last
--
use Rattle.std.specs.Prelude.{Bool, ◌||◌, ◌&&◌, cond, Option, Some, None, List, [], ◌∷◌, ◌++◌, ℕ, suc, eqb, get_or, take}
use Rattle.wire.specs.Row.{write_row}
use Rattle.wire.specs.Text.{ascii, newline, decimal}
use Rattle.texts.specs.Lexemes.{Token}
use Rattle.texts.specs.Faults.{kind_due, pattern_due, unknown_word, places_wrong, places_over}
use Rattle.texts.specs.Complaints.{reasons, endings, token_then, no_pattern_text, unknown_text, order_marked, newlines, columns, shown, padding, line_size}
use Rattle.complaints.specs.declared.Row.{Row}
use Rattle.complaints.specs.declared.Row.TheVariants.{Shown, Padded}
pub use Rattle.dues.specs.Parts.{fault}

abbrev pub seen_text : Option ℕ → List ℕ
seen_text None = []
seen_text (Some c) = c ∷ []

abbrev pub drawn : Row → ℕ → List ℕ
drawn Shown b = shown b
drawn Padded b = padding b

abbrev pub about_places : ℕ → Bool
about_places why = eqb why places_wrong || (eqb why places_over || eqb why pattern_due)

abbrev pub plain : Token → ℕ → List ℕ
plain u why = get_or reasons why [] ++ token_then u (get_or endings why [])

abbrev pub other_text : Token → Token → ℕ → List ℕ
other_text u v why =
    cond (eqb why pattern_due) (no_pattern_text u)
    (cond (eqb why unknown_word) (unknown_text u v)
    (cond (eqb why kind_due && order_marked u) (ascii "a byte order mark stands here, and a text begins with `kind`") (plain u why)))

abbrev pub place_text : List ℕ → List ℕ → List ℕ
place_text before last =
    ascii "line "
    ++ (decimal (suc (newlines before)) ++ (ascii ", column " ++ (decimal (suc (columns last)) ++ ascii ": ")))

abbrev pub picture_text : List ℕ → List ℕ → List ℕ
picture_text line last =
    newline
    ++ (write_row shown (take (line_size line) line)
    ++ (newline ++ (write_row padding last ++ (ascii "^" ++ newline))))
