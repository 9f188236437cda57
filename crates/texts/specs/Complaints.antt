-- Complaints: a fault of a text, told to people: line and column, what is wrong, the line, and a mark under the place.
--
--   Known                    what complaints need of a vocabulary
--   reasons, endings         what is said of each reason, before and behind the token at fault
--   token_then u l            the token u and l behind it; nothing where l is empty
--   between c                what stands before a word that is listed; c: another one stands before it
--   unlisted c               what is said where no word is listed
--   alternatives T s n i c   those of the n words from word i on that are of kind s; c: another one stands before them
--   due_text T s              the kind s is due, with its words
--   begins_term u             a term may begin with the token u
--   first_token l             the token of the first of the lexemes l
--   commas_in d l             how many , with a term behind them stand among the lexemes l, up to a : or the ) that ends them; d more ( are
--                            to be closed before it
--   takes_text n              how many places a word takes
--   missing_text u, over_text u n c     what is said where u stands in place of the mark before a place, or of the ) behind the last
--   places_text T x u c       how many places the word takes that the fault x is about, and what is wrong with those that are written
--   joins_words u             u is a , a | or a =
--   no_pattern_text u          what is said where u begins no pattern
--   token_behind b at         the token behind the one at the offset at of a text
--   unknown_text u v          what is said where u is no word, and v stands behind it
--   order_marked u            u begins with a byte order mark
--   reason_text T x u v c     what is wrong, where u stands at the fault and v behind it
--   newlines l               how many lines end in l
--   line_start_from, line_start l   where the last line of l begins
--   follows b                the byte b begins no character
--   columns l                how many characters l has
--   shown b, padding b       a byte of the line as it is shown, and what stands below it before the mark
--   line_size l               how many bytes l has up to the end of its line
--   complaint b T x          the text for the fault x of the text b
--
use Rattle.std.specs.Prelude.{Bool, true, false, not, ◌||◌, ◌&&◌, cond, List, [], ◌∷◌, ◌++◌, ℕ, zero, suc, ◌+◌, eqb, ltb, length, get_or, take, drop}
use Rattle.wire.specs.Reply.{outside}
use Rattle.wire.specs.Row.{write_row}
use Rattle.wire.specs.Text.{ascii, newline, decimal}
use Rattle.texts.specs.Lexemes.{Token, asking, blanks, token_size, Lexeme, lexemes_from, token_at}
use Rattle.texts.specs.Names.{same, opened, kind_word, mark, opening, comma, closing, bar, equals, colon, is_identifier, is_variable, name_at}
use Rattle.texts.specs.Faults.{Fault, kind_due, pattern_due, term_due, unknown_word, other_kind, places_wrong, places_over}

-- What complaints need of a vocabulary: the names of kinds and words, the words' kinds, and how many places each takes.
pub record Known : Type 0 where
  pub kinds : List Token
  pub words : List Token
  pub results : List ℕ
  pub places : List ℕ

-- What is said of each reason, by its number (Faults): first what stands before the token at fault ..
abbrev pub reasons : List (List ℕ)
reasons =
    []
    ∷ ascii "`kind` is due here, as a text begins with its kinds"
    ∷ ascii "a name is due here, for the kind"
    ∷ ascii "32 bytes are the most for a name, and this one has more"
    ∷ ascii "kind "
    ∷ ascii "16 kinds are the most, and this is one more"
    ∷ ascii "a name is due here, for a word"
    ∷ ascii "word "
    ∷ ascii "96 words are the most, and this is one more"
    ∷ ascii "the name of a kind is due here"
    ∷ ascii "kind "
    ∷ ascii "8 places are the most, and this is one more"
    ∷ ascii "a , or a ) is due here"
    ∷ ascii "no kind up to here has a word; words stand behind =, as in kind button = up | down"
    ∷ []
    ∷ []
    ∷ []
    ∷ []
    ∷ []
    ∷ ascii "32 levels are the most, and this is one more"
    ∷ ascii "4096 bytes are the most for a pattern or a situation, and this one has more"
    ∷ []
    ∷ ascii "64 names are the most in a pattern, and this is one more"
    ∷ ascii "a : and a kind are due here, as in _: step"
    ∷ ascii "65535 bytes are the most for a text, and this one has more"
    ∷ []
    ∷ ascii "a situation has no open place and no name"
    ∷ ascii "a question begins with the label of the pattern before it, and this is another name"
    ∷ ascii "kind "
    ∷ []

-- .. and then what stands behind it. Where there is nothing the token is not named: it stands in the line that is shown.
abbrev pub endings : List (List ℕ)
endings =
    []
    ∷ []
    ∷ []
    ∷ []
    ∷ ascii " is declared twice"
    ∷ []
    ∷ []
    ∷ ascii " is declared twice"
    ∷ []
    ∷ []
    ∷ ascii " is used and not declared"
    ∷ []
    ∷ []
    ∷ []
    ∷ []
    ∷ []
    ∷ []
    ∷ []
    ∷ []
    ∷ []
    ∷ []
    ∷ ascii " stands twice in this pattern"
    ∷ []
    ∷ []
    ∷ []
    ∷ []
    ∷ []
    ∷ []
    ∷ ascii " is none of the first 16 kinds, and 16 are the most"
    ∷ []

abbrev pub token_then : Token → List ℕ → List ℕ
token_then u [] = []
token_then u (b ∷ l) = u ++ (b ∷ l)

abbrev pub between : Bool → List ℕ
between true = ascii " or "
between false = ascii ": "

abbrev pub unlisted : Bool → List ℕ
unlisted true = []
unlisted false = ascii ", and no word of that kind is declared before the first pattern"

-- `: free or full`: the words of kind s, from word i on, where n are left to look at.
abbrev pub alternatives : Known → ℕ → ℕ → ℕ → Bool → List ℕ
alternatives T s zero i c = unlisted c
alternatives T s (suc n) i c =
    cond (eqb (get_or T.results i 0) s) (between c ++ (name_at T.words i ++ alternatives T s n (suc i) true)) (alternatives T s n (suc i) c)

-- `queue is due here: free or full`.
abbrev pub due_text : Known → ℕ → List ℕ
due_text T s = name_at T.kinds s ++ (ascii " is due here" ++ alternatives T s (length T.words) 0 false)

abbrev pub begins_term : Token → Bool
begins_term u = is_identifier u || (same u opened || is_variable u)

abbrev pub first_token : List Lexeme → Token
first_token [] = []
first_token (x ∷ l) = x.token

-- The places behind the fault are counted too: a , in no further parentheses has one behind it where a term begins there. Where
-- the ) is missing a : ends them, which stands behind the label of a later pattern.
abbrev pub commas_in : ℕ → List Lexeme → ℕ
commas_in d [] = 0
commas_in zero (x ∷ l) =
    cond (same x.token (mark colon)) 0
    (cond (same x.token (mark closing)) 0
    (cond (same x.token (mark opening)) (commas_in 1 l)
    (cond (same x.token (mark comma) && begins_term (first_token l)) (suc (commas_in 0 l)) (commas_in 0 l))))
commas_in (suc d) (x ∷ l) =
    cond (same x.token (mark colon)) 0
    (cond (same x.token (mark closing)) (commas_in d l)
    (cond (same x.token (mark opening)) (commas_in (suc (suc d)) l) (commas_in (suc d) l)))

abbrev pub takes_text : ℕ → List ℕ
takes_text n = ascii " takes " ++ (decimal n ++ cond (eqb n 1) (ascii " place") (ascii " places"))

-- A ( or a , is due: `wait(up)`, `wait, free`, `wait up`.
abbrev pub missing_text : Token → List ℕ
missing_text u =
    cond (same u (mark closing)) (ascii ", and fewer are written")
    (cond (same u (mark comma)) (ascii ", and none is written") (ascii ", in ( and ) with a , between them"))

-- A ) is due, and c places are written behind the n that the word takes: `wait takes 2 places, and 3 are written`.
abbrev pub over_text : Token → ℕ → ℕ → List ℕ
over_text u n c =
    cond (same u (mark comma))
    (cond (eqb c 0) (ascii ", and no , is due here") (ascii ", and " ++ (decimal (n + c) ++ ascii " are written")))
    (ascii ", and a ) is due here")

abbrev pub places_text : Known → Fault → Token → ℕ → List ℕ
places_text T x u c =
    let n : ℕ = get_or T.places x.of 0 in
    name_at T.words x.of ++ (takes_text n ++ cond (eqb x.why places_over) (over_text u n c) (missing_text u))

abbrev pub joins_words : Token → Bool
joins_words u = same u (mark comma) || (same u (mark bar) || same u (mark equals))

-- A mark that may have been meant for the words of a kind, as in `kind button = up, down`, is told with what stands there.
abbrev pub no_pattern_text : Token → List ℕ
no_pattern_text u =
    cond (same u kind_word) (ascii "all kinds are declared before the first pattern")
    (cond (joins_words u) (ascii "a pattern is due here; no mark stands between patterns, and the words of a kind stand behind =, with a | between them")
    (ascii "a pattern is due here"))

abbrev pub token_behind : List ℕ → ℕ → Token
token_behind b at =
    let end : ℕ = at + token_size (drop at b) in
    token_at b (end + blanks (drop end b))

-- A name with a ? behind it was meant as the label of a question.
abbrev pub unknown_text : Token → Token → List ℕ
unknown_text u v =
    cond (same v (mark asking)) (ascii "a question stands behind its pattern, and begins with its label")
    (ascii "no word "
    ++ (u ++ (ascii " in this vocabulary" ++ cond (is_variable v) (ascii "; in a question a blank is due behind the ?") [])))

abbrev pub order_marked : Token → Bool
order_marked u = same (take 3 u) (239 ∷ 187 ∷ 191 ∷ [])

-- A ( where no place is due, as in `done(up)`, is told as such; so is what some editors put before a text.
abbrev pub reason_text : Known → Fault → Token → Token → ℕ → List ℕ
reason_text T x u v c =
    cond (eqb x.why term_due || eqb x.why other_kind) (due_text T x.of)
    (cond ((eqb x.why places_wrong || (eqb x.why places_over || eqb x.why pattern_due)) && same u (mark opening))
    (ascii "no places are due here, as what stands before takes none or has them all")
    (cond (eqb x.why places_wrong || eqb x.why places_over) (places_text T x u c)
    (cond (eqb x.why pattern_due) (no_pattern_text u)
    (cond (eqb x.why unknown_word) (unknown_text u v)
    (cond (eqb x.why kind_due && order_marked u) (ascii "a byte order mark stands here, and a text begins with `kind`")
    (get_or reasons x.why [] ++ token_then u (get_or endings x.why [])))))))

abbrev pub newlines : List ℕ → ℕ
newlines [] = 0
newlines (b ∷ l) = cond (eqb b 10) (suc (newlines l)) (newlines l)

-- The offset behind the last end of a line in l; the bytes l begin at offset at, and the line before them at offset s.
abbrev pub line_start_from : ℕ → ℕ → List ℕ → ℕ
line_start_from at s [] = s
line_start_from at s (b ∷ l) = line_start_from (suc at) (cond (eqb b 10) (suc at) s) l

abbrev pub line_start : List ℕ → ℕ
line_start l = line_start_from 0 0 l

-- Bytes 128 to 191 go on with a character beyond ASCII; a carriage return, which ends lines, is none.
abbrev pub follows : ℕ → Bool
follows b = not (outside 128 191 b) || eqb b 13

abbrev pub columns : List ℕ → ℕ
columns [] = 0
columns (b ∷ l) = cond (follows b) (columns l) (suc (columns l))

-- Bytes that a screen would not show as a character are shown as ?, a tab as it is, and a carriage return not at all.
abbrev pub shown : ℕ → List ℕ
shown b = cond (eqb b 13) [] (cond ((ltb b 32 && not (eqb b 9)) || eqb b 127) (ascii "?") (b ∷ []))

abbrev pub padding : ℕ → List ℕ
padding b = cond (follows b) [] (cond (eqb b 9) (b ∷ []) (ascii " "))

abbrev pub line_size : List ℕ → ℕ
line_size [] = 0
line_size (b ∷ l) = cond (eqb b 10) 0 (suc (line_size l))

-- `line 3, column 12: queue is due here: free or full`, the line, and ^ below the place.
abbrev pub complaint : List ℕ → Known → Fault → List ℕ
complaint b T x =
    let before : List ℕ = take x.at b in
    let s : ℕ = line_start before in
    let line : List ℕ = drop s b in
    ascii "line "
    ++ (decimal (suc (newlines before))
    ++ (ascii ", column "
    ++ (decimal (suc (columns (drop s before)))
    ++ (ascii ": "
    ++ (reason_text T x (token_at b x.at) (token_behind b x.at) (commas_in 0 (lexemes_from b x.at))
    ++ (newline
    ++ (write_row shown (take (line_size line) line)
    ++ (newline ++ (write_row padding (drop s before) ++ (ascii "^" ++ newline))))))))))
