-- LexiconReading: a vocabulary in words, read off the lexemes of a text, token by token. The names of the kinds are gathered first,
-- since a kind may be used before it is declared.
--
-- This file is an algorithm: LexiconsRead and LexiconsExact (Laws) fix what it accepts, LexiconFaultsAreFirst where a fault is. Which
-- reason is given there is by its tests (kind_name_why, word_name_why, place_why).
--
--   name_why due twice many most seen u    why the token u is no name that may stand behind the names `seen`; 0 where it is
--   kind_name_why, word_name_why, place_why    the same for a kind's name, a word's, and the kind of a place
--   with_name seen u why       the names `seen`, and u behind them where nothing speaks against it
--   names_from seen us         the names behind each `kind` of the tokens us that may follow those before them, after the names `seen`
--   WordRow                       a word that was read: its kind, and the kinds of its places
--   row_word x                 its record
--   Phase                     what may come next
--   Declaring                 what was read so far: the phase, how many kinds, the words' names, and their rows
--   rows_of x, beginning       all rows; where nothing is read yet
--   Stepped                   behind a token: go on, or the patterns begin with it, or it is at fault
--   go_to p x                  x in the phase p
--   step_kind, step_word, step_place, step_on, step_in, step      one token
--   places_last rs             how many places the word has that was begun last
--   grown k r                 the row r with one place more
--   LexiconRead               the names of kinds and words, and the words' rows
--   ended, stepped            the vocabulary ends before the lexemes l; what follows a token
--   read_rows K x l            the declarations that l begins with
--   read_lexicon l             the vocabulary that l begins with
--
use Rattle.std.specs.Prelude.{cond, List, [], ◌∷◌, ◌++◌, map, ℕ, zero, suc, ◌-◌, eqb, ltb, leb, length, take}
use Rattle.wire.specs.Vocabulary.{Word, most_kinds, most_words}
use Rattle.texts.specs.Lexemes.{Token, Lexeme}
use Rattle.texts.specs.Names.{same, kind_word, mark, opening, closing, comma, bar, equals, most_name, is_identifier, index_in, name_at}
use Rattle.texts.specs.Lexicon.{gapless_map, most_places}
use Rattle.texts.specs.Faults.{Parsed, parsed, bad, place, kind_due, kind_name_due, long_name, kind_twice, many_kinds, word_due, word_twice, many_words, place_due, not_declared, kind_beyond, many_places, place_end, no_words}

abbrev pub name_why : ℕ → ℕ → ℕ → ℕ → List Token → Token → ℕ
name_why due twice many most seen u =
    cond (is_identifier u)
    (cond (leb (length u) most_name)
    (cond (ltb (index_in u seen) (length seen)) twice (cond (ltb (length seen) most) 0 many))
    long_name)
    due

abbrev pub kind_name_why : List Token → Token → ℕ
kind_name_why seen u = name_why kind_name_due kind_twice many_kinds most_kinds seen u

abbrev pub word_name_why : List Token → Token → ℕ
word_name_why seen u = name_why word_due word_twice many_words most_words seen u

-- K are the names of the kinds, and n places stand before this one. Where there are as many as may be, another may be declared or not.
abbrev pub place_why : List Token → ℕ → Token → ℕ
place_why K n u =
    cond (is_identifier u)
    (cond (leb (length u) most_name)
    (cond (ltb (index_in u K) (length K)) (cond (ltb n most_places) 0 many_places)
    (cond (ltb (length K) most_kinds) not_declared kind_beyond))
    long_name)
    place_due

abbrev pub with_name : List Token → Token → ℕ → List Token
with_name seen u zero = seen ++ (u ∷ [])
with_name seen u (suc why) = seen

-- A name that may not follow those before it is passed over here: it is at fault where the declarations come to it.
abbrev pub names_from : List Token → List Token → List Token
names_from seen [] = seen
names_from seen (u ∷ us) =
    names_from (cond (same u kind_word) (with_name seen (name_at us 0) (kind_name_why seen (name_at us 0))) seen) us

pub record WordRow : Type 0 where
  pub kind : ℕ
  pub places : List ℕ

abbrev pub row_word : WordRow → Word
row_word x = record { result = x.kind; place_map = gapless_map (length x.places); kinds = x.places }

-- What may come next.
pub data Phase : Type 0 where
  -- The text begins.
  at_start : Phase
  -- Behind `kind`: its name.
  at_kind : Phase
  behind_kind : Phase
  -- Behind = or |: a word.
  at_word : Phase
  behind_word : Phase
  -- Behind ( or ,: the kind of a place.
  at_place : Phase
  behind_place : Phase
  -- Behind the ) of a word's places.
  behind_places : Phase

-- `kinds` counts those that have begun; `last` is the word that was begun last, `done` those before it.
pub record Declaring : Type 0 where
  pub phase : Phase
  pub kinds : ℕ
  pub names : List Token
  pub done : List WordRow
  pub last : List WordRow

abbrev pub rows_of : Declaring → List WordRow
rows_of x = x.done ++ x.last

abbrev pub beginning : Declaring
beginning = record { phase = at_start; kinds = 0; names = []; done = []; last = [] }

pub data Stepped : Type 0 where
  on : Declaring → Stepped
  over : Stepped
  fails : ℕ → Stepped

abbrev pub go_to : Phase → Declaring → Stepped
go_to p x = on (record { phase = p; kinds = x.kinds; names = x.names; done = x.done; last = x.last })

abbrev pub step_kind : Declaring → ℕ → Stepped
step_kind x zero = on (record { phase = behind_kind; kinds = suc x.kinds; names = x.names; done = x.done; last = x.last })
step_kind x (suc why) = fails (suc why)

abbrev pub step_word : Declaring → Token → ℕ → Stepped
step_word x u zero =
    on
    (record {
      phase = behind_word;
      kinds = x.kinds;
      names = x.names ++ (u ∷ []);
      done = rows_of x;
      last = record { kind = x.kinds - 1; places = [] } ∷ [];
    })
step_word x u (suc why) = fails (suc why)

abbrev pub places_last : List WordRow → ℕ
places_last [] = 0
places_last (r ∷ rs) = length r.places

abbrev pub grown : ℕ → WordRow → WordRow
grown k r = record { kind = r.kind; places = r.places ++ (k ∷ []) }

abbrev pub step_place : Declaring → ℕ → ℕ → Stepped
step_place x k zero =
    on
    (record {
      phase = behind_place;
      kinds = x.kinds;
      names = x.names;
      done = x.done;
      last = map (grown k) x.last;
    })
step_place x k (suc why) = fails (suc why)

-- Where a declaration may end: another begins, or the patterns do.
abbrev pub step_on : Declaring → Token → Stepped
step_on x u = cond (same u kind_word) (go_to at_kind x) over

-- The kinds that have begun are the first ones of K.
abbrev pub step_in : List Token → Declaring → Token → Phase → Stepped
step_in K x u at_start = cond (same u kind_word) (go_to at_kind x) (fails kind_due)
step_in K x u at_kind = step_kind x (kind_name_why (take x.kinds K) u)
step_in K x u behind_kind = cond (same u (mark equals)) (go_to at_word x) (step_on x u)
step_in K x u at_word = step_word x u (word_name_why x.names u)
step_in K x u behind_word =
    cond (same u (mark opening)) (go_to at_place x) (cond (same u (mark bar)) (go_to at_word x) (step_on x u))
step_in K x u at_place = step_place x (index_in u K) (place_why K (places_last x.last) u)
step_in K x u behind_place =
    cond (same u (mark comma)) (go_to at_place x) (cond (same u (mark closing)) (go_to behind_places x) (fails place_end))
step_in K x u behind_places = cond (same u (mark bar)) (go_to at_word x) (step_on x u)

abbrev pub step : List Token → Declaring → Token → Stepped
step K x u = step_in K x u x.phase

pub record LexiconRead : Type 0 where
  pub kind_names : List Token
  pub word_names : List Token
  pub rows : List WordRow

-- Where the patterns begin the vocabulary ends; it has a word at least.
abbrev pub ended : List Token → Declaring → List Lexeme → Parsed LexiconRead
ended K x l =
    cond (eqb (length x.names) 0) (bad (record { why = no_words; at = place l; of = 0 }))
    (parsed (record { kind_names = K; word_names = x.names; rows = rows_of x }) l)

abbrev pub stepped : (Declaring → Parsed LexiconRead) → List Token → Declaring → List Lexeme → Stepped → Parsed LexiconRead
stepped more K x l (on y) = more y
stepped more K x l over = ended K x l
stepped more K x l (fails why) = bad (record { why = why; at = place l; of = 0 })

-- A text ends with an empty lexeme, which is no part of a declaration.
abbrev pub read_rows : List Token → Declaring → List Lexeme → Parsed LexiconRead
read_rows K x [] = ended K x []
read_rows K x (y ∷ l) = stepped (λ z. read_rows K z l) K x (y ∷ l) (step K x y.token)

abbrev pub read_lexicon : List Lexeme → Parsed LexiconRead
read_lexicon l = read_rows (names_from [] (map (λ (x : Lexeme). x.token) l)) beginning l
