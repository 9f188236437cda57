-- Saying: the bytes of a term in words, by a walk over its bytes.
--
-- This file is an algorithm, and nothing in it has to be believed: SaysTerms and SaysPhrases (Laws) fix what it gives.
--
--   Tables                  the tokens of kinds, words and variables, and how many places each word has
--   place_counts X           how many places each word of a lexicon has
--   tables_of X vs           those of a lexicon and of a pattern's variables
--   TablesFor X vs T        T has what tables_of has, for each number that stands for something; behind that it may have anything
--   Said                    a text, and the bytes behind those that it says
--   comma_text               what stands between two places
--   say_places sayer n c m l the terms of n places, c before the first, where m has the bits of those that are written
--   say_behind, say_word      what stands behind a word's name, and a word with its places
--   say_term T left l        the term at the front of l, at most `left` levels deep
--   with_kind T s text       the text of a root that has no word, and its kind s behind it
--   say_root, say_phrase T b  a pattern or entry with its kind byte
--
use Rattle.std.specs.Prelude.{◌≡◌, cond, List, [], ◌∷◌, ◌++◌, map, ℕ, zero, suc, ◌-◌, ◌/◌, ◌%◌, ◌<◌, eqb, ltb, length, get_or}
use Rattle.wire.specs.Map.{MapRead, map_got, map_missing, read_map}
use Rattle.wire.specs.TermBytes.{first_name_byte, whole_byte, most_levels}
use Rattle.wire.specs.Text.{ascii}
use Rattle.texts.specs.Lexemes.{Token}
use Rattle.texts.specs.Names.{opened, mark, opening, closing, comma, colon, name_at}
use Rattle.texts.specs.Lexicon.{WordText, Lexicon, kind_names, all_words, word_names}

pub record Tables : Type 0 where
  pub kinds : List Token
  pub words : List Token
  pub places : List ℕ
  pub variables : List Token

abbrev pub place_counts : Lexicon → List ℕ
place_counts X = map (λ (w : WordText). length w.places) (all_words X)

abbrev pub tables_of : Lexicon → List Token → Tables
tables_of X vs = record { kinds = kind_names X; words = word_names X; places = place_counts X; variables = vs }

pub record TablesFor (X : Lexicon) (vs : List Token) (T : Tables) : Type 0 where
  pub kinds : (k : ℕ) → k < length X → name_at T.kinds k ≡ name_at (kind_names X) k
  pub words : (f : ℕ) → f < length (word_names X) → name_at T.words f ≡ name_at (word_names X) f
  pub places : (f : ℕ) → f < length (word_names X) → get_or T.places f 0 ≡ get_or (place_counts X) f 0
  pub variables : (n : ℕ) → n < length vs → name_at T.variables n ≡ name_at vs n

pub record Said : Type 0 where
  pub text : List ℕ
  pub rest : List ℕ

abbrev pub comma_text : List ℕ
comma_text = mark comma ++ ascii " "

abbrev pub say_places : (List ℕ → Said) → ℕ → List ℕ → ℕ → List ℕ → Said
say_places sayer zero c m l = record { text = mark closing; rest = l }
say_places sayer (suc n) c m l =
    let here : Said = cond (eqb (m % 2) 1) (sayer l) (record { text = opened; rest = l }) in
    let behind : Said = say_places sayer n comma_text (m / 2) here.rest in
    record { text = c ++ (here.text ++ behind.text); rest = behind.rest }

-- A word without places has no parentheses.
abbrev pub say_behind : (List ℕ → Said) → ℕ → MapRead → Said
say_behind sayer n (map_missing l) = record { text = []; rest = l }
say_behind sayer zero (map_got m l) = record { text = []; rest = l }
say_behind sayer (suc n) (map_got m l) = say_places sayer (suc n) (mark opening) m l

abbrev pub say_word : Tables → (List ℕ → Said) → ℕ → List ℕ → Said
say_word T sayer f l =
    let behind : Said = say_behind sayer (get_or T.places f 0) (read_map l) in
    record { text = name_at T.words f ++ behind.text; rest = behind.rest }

abbrev pub say_term : Tables → ℕ → List ℕ → Said
say_term T zero l = record { text = []; rest = l }
say_term T (suc left) [] = record { text = []; rest = [] }
say_term T (suc left) (b ∷ l) =
    cond (ltb b first_name_byte) (say_word T (say_term T left) b l) (record { text = name_at T.variables (b - first_name_byte); rest = l })

abbrev pub with_kind : Tables → ℕ → List ℕ → List ℕ
with_kind T s text = text ++ (mark colon ++ (ascii " " ++ name_at T.kinds s))

-- Behind an open place or a variable at the root the kind is written.
abbrev pub say_root : Tables → ℕ → List ℕ → List ℕ
say_root T s [] = []
say_root T s (b ∷ l) =
    cond (eqb b whole_byte) (with_kind T s opened)
    (cond (ltb b first_name_byte) (say_term T most_levels (b ∷ l)).text (with_kind T s (say_term T most_levels (b ∷ l)).text))

abbrev pub say_phrase : Tables → List ℕ → List ℕ
say_phrase T [] = []
say_phrase T (s ∷ l) = say_root T s l
