-- Rows: the words that were read, as the records of a table.
--
--   row_in r f, rows_in n r    the row of the word f, and the first n rows
--   last_in n r               the last of the first n rows, if there is one
--   count_last n r            how many places its record says
--   begun kind n r           a record of the kind without places behind the first n
--   placed kind m n r        a place more in the last of the first n records, behind m places
--   Tables n words records   the tables have their sizes, and each record of the first n says how many places it has
--
use Rattle.std.specs.Prelude.{◌≡◌, List, [], ◌∷◌, map, ℕ, zero, suc, ◌+◌, ◌*◌, ◌<◌, ◌≤◌, length, get_or, set, take, drop}
use Rattle.terms.specs.Lists.{range}
use Rattle.wire.specs.Vocabulary.{most_words}
use Rattle.texts.specs.Lexicon.{most_places}
use Rattle.texts.specs.LexiconReading.{WordRow}
use Rattle.texts.specs.Tabled.{record_size, tabled_places}

abbrev pub row_in : List ℕ → ℕ → WordRow
row_in r f = record { kind = get_or r (record_size * f) 0; places = take (tabled_places r f) (drop (record_size * f + 2) r) }

abbrev pub rows_in : ℕ → List ℕ → List WordRow
rows_in n r = map (row_in r) (range 0 n)

abbrev pub last_in : ℕ → List ℕ → List WordRow
last_in zero r = []
last_in (suc f) r = row_in r f ∷ []

abbrev pub count_last : ℕ → List ℕ → ℕ
count_last zero r = 0
count_last (suc f) r = get_or r (record_size * f + 1) 0

abbrev pub begun : ℕ → ℕ → List ℕ → List ℕ
begun kind n r = set (set r (record_size * n) kind) (record_size * n + 1) 0

abbrev pub placed : ℕ → ℕ → ℕ → List ℕ → List ℕ
placed kind m zero r = r
placed kind m (suc f) r = set (set r (record_size * f + 2 + m) kind) (record_size * f + 1) (m + 1)

pub record Tables (n : ℕ) (words records : List ℕ) : Type 0 where
  pub few : n ≤ most_words
  pub words_size : length words ≡ most_words
  pub records_size : length records ≡ record_size * most_words
  pub counts : (f : ℕ) → f < n → get_or records (record_size * f + 1) 0 ≤ most_places
