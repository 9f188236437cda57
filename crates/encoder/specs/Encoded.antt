-- Encoded: the bytes of a vocabulary that stands in a table of records.
--
--   table_size, most_encoded         how many bytes a table of records has, and at most its vocabulary (960, 962)
--   PutWord records f at before r after       the record of the word f is written behind the first bytes, as a vocabulary has it
--   Encoded k n records r after    the first r bytes are those of the vocabulary
--
use Rattle.std.specs.Prelude.{◌≡◌, List, ◌++◌, ℕ, ◌+◌, ◌*◌, ◌≤◌, length, take}
use Rattle.wire.specs.Vocabulary.{most_words, encode_word, encode_vocabulary}
use Rattle.texts.specs.Tabled.{record_size, word_in, tabled_vocabulary}

abbrev pub table_size : ℕ
table_size = record_size * most_words

abbrev pub most_encoded : ℕ
most_encoded = 2 + table_size

pub record PutWord (records : List ℕ) (f at : ℕ) (before : List ℕ) (r : ℕ) (after : List ℕ) : Type 0 where
  pub size : length after ≡ length before
  pub bytes : take r after ≡ take at before ++ encode_word (word_in records f)
  pub short : r ≤ at + record_size

pub record Encoded (k n : ℕ) (records : List ℕ) (r : ℕ) (after : List ℕ) : Type 0 where
  pub size : length after ≡ most_encoded
  pub short : r ≤ most_encoded
  pub bytes : take r after ≡ encode_vocabulary (tabled_vocabulary k n records)
