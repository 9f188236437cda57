-- VocabularyLines: lines 1 to 5 of the refusal list, each a predicate on the bytes of a vocabulary. Line 6 was struck by document
-- 02 (iv), and its number is not used again.
--
--   byte_at b i                the byte at offset i
--   map_in m                   the map that was read as m; 0 where the bytes end first
--   places_of b i              how many places the map of the record at offset i says that it has
--   record_at b w              the offset of word w's record
--   words_of b                 the word count
--   KindByte b q              a record's kind byte is due at offset q
--   VocabularyLine b n q      line n fits the bytes b at the place q
--   VocabularyFirst v Under   a refusal of the vocabulary v, or one of those that a call gives under the vocabulary that
--                             v writes
--
use Rattle.std.specs.Prelude.{List, ◌⊎◌, ℕ, zero, suc, ◌+◌, ◌<◌, ◌≤◌, length, get_or, drop}
use Rattle.wire.specs.Reply.{Outside}
use Rattle.wire.specs.Map.{map_bytes, MapRead, map_got, map_missing, read_map, flags, ones}
use Rattle.wire.specs.Vocabulary.{Vocabulary, most_kinds, most_words, HoldsVocabulary}
use Rattle.wire.specs.Refusals.{Decides}

abbrev pub byte_at : List ℕ → ℕ → ℕ
byte_at b i = get_or b i 0

abbrev pub map_in : MapRead → ℕ
map_in (map_got m l) = m
map_in (map_missing l) = 0

-- "one byte result kind, one byte place map, then one kind byte for each standing bit of the map".
abbrev pub places_of : List ℕ → ℕ → ℕ
places_of b i = ones (flags (map_in (read_map (drop (i + 1) b))))

-- The records follow bytes 0 and 1, each directly behind the one before it.
abbrev pub record_at : List ℕ → ℕ → ℕ
record_at b zero = 2
record_at b (suc w) = record_at b w + 1 + map_bytes + places_of b (record_at b w)

abbrev pub words_of : List ℕ → ℕ
words_of b = byte_at b 1

-- "A record's result kind or place's kind".
pub data KindByte (b : List ℕ) : ℕ → Type 0 where
  of_result : (w : ℕ) → w < words_of b → KindByte b (record_at b w)
  of_place : (w j : ℕ) → w < words_of b → j < places_of b (record_at b w) → KindByte b (record_at b w + 1 + map_bytes + j)

pub data VocabularyLine (b : List ℕ) : ℕ → ℕ → Type 0 where
  -- 1. "The vocabulary has fewer than 2 bytes or a kind count outside 1 to 16 (place 0)."
  head : (length b < 2) ⊎ Outside 1 most_kinds (byte_at b 0) → VocabularyLine b 1 0
  -- 2. "The word count is outside 1 to 96."
  count : 2 ≤ length b → Outside 1 most_words (byte_at b 1) → VocabularyLine b 2 1
  -- 3. "The vocabulary ends where a record's byte is due."
  ends : 2 ≤ length b → length b < record_at b (words_of b) → VocabularyLine b 3 (length b)
  -- 4. "A record's result kind or place's kind is not below the kind count".
  kind : (q : ℕ) → KindByte b q → q < length b → byte_at b 0 ≤ byte_at b q → VocabularyLine b 4 q
  -- 5. "Bytes follow the last record (the first of them)."
  more : record_at b (words_of b) < length b → VocabularyLine b 5 (record_at b (words_of b))

-- "The vocabulary is checked first". It is input 0; what a call judges then it judges under the vocabulary W.
pub data VocabularyFirst (v : List ℕ) (Under : Vocabulary → ℕ → ℕ → ℕ → Type 0) : ℕ → ℕ → ℕ → Type 0 where
  of_vocabulary : (n q : ℕ) → Decides (VocabularyLine v) n q → VocabularyFirst v Under n 0 q
  under : (W : Vocabulary) (n i q : ℕ) → HoldsVocabulary v W → Under W n i q → VocabularyFirst v Under n i q
