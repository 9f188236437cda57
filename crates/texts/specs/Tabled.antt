-- Tabled: a vocabulary in words as tables of numbers: where names stand in a text, and a record of ten bytes for each word. No promise
-- of the desk cites it; the contracts of the crates that hand each other these tables do.
--
--   names_in b q              the tokens at the offsets q of the text b
--   record_size               a record has so many bytes (10): kind, number of places, and the kinds of eight places
--   tabled_places r f             how many places the record of word f says that it has, 8 at most
--   word_in r f               the word of number f
--   words_in n r              the first n words
--   tabled_vocabulary k n r       the vocabulary of k kinds and n words
--   known_in b ks k ws n r    what complaints need of it, where the names of kinds and words stand at the offsets ks and ws of the text b
--
use Rattle.std.specs.Prelude.{List, map, ℕ, ◌+◌, ◌*◌, min, get_or, take, drop}
use Rattle.terms.specs.Lists.{range}
use Rattle.wire.specs.Vocabulary.{Word, Vocabulary}
use Rattle.texts.specs.Lexemes.{Token, token_at}
use Rattle.texts.specs.Lexicon.{gapless_map, most_places}
use Rattle.texts.specs.Complaints.{Known}

abbrev pub names_in : List ℕ → List ℕ → List Token
names_in b q = map (token_at b) q

abbrev pub record_size : ℕ
record_size = 2 + most_places

abbrev pub tabled_places : List ℕ → ℕ → ℕ
tabled_places r f = min (get_or r (record_size * f + 1) 0) most_places

abbrev pub word_in : List ℕ → ℕ → Word
word_in r f = record {
  result = get_or r (record_size * f) 0;
  place_map = gapless_map (tabled_places r f);
  kinds = take (tabled_places r f) (drop (record_size * f + 2) r);
}

abbrev pub words_in : ℕ → List ℕ → List Word
words_in n r = map (word_in r) (range 0 n)

abbrev pub tabled_vocabulary : ℕ → ℕ → List ℕ → Vocabulary
tabled_vocabulary k n r = record { kinds = k; words = words_in n r }

-- What complaints need, by the names of k kinds and n words.
abbrev pub known_in : List ℕ → List ℕ → ℕ → List ℕ → ℕ → List ℕ → Known
known_in b ks k ws n r = record {
  kinds = names_in b (take k ks);
  words = names_in b (take n ws);
  results = map (λ (f : ℕ). get_or r (record_size * f) 0) (range 0 n);
  places = map (tabled_places r) (range 0 n);
}
