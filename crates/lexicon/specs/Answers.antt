-- Answers: what reading a vocabulary in words promises.
--
--   KindsKnown b kinds k        the table has the names of the k kinds of the text, which are no more than may be
--   LexiconAnswer               what reading a vocabulary gives
--   ended_of k n end at          the answer where the vocabulary ends before the token at an offset
--   lexicon_answered b kinds words records r     the vocabulary that the code answers, or its fault
--   Fits, LexiconFits           where it answers a vocabulary: its counts and tables are in order
--   LexiconPromise              it is what read_lexicon says
--
use Rattle.std.specs.Prelude.{◌≡◌, List, [], map, ℕ, zero, suc, ◌<◌, ◌≤◌, length, take, Result, Ok, Err}
use Rattle.wire.specs.Vocabulary.{most_kinds}
use Rattle.texts.specs.Lexemes.{lexemes, tokens, lexemes_from}
use Rattle.texts.specs.Faults.{Parsed, parsed, bad}
use Rattle.texts.specs.LexiconReading.{LexiconRead, row_word, names_from, read_lexicon}
use Rattle.texts.specs.Tabled.{names_in, words_in}
use Rattle.faults.specs.declared.Reason.TheVariants.{NoWords}
use Rattle.faults.specs.Reasons.{number_of}
use Rattle.lexicon.specs.declared.Counts.{Counts}
use Rattle.lexicon.specs.declared.Refusal.{Refusal}
use Rattle.lexicon.specs.Rows.{rows_in, Tables}

-- The names of the kinds are known.
pub record KindsKnown (b kinds : List ℕ) (k : ℕ) : Type 0 where
  pub size : length kinds ≡ most_kinds
  pub few : k ≤ most_kinds
  pub same : names_from [] (tokens b) ≡ names_in b (take k kinds)

abbrev pub LexiconAnswer : Type 0
LexiconAnswer = Result Counts Refusal

abbrev pub ended_of : ℕ → ℕ → ℕ → ℕ → LexiconAnswer
ended_of k zero end at = Err (record { why = NoWords; at = at })
ended_of k (suc n) end at = Ok (record { kinds = k; words = suc n; at = end })

abbrev pub lexicon_answered : List ℕ → List ℕ → List ℕ → List ℕ → LexiconAnswer → Parsed LexiconRead
lexicon_answered b kinds words records (Ok x) =
    parsed
    (record {
      kind_names = names_in b (take x.kinds kinds);
      word_names = names_in b (take x.words words);
      rows = rows_in x.words records;
    })
    (lexemes_from b x.at)
lexicon_answered b kinds words records (Err x) = bad (record { why = number_of x.why; at = x.at; of = 0 })

pub record Fits (b kinds words records : List ℕ) (k n at : ℕ) : Type 0 where
  pub few_kinds : k ≤ most_kinds
  pub kinds_size : length kinds ≡ most_kinds
  pub some_word : 0 < n
  pub tables : Tables n words records
  pub rows : words_in n records ≡ map row_word (rows_in n records)
  pub within : at ≤ length b

abbrev pub LexiconFits : List ℕ → List ℕ → List ℕ → List ℕ → LexiconAnswer → Type 0
LexiconFits b kinds words records (Ok x) = Fits b kinds words records x.kinds x.words x.at
LexiconFits b kinds words records (Err x) = Unit {0}

pub record LexiconPromise (b kinds words records : List ℕ) (r : LexiconAnswer) : Type 0 where
  pub same : read_lexicon (lexemes b) ≡ lexicon_answered b kinds words records r
  pub fits : LexiconFits b kinds words records r
