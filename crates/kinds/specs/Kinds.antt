-- Kinds: the words of each result kind, by a table of the words' result kinds. A vocabulary has at most 16 kinds, so what
-- counts of an entry is its remainder by 16.
--
--   kind_in results h           the result kind of the word h
--   has_kind results k h        the word h has the result kind k
--   is_other results f h        the word h is another than f and has its result kind
--   others_in n results f       the others of f's result kind among the first n words, ascending
--   OthersTabled               where the table is a vocabulary's, they are the vocabulary's others
--   lowest n results k from    the lowest of the first n words, from the word `from` on, that has the result kind k;
--                              255 where there is none
--   Tallied n results counts   counts says of each kind how many of the first n words have it
--   Chained n results chains   chains has for each word the next of the first n words that has its kind, and behind them
--                              for each kind the lowest of these words that has it
--   SiblingTable n results t   t has for each of the first n words its next one of the same result kind, from 128 on the lowest one of its kind, and from
--                              256 on how many others its kind has
--
use Rattle.std.specs.Prelude.{◌≡◌, Bool, not, ◌&&◌, List, ℕ, ◌+◌, ◌-◌, ◌%◌, ◌<◌, ◌≤◌, eqb, length, get_or}
use Rattle.terms.specs.Lists.{range, keep}
use Rattle.terms.specs.Listing.{others}
use Rattle.wire.specs.Vocabulary.{Vocabulary, InOrder, signature, word, most_kinds, most_words}

abbrev pub kind_in : List ℕ → ℕ → ℕ
kind_in results h = get_or results h 0 % most_kinds

abbrev pub has_kind : List ℕ → ℕ → ℕ → Bool
has_kind results k h = eqb (kind_in results h) k

abbrev pub is_other : List ℕ → ℕ → ℕ → Bool
is_other results f h = not (eqb h f) && has_kind results (kind_in results f) h

abbrev pub others_in : ℕ → List ℕ → ℕ → List ℕ
others_in n results f = keep (is_other results f) (range 0 n)

abbrev pub OthersTabled : Type 0
OthersTabled = (W : Vocabulary) → InOrder W → (n : ℕ) (results : List ℕ) → n ≡ length W.words →
    ((g : ℕ) → g < n → get_or results g 0 ≡ (word W g).result) → (f : ℕ) → f < n → others (signature W) f ≡ others_in n results f

abbrev pub lowest : ℕ → List ℕ → ℕ → ℕ → ℕ
lowest n results k from = get_or (keep (has_kind results k) (range from (n - from))) 0 255

pub record Tallied (n : ℕ) (results counts : List ℕ) : Type 0 where
  pub size : length counts ≡ most_kinds
  pub each : (k : ℕ) → k < most_kinds → get_or counts k 0 ≡ length (keep (has_kind results k) (range 0 n))

pub record Chained (n : ℕ) (results chains : List ℕ) : Type 0 where
  pub size : length chains ≡ most_words + most_kinds
  pub next : (h : ℕ) → h < most_words → get_or chains h 0 ≡ lowest n results (kind_in results h) (h + 1)
  pub first : (k : ℕ) → k < most_kinds → get_or chains (most_words + k) 0 ≡ lowest n results k 0

pub record SiblingTable (n : ℕ) (results table : List ℕ) : Type 0 where
  pub size : length table ≡ 384
  pub next : (h : ℕ) → h < n → get_or table h 0 ≡ lowest n results (kind_in results h) (h + 1)
  pub first : (h : ℕ) → h < n → get_or table (128 + h) 0 ≡ lowest n results (kind_in results h) 0
  pub many : (h : ℕ) → h < n → get_or table (256 + h) 0 ≡ length (others_in n results h)
  pub none : (h : ℕ) → n ≤ h → h < 128 → (get_or table h 0 ≡ 255) × ((get_or table (128 + h) 0 ≡ 255) × (get_or table (256 + h) 0 ≡ 0))
