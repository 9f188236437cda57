-- Told: what the table of the words' settled result kinds says, whether some kind is without complete situations or none is.
--
-- This file is an algorithm, and nothing in it has to be believed: FruitfulTold and WholeTold fix what it gives.
--
--   fruitful_by n table k p    all words of the pattern p are productive, where n words have the kinds of the table and k is the
--                             lowest kind without complete situations
--   whole_count n table k s    how many entries the kind s has before any pattern
--   FruitfulTold, WholeTold   of a good pattern and of a kind these say what they should
--
use Rattle.std.specs.Prelude.{◌≡◌, Bool, true, cond, List, ℕ, ◌<◌, ◌≤◌, length}
use Rattle.terms.specs.Term.{Term}
use Rattle.terms.specs.Productive.{fruitful, whole_of}
use Rattle.wire.specs.Vocabulary.{Vocabulary, InOrder, signature}
use Rattle.wire.specs.TermBytes.{encode_term, GoodTerm, most_bytes}
use Rattle.signature.specs.Settled.{SettledOf}
use Rattle.std.specs.Prelude.{Option}
use Rattle.std.specs.Prelude.{Some, None}
use Rattle.productive.specs.Tests.{fruitful_in, inhabited_in}

abbrev pub fruitful_by : ℕ → List ℕ → Option ℕ → List ℕ → Bool
fruitful_by n table (Some e) p = fruitful_in n table e p
fruitful_by n table None p = true

abbrev pub whole_count : ℕ → List ℕ → Option ℕ → ℕ → ℕ
whole_count n table (Some e) s = cond (inhabited_in n table e s) 1 0
whole_count n table None s = 1

abbrev pub FruitfulTold : Type 0
FruitfulTold = (W : Vocabulary) → InOrder W → (n : ℕ) (table : List ℕ) (k : Option ℕ) → SettledOf W n table k →
    (s : ℕ) (t : Term) → GoodTerm W s t → length (encode_term W s t) ≤ most_bytes →
    fruitful_by n table k (encode_term W s t) ≡ fruitful (signature W) t

abbrev pub WholeTold : Type 0
WholeTold = (W : Vocabulary) → InOrder W → (n : ℕ) (table : List ℕ) (k : Option ℕ) → SettledOf W n table k →
    (s : ℕ) → s < W.kinds → whole_count n table k s ≡ length (whole_of (signature W) s)
