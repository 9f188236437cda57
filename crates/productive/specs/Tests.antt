-- Tests: what a table of the words' settled result kinds says of a pattern's words and of a kind (document 02 (iv)).
--
-- This file is an algorithm, and nothing in it has to be believed: FruitfulTest and InhabitedTest fix what it gives.
--
--   settled_to table k f        the word f has the kind k by the table
--   bears table e f            it has another kind than e
--   each_word n test skip l     every word of the bytes l passes the test, where n numbers are words' and the first `skip` bytes
--                              are no words
--   fruitful_in n table e p     each of the words of the pattern p, in its first 4,096 bytes and of the first 96 words, has
--                              another kind than e
--   some_below n test           some number below n passes the test
--   inhabited_in n table e k    the kind k is another than e, and some of the first n words, at most 96, has it
--   FruitfulTest               of a good pattern the first says whether all words are productive
--   InhabitedTest              the second says whether a kind has a complete situation
--
use Rattle.std.specs.Prelude.{◌≡◌, Bool, true, false, cond, not, ◌&&◌, ◌||◌, List, [], ◌∷◌, ℕ, zero, suc, ◌<◌, ◌≤◌, min, eqb, ltb, length, get_or, take}
use Rattle.std.proofs.Math.Option.{some}
use Rattle.terms.specs.Term.{Term}
use Rattle.terms.specs.Emptiness.{inhabited, first_empty}
use Rattle.terms.specs.Productive.{fruitful}
use Rattle.wire.specs.Map.{map_bytes}
use Rattle.wire.specs.Vocabulary.{Vocabulary, InOrder, signature, word, most_words}
use Rattle.wire.specs.TermBytes.{encode_term, GoodTerm, most_bytes}
use Rattle.wire.specs.Settling.{settled_vocabulary}

abbrev pub settled_to : List ℕ → ℕ → ℕ → Bool
settled_to table k f = eqb (get_or table f 0) k

abbrev pub bears : List ℕ → ℕ → ℕ → Bool
bears table e f = not (settled_to table e f)

abbrev pub each_word : ℕ → (ℕ → Bool) → ℕ → List ℕ → Bool
each_word n test skip [] = true
each_word n test (suc skip) (b ∷ l) = each_word n test skip l
each_word n test zero (b ∷ l) = cond (ltb b n) (test b && each_word n test map_bytes l) (each_word n test zero l)

-- The kind byte is passed over.
abbrev pub fruitful_in : ℕ → List ℕ → ℕ → List ℕ → Bool
fruitful_in n table e p = each_word (min n most_words) (bears table e) 1 (take most_bytes p)

abbrev pub some_below : ℕ → (ℕ → Bool) → Bool
some_below zero test = false
some_below (suc n) test = test n || some_below n test

abbrev pub inhabited_in : ℕ → List ℕ → ℕ → ℕ → Bool
inhabited_in n table e k = not (eqb k e) && some_below (min n most_words) (settled_to table k)

abbrev pub FruitfulTest : Type 0
FruitfulTest = (W : Vocabulary) → InOrder W → (e : ℕ) → first_empty (signature W) ≡ some e →
    (s : ℕ) (t : Term) → GoodTerm W s t → length (encode_term W s t) ≤ most_bytes →
    (n : ℕ) (table : List ℕ) → n ≡ length W.words → ((f : ℕ) → f < n → get_or table f 0 ≡ (word (settled_vocabulary W) f).result) →
    fruitful_in n table e (encode_term W s t) ≡ fruitful (signature W) t

abbrev pub InhabitedTest : Type 0
InhabitedTest = (W : Vocabulary) → InOrder W → (e : ℕ) → first_empty (signature W) ≡ some e →
    (n : ℕ) (table : List ℕ) → n ≡ length W.words → ((f : ℕ) → f < n → get_or table f 0 ≡ (word (settled_vocabulary W) f).result) →
    (k : ℕ) → inhabited_in n table e k ≡ inhabited (signature W) k
