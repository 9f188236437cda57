-- Settling: the vocabulary by whose table of result kinds listings go (document 02 (iv)).
--
-- This file is an algorithm, and nothing in it has to be believed: the laws at its end fix what it gives.
--
--   settled_word S e w      the word w, with the result kind e where no complete situation has it
--   settled_words_by W o     the words of W, where o is a kind without complete situations, if there is one
--   settled_vocabulary W    W with every word that no complete situation has moved to the lowest kind without any
--   SettledInOrder         it is in order
--   SettledIsSettled       its signature is the settled one of W's
--   SettledWrites          it writes every term as W does
--   SettledHolds           it holds the terms of W all of whose words are productive
--   FruitfulLeftovers      .. and what W lists for them is document 01's listing over it
--
use Rattle.std.specs.Prelude.{◌≡◌, true, cond, List, map, ℕ}
use Rattle.std.proofs.Math.Option.{Option, some, none}
use Rattle.terms.specs.Signature.{Signature}
use Rattle.terms.specs.Term.{Term}
use Rattle.terms.specs.Emptiness.{covered, reached, first_empty}
use Rattle.terms.specs.Productive.{fruitful, settled}
use Rattle.wire.specs.Vocabulary.{Word, Vocabulary, signature, InOrder}
use Rattle.wire.specs.TermBytes.{encode_term, HoldsTerm}
use Rattle.wire.specs.ListComputed.{entries_of, leftovers_of}

abbrev pub settled_word : Signature → ℕ → Word → Word
settled_word S e w = record { result = cond (covered w.kinds (reached S S.sorts)) w.result e; place_map = w.place_map; kinds = w.kinds }

abbrev pub settled_words_by : Vocabulary → Option ℕ → List Word
settled_words_by W none = W.words
settled_words_by W (some e) = map (settled_word (signature W) e) W.words

abbrev pub settled_vocabulary : Vocabulary → Vocabulary
settled_vocabulary W = record { kinds = W.kinds; words = settled_words_by W (first_empty (signature W)) }

abbrev pub SettledInOrder : Type 0
SettledInOrder = (W : Vocabulary) → InOrder W → InOrder (settled_vocabulary W)

abbrev pub SettledIsSettled : Type 0
SettledIsSettled = (W : Vocabulary) → signature (settled_vocabulary W) ≡ settled (signature W)

abbrev pub SettledWrites : Type 0
SettledWrites = (W : Vocabulary) (s : ℕ) (t : Term) → encode_term (settled_vocabulary W) s t ≡ encode_term W s t

abbrev pub SettledHolds : Type 0
SettledHolds =
    (W : Vocabulary) (b : List ℕ) (s : ℕ) (t : Term) → InOrder W → HoldsTerm W b s t → fruitful (signature W) t ≡ true →
    HoldsTerm (settled_vocabulary W) b s t

abbrev pub FruitfulLeftovers : Type 0
FruitfulLeftovers =
    (W : Vocabulary) (b : List ℕ) (s : ℕ) (t : Term) → InOrder W → HoldsTerm W b s t → fruitful (signature W) t ≡ true →
    leftovers_of W s t ≡ entries_of (settled_vocabulary W) s t
