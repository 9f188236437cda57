-- Words: the words of a vocabulary as the symbols of its signature, and what being in order says of them.
use mathlib.Core.Path.{◌≡◌, ap}
use Prim.Native.Nat.{ℕ, ◌<◌}
use lib.ListN.{length, length-map, get_or-map}
use Rattle.terms.specs.Lists.{All}
use Rattle.terms.specs.Signature.{Symbol, symbol, result, arguments}
use Rattle.terms.proofs.All.{all-at, all_implies, all_map}
use Rattle.wire.specs.Vocabulary.{Vocabulary, symbol_of, signature, no_word, word, WordInOrder, InOrder}
use Rattle.wire.specs.Laws.{InOrderIsWellFormed}

pub length_symbols : (W : Vocabulary) → length (signature W).symbols ≡ length W.words
length_symbols W = length-map W.words symbol_of

pub symbol-word : (W : Vocabulary) (f : ℕ) → symbol (signature W) f ≡ symbol_of (word W f)
symbol-word W f = get_or-map symbol_of W.words f no_word

pub result-word : (W : Vocabulary) (f : ℕ) → result (signature W) f ≡ (word W f).result
result-word W f = ap (λ (k : Symbol). k.result) (symbol-word W f)

pub arguments-word : (W : Vocabulary) (f : ℕ) → arguments (signature W) f ≡ (word W f).kinds
arguments-word W f = ap (λ (k : Symbol). k.arguments) (symbol-word W f)

pub word-in_order : (W : Vocabulary) (f : ℕ) → InOrder W → f < length W.words → WordInOrder W.kinds (word W f)
word-in_order W f in_order h = all-at (WordInOrder W.kinds) no_word W.words in_order.words f h

-- A vocabulary in order names only its own kinds.
pub in_order_well_formed : InOrderIsWellFormed
in_order_well_formed W in_order =
    all_map Own symbol_of W.words (all_implies (WordInOrder W.kinds) (λ w. Own (symbol_of w)) (λ w s. (s.result, s.kinds)) W.words in_order.words)
  where
    Own : Symbol → Type 0
    Own k = (k.result < W.kinds) × All (λ s. s < W.kinds) k.arguments
