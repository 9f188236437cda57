-- Accepted: where a vocabulary is accepted, no record stops the reading of its words: those before the first record that is not in
-- order are all of them.
use mathlib.Core.Path.{◌≡◌, subst}
use mathlib.Core.Bool.{Bool, true, false, cond}
use mathlib.Core.List.{List, [], ◌∷◌}
use Prim.Native.Nat.{ℕ}
use Rattle.wire.specs.Parser.{Reading, accept, refuse, Got, got, stop, read_words, line5, read_vocabulary}
use Rattle.wire.specs.Reply.{outside}
use Rattle.wire.specs.Vocabulary.{Word, Vocabulary, most_kinds, most_words}
use Rattle.signature.specs.Tables.{words_up_to, words_before, AcceptedWords}
use Rattle.signature.proofs.WordsUpTo.{UpTo, words-up_to}

abbrev SameIn : List Word → Reading Vocabulary → Type 0
SameIn us (accept W) = us ≡ W.words
SameIn us (refuse n q) = Unit {0}

same_lines : (b : List ℕ) (k n : ℕ) (l : List ℕ) (g : Got (List Word)) → UpTo k n l g → SameIn (words_up_to k n l) (line5 b k g)
same_lines b k n l (stop m r) e = tt
same_lines b k n l (got ws (x ∷ r)) e = tt
same_lines b k n l (got ws []) e = e.0

same_if : (t : Bool) (n q : ℕ) (us : List Word) (r : Reading Vocabulary) → SameIn us r → SameIn (cond t [] us) (cond t (refuse n q) r)
same_if true n q us r h = tt
same_if false n q us r h = h

same-vocabulary : (v : List ℕ) → SameIn (words_before v) (read_vocabulary v)
same-vocabulary [] = tt
same-vocabulary (k ∷ []) = tt
same-vocabulary (k ∷ n ∷ l) =
    same_if (outside 1 most_kinds k) 1 0 _ _
    (same_if (outside 1 most_words n) 2 1 _ _ (same_lines (k ∷ n ∷ l) k n l (read_words k n l) (words-up_to k n l)))

pub accepted-words : AcceptedWords
accepted-words v W e = subst (SameIn (words_before v)) e (same-vocabulary v)
