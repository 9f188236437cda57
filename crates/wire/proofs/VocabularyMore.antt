-- VocabularyMore: a vocabulary of more than 962 bytes is refused, and bytes put behind it change neither number nor place.
use mathlib.Core.Path.{◌≡◌, refl, ap, ◌∙◌}
use mathlib.Core.Bool.{Bool, true, false, cond}
use mathlib.Core.List.{List, [], ◌∷◌, ◌++◌}
use Prim.Native.Nat.{ℕ, ◌+◌, ◌*◌, ◌<◌, ◌≤◌}
use native.Mathlib.Omega.{arith}
use lib.Dec.{ltb}
use lib.ListN.{length, length-append}
use borrow.Author.Tests.{ltb-true, ltb-false}
use Rattle.wire.specs.Parser.{Reading, accept, refuse, Got, got, stop, and_then, offset, read_kind, read_kinds, read_word, read_words, line5, read_vocabulary}
use Rattle.wire.specs.Reply.{outside}
use Rattle.wire.specs.Map.{map_bits, flags, ones}
use Rattle.wire.specs.Vocabulary.{Word, Vocabulary, most_kinds, most_words}
use Rattle.wire.specs.Laws.{most_vocabulary, AcceptedIsShort}
use Rattle.wire.proofs.Map.{ones-few}
use Rattle.wire.proofs.Row.{Same, then_same, row_same}
use Rattle.wire.proofs.VocabulariesInverse.{vocabularies_inverse}
use Rattle.wire.proofs.Outside.{outside_false}

-- ---- what is read off a front does not depend on the bytes x behind it

kind-same : (k j : ℕ) (l x : List ℕ) → 1 + j ≤ length l → Same j x (read_kind k l) (read_kind k (l ++ x))
kind-same k j [] x h = absurd (omega arith)
kind-same k j (b ∷ l) x h = go (ltb b k)
  where
    go : (t : Bool) → Same j x (cond t (got b l) (stop 4 (b ∷ l))) (cond t (got b (l ++ x)) (stop 4 (b ∷ (l ++ x))))
    go true = (omega arith, refl)
    go false = refl

kinds-same : (k n j : ℕ) (l x : List ℕ) → n + j ≤ length l → Same j x (read_kinds k n l) (read_kinds k n (l ++ x))
kinds-same k n j l x h = row_same (λ s. read_kind k) (λ s a. s) 1 x (λ s j l. kind-same k j l x) tt n j l (omega arith)

-- A record has at most ten bytes: its result kind, its map and eight kinds.
word_same : (k j : ℕ) (l x : List ℕ) → 10 + j ≤ length l → Same j x (read_word k l) (read_word k (l ++ x))
word_same k j [] x h = absurd (omega arith)
word_same k j (b ∷ []) x h = absurd (omega arith)
word_same k j (b ∷ m ∷ l) x h = go (ltb b k) (ones (flags m)) (ones-few m)
  where
    read : ℕ → List ℕ → Got Word
    read p l = and_then (read_kinds k p l) (λ ks r. got (record { result = b; place_map = m; kinds = ks }) r)

    go : (t : Bool) (p : ℕ) → p ≤ map_bits →
        Same j x (cond t (read p l) (stop 4 (b ∷ m ∷ l))) (cond t (read p (l ++ x)) (stop 4 (b ∷ m ∷ (l ++ x))))
    go true p few =
        then_same j j x (λ ks r. got (record { result = b; place_map = m; kinds = ks }) r) (read_kinds k p l) (read_kinds k p (l ++ x))
        (kinds-same k p j l x (omega arith)) (λ ks r left. (left, refl))
    go false p few = refl

words_same : (k n j : ℕ) (l x : List ℕ) → 10 * n + j ≤ length l → Same j x (read_words k n l) (read_words k n (l ++ x))
words_same k n j l x h = row_same (λ s. read_word k) (λ s a. s) 10 x (λ s j l. word_same k j l x) tt n j l h

-- ---- vocabularies

offset-same : (b r x : List ℕ) → offset (b ++ x) (r ++ x) ≡ offset b r
offset-same b r x = omega (arith, length-append b x, length-append r x)

-- Both are refused with one number and place.
abbrev pub RefusedAlike : Reading Vocabulary → Reading Vocabulary → Type 0
RefusedAlike g h = (n : ℕ) × (q : ℕ) × (g ≡ refuse n q) × (h ≡ refuse n q)

lines_alike : (b x : List ℕ) (k : ℕ) (g h : Got (List Word)) → Same 1 x g h → RefusedAlike (line5 b k g) (line5 (b ++ x) k h)
lines_alike b x k (stop n r) h e =
    (n, offset b r, refl, ap (line5 (b ++ x) k) e ∙ ap (refuse n) (offset-same b r x))
lines_alike b x k (got ws []) h (left, e) = absurd (omega arith)
lines_alike b x k (got ws (c ∷ r)) h (left, e) =
    (5, offset b (c ∷ r), refl, ap (line5 (b ++ x) k) e ∙ ap (refuse 5) (offset-same b (c ∷ r) x))

-- Two counts and 96 records make at most 962 bytes, so in a longer vocabulary at least one byte is left behind them.
pub refused-alike : (v x : List ℕ) → most_vocabulary < length v → RefusedAlike (read_vocabulary v) (read_vocabulary (v ++ x))
refused-alike [] x h = absurd (omega arith)
refused-alike (k ∷ []) x h = absurd (omega arith)
refused-alike (k ∷ n ∷ l) x h = go (outside 1 most_kinds k) (outside 1 most_words n) refl
  where
    go : (t u : Bool) → outside 1 most_words n ≡ u →
        RefusedAlike (cond t (refuse 1 0) (cond u (refuse 2 1) (line5 (k ∷ n ∷ l) k (read_words k n l))))
        (cond t (refuse 1 0) (cond u (refuse 2 1) (line5 (k ∷ n ∷ (l ++ x)) k (read_words k n (l ++ x)))))
    go true u e = (1, 0, refl, refl)
    go false true e = (2, 1, refl, refl)
    go false false e =
        let few : n ≤ 96 = (outside_false 1 most_words n e).1 in
        lines_alike (k ∷ n ∷ l) x k (read_words k n l) (read_words k n (l ++ x)) (words_same k n 1 l x (omega arith))

pub accepted_is_short : AcceptedIsShort
accepted_is_short v W bytes held = go (ltb most_vocabulary (length v)) refl
  where
    e : read_vocabulary v ≡ accept W
    e = (vocabularies_inverse v W bytes).1 held

    go : (t : Bool) → ltb most_vocabulary (length v) ≡ t → length v ≤ most_vocabulary
    go true t =
        let alike = refused-alike v [] (ltb-true most_vocabulary (length v) t) in
        let refused = alike.2 in
        let accepted = e in
        let z : ◌≡◌ {A = ℕ} 0 1 = cc in
        absurd (omega arith)
    go false t = ltb-false most_vocabulary (length v) t
