-- WordsUpTo: the words up to the first record that is not in order are those that are read before it.
use mathlib.Core.Path.{◌≡◌, refl, ap, ◌∙◌}
use mathlib.Core.List.{List, ◌∷◌}
use Prim.Native.Nat.{ℕ, suc, ◌+◌}
use native.Mathlib.Nat.{zero-add, suc-add}
use Rattle.wire.specs.Parser.{Got, got, stop, and_then, read_word, read_words}
use Rattle.wire.specs.Vocabulary.{Word}
use Rattle.wire.proofs.Row.{row_by}
use Rattle.signature.specs.Tables.{words_up_to}

-- The n records that are read as g are all up to the first that is not in order: of these n, and of more where the next is not.
abbrev pub UpTo : ℕ → ℕ → List ℕ → Got (List Word) → Type 0
UpTo k n l (got ws r) = (words_up_to k n l ≡ ws) × ((j m : ℕ) (r' : List ℕ) → read_word k r ≡ stop m r' → words_up_to k (n + suc j) l ≡ ws)
UpTo k n l (stop m r) = Unit {0}

pub words-up_to : (k n : ℕ) (l : List ℕ) → UpTo k n l (read_words k n l)
words-up_to k =
    row_by (λ s. read_word k) (λ s w. s) (λ s l g. read_word k l ≡ g) (λ s. UpTo k) (λ s l. refl)
    (λ s l. (refl, λ j m r e. ap (λ i. words_up_to k i l) (zero-add (suc j)) ∙ rw e)) (λ s n l m r e. tt) (λ s. more) tt
  where
    more : (n : ℕ) (l : List ℕ) (w : Word) (r : List ℕ) → read_word k l ≡ got w r →
        (g : Got (List Word)) → UpTo k n r g → UpTo k (suc n) l (and_then g (λ ws r'. got (w ∷ ws) r'))
    more n l w r e (got ws r') (all, next) = (
      rw e (ap (λ z. w ∷ z) all),
      λ j m r'' f. ap (λ i. words_up_to k i l) (suc-add n (suc j)) ∙ rw e (ap (λ z. w ∷ z) (next j m r'' f)),
    )
    more n l w r e (stop m r') h = tt
