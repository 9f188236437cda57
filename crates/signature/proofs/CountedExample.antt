-- CountedExample: the numbers of places of document 01's vocabulary A, and of one whose maps have gaps, by computation.
use mathlib.Core.Path.{◌≡◌, refl}
use mathlib.Core.List.{List, [], ◌∷◌}
use Prim.Native.Nat.{ℕ}
use Rattle.wire.specs.Starred.{A}
use Rattle.signature.specs.Tables.{words_before, counts_of}

counts_of_A : counts_of (words_before A) ≡ 2 ∷ 0 ∷ 0 ∷ 0 ∷ 0 ∷ 0 ∷ []
counts_of_A = refl

-- Two words without places, one with places 0 and 7, and one with places 1 and 4.
gaps : List ℕ
gaps = 2 ∷ 4 ∷ 0 ∷ 0 ∷ 1 ∷ 0 ∷ 0 ∷ 129 ∷ 0 ∷ 1 ∷ 1 ∷ 18 ∷ 1 ∷ 0 ∷ []

counts_of-gaps : counts_of (words_before gaps) ≡ 0 ∷ 0 ∷ 2 ∷ 2 ∷ []
unfolding gaps
counts_of-gaps = refl
