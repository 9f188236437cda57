-- Lists: the few notions on lists, and one on what may be missing, that are needed beside the library's.
--
--   All P l          P holds of each element of l
--   occurs n l       n is an element of l
--   NoneTwice l      no number stands twice in l
--   without n l      l with every n left out
--   distinct l       the numbers of l, each once, by first occurrence
--   range from n     from, from + 1, .., n numbers in all
--   keep test l      the elements of l that pass the test, in their order
--   or_else o p       the first of two things that may be missing
--   Reordered l m    l has the elements of m, each as often as m has it, in some order
--   Kept P l m       m is l with every element left out of which P does not hold
--
use Rattle.std.specs.Prelude.{◌≡◌, Bool, false, cond, not, ◌||◌, List, [], ◌∷◌, ◌++◌, ℕ, zero, suc, eqb}
use Rattle.std.proofs.Math.Option.{Option, some, none}

abbrev pub All : {A : Type 0} → (A → Type 0) → List A → Type 0
All P [] = Unit {0}
All P (x ∷ l) = P x × All P l

abbrev pub occurs : ℕ → List ℕ → Bool
occurs n [] = false
occurs n (m ∷ l) = eqb n m || occurs n l

abbrev pub NoneTwice : List ℕ → Type 0
NoneTwice [] = Unit {0}
NoneTwice (n ∷ l) = (occurs n l ≡ false) × NoneTwice l

abbrev pub keep : {A : Type 0} → (A → Bool) → List A → List A
keep test [] = []
keep test (x ∷ l) = cond (test x) (x ∷ keep test l) (keep test l)

abbrev pub without : ℕ → List ℕ → List ℕ
without n l = keep (λ m. not (eqb n m)) l

abbrev pub distinct : List ℕ → List ℕ
distinct [] = []
distinct (n ∷ l) = n ∷ without n (distinct l)

abbrev pub range : ℕ → ℕ → List ℕ
range from zero = []
range from (suc n) = from ∷ range (suc from) n

abbrev pub or_else : {A : Type 0} → Option A → Option A → Option A
or_else (some x) o = some x
or_else none o = o

-- The first element of m stands somewhere in l, between k and r; without it, l has those behind the first.
pub data Reordered {A : Type 0} : List A → List A → Type 0 where
  empty : Reordered [] []
  moved : (x : A) (k r m l : List A) → l ≡ k ++ (x ∷ r) → Reordered (k ++ r) m → Reordered l (x ∷ m)

pub data Kept {A : Type 0} (P : A → Type 0) : List A → List A → Type 0 where
  nothing : Kept P [] []
  stays : (x : A) (l m : List A) → P x → Kept P l m → Kept P (x ∷ l) (x ∷ m)
  goes : (x : A) (l m : List A) → (P x → ⊥) → Kept P l m → Kept P (x ∷ l) m
