-- Lines: a line of a text, by its number.
--
--   line-nothing, lines_nothing, line-next             the line of a number
--   lines_turn                          a turn of the loop that finds it
--   unbroken t, each-unbroken l         no line ends in t, in any text of l
--   joined l                            the texts of l, each with the end of a line behind it
--   lines_joined                        the lines of joined texts are the texts
--
use mathlib.Core.Path.{◌≡◌, refl, sym, ap, ap₂, ◌∙◌}
use mathlib.Core.Bool.{Bool, true, not, ◌&&◌}
use mathlib.Core.List.{List, [], ◌∷◌, ◌++◌}
use Prim.Native.Nat.{ℕ, zero, suc, ◌+◌, ◌-◌, ◌<◌}
use native.Mathlib.Numerals.{add-one}
use native.Mathlib.Omega.{arith}
use lib.Dec.{eqb}
use lib.ListN.{length, get_or, drop}
use lib.Seq.{take_at}
use borrow.Author.Tests.{not-true}
use Rattle.terms.proofs.Bools.{and_parts}
use Rattle.wire.proofs.Cond.{cond_false}
use Rattle.texts.specs.Complaints.{line_size}
use Rattle.lines.specs.Lines.{line_of}

pub line-nothing : (n : ℕ) → line_of n [] ≡ []
line-nothing zero = refl
line-nothing (suc n) = line-nothing n

pub lines_nothing : (l : List ℕ) (n : ℕ) → length l ≡ 0 → l ≡ line_of n l
lines_nothing [] n h = sym (line-nothing n)
lines_nothing (b ∷ l) n h = absurd (omega arith)

pub line-next : (l : List ℕ) (n : ℕ) → 0 < n → line_of (n - 1) (drop (line_size l + 1) l) ≡ line_of n l
line-next l zero h = absurd (omega arith)
line-next l (suc n) h =
    ap₂ (λ k m. line_of k (drop m l)) (let e : suc n - 1 ≡ n = omega arith in e) (add-one (line_size l))

pub lines_turn : (l : List ℕ) (i n : ℕ) → i < n → line_of (n - (i + 1)) (drop (line_size l + 1) l) ≡ line_of (n - i) l
lines_turn l i n h =
    ap (λ k. line_of k (drop (line_size l + 1) l)) (let e : n - (i + 1) ≡ n - i - 1 = omega arith in e) ∙ line-next l (n - i) (omega arith)

abbrev pub unbroken : List ℕ → Bool
unbroken [] = true
unbroken (b ∷ t) = not (eqb b 10) && unbroken t

-- A text without an end of a line is the line at the front of what begins with it.
size-unbroken : (t l : List ℕ) → unbroken t ≡ true → line_size (t ++ (10 ∷ l)) ≡ length t
size-unbroken [] l h = refl
size-unbroken (b ∷ t) l h =
    let both = and_parts (not (eqb b 10)) (unbroken t) h in
    cond_false (eqb b 10) 0 (suc (line_size (t ++ (10 ∷ l)))) (not-true (eqb b 10) both.0) ∙ ap suc (size-unbroken t l both.1)

abbrev pub each-unbroken : List (List ℕ) → Bool
each-unbroken [] = true
each-unbroken (t ∷ l) = unbroken t && each-unbroken l

abbrev pub joined : List (List ℕ) → List ℕ
joined [] = []
joined (t ∷ l) = t ++ (10 ∷ joined l)

pub lines_joined : (l : List (List ℕ)) (n : ℕ) → each-unbroken l ≡ true → line_of n (joined l) ≡ get_or l n []
lines_joined [] n h = line-nothing n
lines_joined (t ∷ l) zero h =
    let both = and_parts (unbroken t) (each-unbroken l) h in take_at t (10 ∷ joined l) _ (sym (size-unbroken t (joined l) both.0))
lines_joined (t ∷ l) (suc n) h =
    let both = and_parts (unbroken t) (each-unbroken l) h in
    ap (λ k. line_of n (drop (suc k) (t ++ (10 ∷ joined l)))) (size-unbroken t (joined l) both.0)
    ∙ ap (line_of n) (behind t (joined l)) ∙ lines_joined l n both.1
  where
    behind : (t l : List ℕ) → drop (suc (length t)) (t ++ (10 ∷ l)) ≡ l
    behind [] l = refl
    behind (b ∷ t) l = behind t l
