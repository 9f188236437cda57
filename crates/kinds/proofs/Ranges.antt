-- Ranges: a range of numbers from its first on, and up to its last.
use mathlib.Core.Path.{◌≡◌, ap, ap₂, ◌∙◌}
use mathlib.Core.List.{[], ◌∷◌, ◌++◌}
use Prim.Native.Nat.{ℕ, zero, suc, ◌+◌, ◌-◌, ◌<◌}
use native.Mathlib.Omega.{arith}
use Rattle.terms.specs.Lists.{range}

range-append : (from n m : ℕ) → range from (n + m) ≡ range from n ++ range (from + n) m
range-append from zero m = ap₂ range (let e : from ≡ from + 0 = omega arith in e) (let e : 0 + m ≡ m = omega arith in e)
range-append from (suc n) m =
    ap (range from) (let e : suc n + m ≡ suc (n + m) = omega arith in e)
    ∙ ap (λ l. from ∷ l)
    (range-append (suc from) n m ∙ ap (λ k. range (suc from) n ++ range k m) (let e : suc from + n ≡ from + suc n = omega arith in e))

pub range-next : (h : ℕ) → range 0 (h + 1) ≡ range 0 h ++ (h ∷ [])
range-next h = range-append 0 h 1 ∙ ap (λ k. range 0 h ++ (k ∷ [])) (let e : 0 + h ≡ h = omega arith in e)

pub range-first : (n g : ℕ) → g < n → range g (n - g) ≡ g ∷ range (g + 1) (n - (g + 1))
range-first n g k =
    ap (range g) (let e : n - g ≡ suc (n - (g + 1)) = omega arith in e)
    ∙ ap (λ i. g ∷ range i (n - (g + 1))) (let e : suc g ≡ g + 1 = omega arith in e)
