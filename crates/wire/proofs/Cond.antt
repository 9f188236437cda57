-- Cond: a choice by a test: what it is where the test is known, and what holds of it.
use mathlib.Core.Path.{◌≡◌, refl}
use mathlib.Core.Bool.{Bool, true, false, cond, true≢false, false≢true}

pub cond_true : {A : Type 0} (t : Bool) (a b : A) → t ≡ true → cond t a b ≡ a
cond_true true a b e = refl
cond_true false a b e = absurd (false≢true e)

pub cond_false : {A : Type 0} (t : Bool) (a b : A) → t ≡ false → cond t a b ≡ b
cond_false true a b e = absurd (true≢false e)
cond_false false a b e = refl

-- What holds of both things holds of the one chosen; each may use how the test came out.
pub choice : {A : Type 0} (P : A → Type 0) (t : Bool) (a b : A) → (t ≡ true → P a) → (t ≡ false → P b) → P (cond t a b)
choice P true a b f g = f refl
choice P false a b f g = g refl

-- ---- the two arms of a choice by elim

pub first_arm : {A : Type 0} (b : Bool) (x y : A) → b ≡ true → ◌≡◌ {A = A} (elim b [ true ↦ x | false ↦ y ]) x
first_arm true x y e = refl
first_arm false x y e = absurd (false≢true e)

pub second_arm : {A : Type 0} (b : Bool) (x y : A) → b ≡ false → ◌≡◌ {A = A} (elim b [ true ↦ x | false ↦ y ]) y
second_arm true x y e = absurd (true≢false e)
second_arm false x y e = refl

pub either : {A : Type 0} (b : Bool) (x y z : A) → y ≡ z →
    ◌≡◌ {A = A} (elim b [ true ↦ x | false ↦ y ]) (elim b [ true ↦ x | false ↦ z ])
either true x y z e = refl
either false x y z e = e
