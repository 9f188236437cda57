-- All: what holds of each element of a list, carried through the list's operations.
use mathlib.Core.Path.{◌≡◌, refl, ap, ap₂, fun_ext}
use mathlib.Core.Bool.{Bool, true, false, cond}
use mathlib.Core.List.{List, [], ◌∷◌, ◌++◌, map}
use Prim.Native.Nat.{ℕ, zero, suc, ◌+◌, ◌<◌}
use native.Mathlib.Omega.{arith}
use lib.ListN.{length, get_or, take, drop}
use Rattle.terms.specs.Lists.{All, keep, range}

module _ {A : Type 0} where
  pub all_always : (P : A → Type 0) → ((x : A) → P x) → (l : List A) → All P l
  all_always P f [] = tt
  all_always P f (x ∷ l) = (f x, all_always P f l)

  pub all_implies : (P Q : A → Type 0) → ((x : A) → P x → Q x) → (l : List A) → All P l → All Q l
  all_implies P Q f [] a = tt
  all_implies P Q f (x ∷ l) a = (f x a.0, all_implies P Q f l a.1)

  pub all_both : (P Q : A → Type 0) (l : List A) → All P l → All Q l → All (λ x. P x × Q x) l
  all_both P Q [] a b = tt
  all_both P Q (x ∷ l) a b = ((a.0, b.0), all_both P Q l a.1 b.1)

  pub all_append : (P : A → Type 0) (l m : List A) → All P l → All P m → All P (l ++ m)
  all_append P [] m a b = b
  all_append P (x ∷ l) m a b = (a.0, all_append P l m a.1 b)

  pub all_left : (P : A → Type 0) (l m : List A) → All P (l ++ m) → All P l
  all_left P [] m a = tt
  all_left P (x ∷ l) m a = (a.0, all_left P l m a.1)

  pub all_right : (P : A → Type 0) (l m : List A) → All P (l ++ m) → All P m
  all_right P [] m a = a
  all_right P (x ∷ l) m a = all_right P l m a.1

  -- By index, and back.
  pub all-at : (P : A → Type 0) (d : A) (l : List A) → All P l → (i : ℕ) → i < length l → P (get_or l i d)
  all-at P d [] a i h = absurd (omega arith)
  all-at P d (x ∷ l) a zero h = a.0
  all-at P d (x ∷ l) a (suc i) h = all-at P d l a.1 i (omega arith)

  pub at_all : (P : A → Type 0) (d : A) (l : List A) → ((i : ℕ) → i < length l → P (get_or l i d)) → All P l
  at_all P d [] h = tt
  at_all P d (x ∷ l) h = (h zero (omega arith), at_all P d l (λ i k. h (suc i) (omega arith)))

  pub all_take : (P : A → Type 0) (n : ℕ) (l : List A) → All P l → All P (take n l)
  all_take P zero l h = tt
  all_take P (suc n) [] h = tt
  all_take P (suc n) (x ∷ l) h = (h.0, all_take P n l h.1)

  pub all_drop : (P : A → Type 0) (n : ℕ) (l : List A) → All P l → All P (drop n l)
  all_drop P zero l h = h
  all_drop P (suc n) [] h = tt
  all_drop P (suc n) (x ∷ l) h = all_drop P n l h.1

  -- What is kept passes the test.
  pub all_keep : (P : A → Type 0) (t : A → Bool) (l : List A) → All P l → All (λ x. P x × (t x ≡ true)) (keep t l)
  all_keep P t [] a = tt
  all_keep P t (x ∷ l) a = go (t x) refl (all_keep P t l a.1)
    where
      go : (b : Bool) → t x ≡ b → All (λ y. P y × (t y ≡ true)) (keep t l) →
          All (λ y. P y × (t y ≡ true)) (cond b (x ∷ keep t l) (keep t l))
      go true e rest = ((a.0, e), rest)
      go false e rest = rest

pub all_map : {A B : Type 0} (P : B → Type 0) (f : A → B) (l : List A) → All (λ x. P (f x)) l → All P (map f l)
all_map P f [] a = tt
all_map P f (x ∷ l) a = (a.0, all_map P f l a.1)

pub all-maps : {A B C : Type 0} (P : C → Type 0) (f : A → C) (h : B → C) (l : List A) (m : List B) →
    All (λ x. P (f x)) l → All (λ y. P (h y)) m → All P (map f l ++ map h m)
all-maps P f h l m a b = all_append P (map f l) (map h m) (all_map P f l a) (all_map P h m b)

pub all_unmap : {A B : Type 0} (P : B → Type 0) (f : A → B) (l : List A) → All P (map f l) → All (λ x. P (f x)) l
all_unmap P f [] a = tt
all_unmap P f (x ∷ l) a = (a.0, all_unmap P f l a.1)

pub all-range : (from n : ℕ) → All (λ k. k < from + n) (range from n)
all-range from zero = tt
all-range from (suc n) =
    (omega arith, all_implies (λ k. k < suc from + n) (λ k. k < from + suc n) (λ k h. omega arith) (range (suc from) n) (all-range (suc from) n))

-- Two functions that agree, everywhere or on each element.
pub map_same : {A B : Type 0} (f g : A → B) (l : List A) → ((x : A) → f x ≡ g x) → map f l ≡ map g l
map_same f g l e = ap (λ h. map h l) (fun_ext e)

pub map_agree : {A B : Type 0} (f g : A → B) (l : List A) → All (λ x. f x ≡ g x) l → map f l ≡ map g l
map_agree f g [] a = refl
map_agree {B = B} f g (x ∷ l) a = ap₂ {C = List B} ◌∷◌ a.0 (map_agree f g l a.1)
