-- Members: the elements of a mapped list, by their indices or as elements of the list; and what holds of each element.
use mathlib.Core.Path.{◌≡◌, refl}
use mathlib.Core.List.Memᴰ
use mathlib.Core.List.{List, [], ◌∷◌, map, Memᴰ}
use mathlib.Core.Logic.{◌⊎◌, inl, inr}
use Prim.Native.Nat.{ℕ, zero, suc, ◌<◌}
use native.Mathlib.Omega.{arith}
use lib.ListN.{length, get_or}
use Rattle.terms.specs.Lists.{All}

module _ {A : Type 0} (P : A → Type 0) where
  pub all_mem : (a : A) (l : List A) → All P l → Memᴰ a l → P a
  all_mem a [] h m = absurd (Memᴰ.not-nil m)
  all_mem a (x ∷ l) h m = go (all_mem a l h.1) (Memᴰ.cases_cons m)
    where
      go : (Memᴰ a l → P a) → (a ≡ x) ⊎ Memᴰ a l → P a
      go below (inl e) = rw e h.0
      go below (inr m') = below m'

  pub mem_all : (l : List A) → ((a : A) → Memᴰ a l → P a) → All P l
  mem_all [] h = tt
  mem_all (x ∷ l) h = (h x (Memᴰ.head refl), mem_all l (λ a m. h a (Memᴰ.tail m)))

module _ {A B : Type 0} (f : A → B) where
  pub mem_map_at : (d : A) (l : List A) (i : ℕ) → i < length l → Memᴰ (f (get_or l i d)) (map f l)
  mem_map_at d [] i h = absurd (omega arith)
  mem_map_at d (x ∷ l) zero h = Memᴰ.head refl
  mem_map_at d (x ∷ l) (suc i) h = Memᴰ.tail (mem_map_at d l i (omega arith))

  -- An element of a mapped list is the image of the element at some index.
  pub at_of_mem : (b : B) (d : A) (l : List A) → Memᴰ b (map f l) → (i : ℕ) × (i < length l) × (b ≡ f (get_or l i d))
  at_of_mem b d [] m = absurd (Memᴰ.not-nil m)
  at_of_mem b d (x ∷ l) m = go (at_of_mem b d l) (Memᴰ.cases_cons m)
    where
      go : (Memᴰ b (map f l) → (i : ℕ) × (i < length l) × (b ≡ f (get_or l i d))) → (b ≡ f x) ⊎ Memᴰ b (map f l)
          → (i : ℕ) × (i < length (x ∷ l)) × (b ≡ f (get_or (x ∷ l) i d))
      go below (inl e) = (0, omega arith, e)
      go below (inr m') = let r = below m' in (suc r.0, omega arith, r.2)

  pub of_mem_map : (b : B) (l : List A) → Memᴰ b (map f l) → (a : A) × Memᴰ a l × (b ≡ f a)
  of_mem_map b [] m = absurd (Memᴰ.not-nil m)
  of_mem_map b (x ∷ l) m = go (of_mem_map b l) (Memᴰ.cases_cons m)
    where
      go : (Memᴰ b (map f l) → (a : A) × Memᴰ a l × (b ≡ f a)) → (b ≡ f x) ⊎ Memᴰ b (map f l)
          → (a : A) × Memᴰ a (x ∷ l) × (b ≡ f a)
      go below (inl e) = (x, Memᴰ.head refl, e)
      go below (inr m') = let r = below m' in (r.0, Memᴰ.tail r.1, r.2)
