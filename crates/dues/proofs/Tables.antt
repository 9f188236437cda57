-- Tables: what stands at a number of a table, and names and records that are found by it.
--
--   mapped_here, mapped_none     an element of a mapped list, and none behind its end
--   name-here                    the name of a number, by the first offsets of a table
--   counted-here, counted_none   what is computed of each number below n
--   places-here, places_none     the places that a record says, 8 at most, and 0 where there is no such word
--
use mathlib.Core.Path.{◌≡◌, refl, sym, ap, ◌∙◌}
use mathlib.Core.List.{List, [], ◌∷◌, map}
use Prim.Native.Nat.{ℕ, zero, suc, ◌+◌, ◌*◌, ◌<◌, ◌≤◌, min}
use native.Mathlib.Omega.{arith}
use lib.ListN.{length, get_or, take, length-map, get_or-eq_default}
use Rattle.terms.specs.Lists.{range}
use Rattle.terms.proofs.Count.{length-range}
use Rattle.texts.specs.Names.{name_at}
use Rattle.texts.specs.Tabled.{names_in, tabled_places}

pub mapped_here : {A : Type 0} (f : ℕ → A) (d : A) (l : List ℕ) (i : ℕ) → i < length l → get_or (map f l) i d ≡ f (get_or l i 0)
mapped_here f d [] i h = absurd (omega arith)
mapped_here f d (x ∷ l) zero h = refl
mapped_here f d (x ∷ l) (suc i) h = mapped_here f d l i (omega arith)

pub mapped_none : {A : Type 0} (f : ℕ → A) (d : A) (l : List ℕ) (i : ℕ) → length l ≤ i → get_or (map f l) i d ≡ d
mapped_none f d l i h = get_or-eq_default (map f l) d (let e = length-map l f in omega arith)

pub name-here : (text table : List ℕ) (n i : ℕ) → i < n → name_at (names_in text table) i ≡ name_at (names_in text (take n table)) i
name-here text table zero i h = absurd (omega arith)
name-here text [] (suc n) i h = refl
name-here text (q ∷ table) (suc n) zero h = refl
name-here text (q ∷ table) (suc n) (suc i) h = name-here text table n i (omega arith)

range_at : (from n i : ℕ) → i < n → get_or (range from n) i 0 ≡ from + i
range_at from zero i h = absurd (omega arith)
range_at from (suc n) zero h = omega arith
range_at from (suc n) (suc i) h = let e = range_at (suc from) n i (omega arith) in omega arith

module _ (f : ℕ → ℕ) (n i : ℕ) where
  pub counted-here : i < n → get_or (map f (range 0 n)) i 0 ≡ f i
  counted-here h =
      mapped_here f 0 (range 0 n) i (let e = length-range 0 n in omega arith)
      ∙ ap f (let e = range_at 0 n i h in omega arith)

  pub counted_none : n ≤ i → 0 ≡ get_or (map f (range 0 n)) i 0
  counted_none h = sym (mapped_none f 0 (range 0 n) i (let e = length-range 0 n in omega arith))

module _ (r : List ℕ) (n f : ℕ) where
  pub places-here : f < n → {p : ℕ} → p ≡ min (get_or r (10 * f + 1) 0) 8 → p ≡ get_or (map (tabled_places r) (range 0 n)) f 0
  places-here h e = e ∙ sym (counted-here (tabled_places r) n f h)

  pub places_none : length r ≡ 960 → min n 96 ≤ f → 0 ≡ get_or (map (tabled_places r) (range 0 n)) f 0
  places_none k h =
      let here : f < n → get_or (map (tabled_places r) (range 0 n)) f 0 ≡ min (get_or r (10 * f + 1) 0) 8 = counted-here (tabled_places r) n f in
      let none : n ≤ f → 0 ≡ get_or (map (tabled_places r) (range 0 n)) f 0 = counted_none (tabled_places r) n f in
      let past : 96 ≤ f → get_or r (10 * f + 1) 0 ≡ 0 = λ p. get_or-eq_default r 0 {n = 10 * f + 1} (omega arith) in
      grind arith
