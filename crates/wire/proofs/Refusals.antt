-- Refusals: at most one number at one place decides, and a reading refuses by its lines where each of its refusals decides and it accepts only what no line fits.
use mathlib.Core.Path.{◌≡◌, refl, sym, subst}
use mathlib.Core.Bool.{Bool, true, false}
use mathlib.Core.Logic.{inl, inr}
use Prim.Native.Nat.{ℕ, ◌≤◌}
use native.Mathlib.Omega.{arith}
use lib.Dec.{ltb}
use borrow.Author.Tests.{ltb-true, ltb-false}
use Rattle.wire.specs.Parser.{Reading, accept, refuse}
use Rattle.wire.specs.Refusals.{rank, Earlier, Sooner, Decides}
use Rattle.wire.specs.Laws.{RefusesBy}

-- ---- the earlier byte, at one byte the lower number

-- What is before a byte and number is before all that are not before these.
pub earlier_later : (n q m r m' r' : ℕ) → Earlier n q m r → r ≤ r' → m ≤ m' → Earlier n q m' r'
earlier_later n q m r m' r' (inl h) p o = inl (omega arith)
earlier_later n q m r m' r' (inr h) p o = go (ltb q r') refl
  where
    go : (t : Bool) → ltb q r' ≡ t → Earlier n q m' r'
    go true e = inl (ltb-true q r' e)
    go false e = inr (omega (arith, ltb-false q r' e), omega arith)

pub no-later : (n q m r : ℕ) → q ≤ r → n ≤ m → Earlier n q m r
no-later n q m r p o = earlier_later n q n q m r (inr (refl, omega arith)) p o

pub earlier_byte : (n q m r : ℕ) → Earlier n q m r → q ≤ r
earlier_byte n q m r (inl h) = omega arith
earlier_byte n q m r (inr h) = omega arith

-- Of two at most one is before the other.
pub earlier_once : (n q m r : ℕ) → Earlier n q m r → Earlier m r n q → (n ≡ m) × (q ≡ r)
earlier_once n q m r (inl h) (inl k) = absurd (omega arith)
earlier_once n q m r (inl h) (inr k) = absurd (omega arith)
earlier_once n q m r (inr h) (inl k) = absurd (omega arith)
earlier_once n q m r (inr h) (inr k) = (omega arith, omega arith)

-- ---- the order of the list

-- Lines of one rank are told apart by their bytes.
pub same_rank : (n q m r : ℕ) → rank n ≡ rank m → Sooner n q m r → Earlier n q m r
same_rank n q m r e (inl h) = absurd (omega arith)
same_rank n q m r e (inr h) = h.1

-- Of one line the earlier place comes first.
pub sooner_place : (n q r : ℕ) → q ≤ r → Sooner n q n r
sooner_place n q r h = inr (refl, no-later n q n r h (omega arith))

-- Of two lines at most one comes before the other.
pub sooner_antisym : (n q m r : ℕ) → Sooner n q m r → Sooner m r n q → (n ≡ m) × (q ≡ r)
sooner_antisym n q m r (inl h) (inl k) = absurd (omega arith)
sooner_antisym n q m r (inl h) (inr k) = absurd (omega arith)
sooner_antisym n q m r (inr h) (inl k) = absurd (omega arith)
sooner_antisym n q m r (inr h) (inr k) = earlier_once n q m r h.1 k.1

pub decides_once : (Line : ℕ → ℕ → Type 0) (n q m r : ℕ) → Decides Line n q → Decides Line m r → (n ≡ m) × (q ≡ r)
decides_once Line n q m r x y = sooner_antisym n q m r (x.first m r y.fits) (y.first n q x.fits)

-- What a reading has to give.
abbrev pub Judged : {A : Type 0} → (ℕ → ℕ → Type 0) → Reading A → Type 0
Judged Line (accept a) = (n q : ℕ) → Line n q → ⊥
Judged Line (refuse n q) = Decides Line n q

pub refuses_by : {A : Type 0} (Line : ℕ → ℕ → Type 0) (reading : Reading A) → Judged Line reading → RefusesBy Line reading
refuses_by Line (accept a) none = record {
  given = λ n q. ((λ e. let z : ◌≡◌ {A = ℕ} 0 1 = cc in absurd (omega arith)), (λ d. absurd (none n q d.fits)));
  some = ((λ l. absurd (none l.0 l.1 l.2)), (λ h. absurd (h a refl)));
}
refuses_by Line (refuse n q) decides = record {
  given = λ m r. (
    (λ e. let f : n ≡ m = cc in let g : q ≡ r = cc in rw (← f, ← g) decides),
    (λ d.
        let same = decides_once Line n q m r decides d in
        let f = same.0 in let g = same.1 in cc),
  );
  some = ((λ l a e. let z : ◌≡◌ {A = ℕ} 0 1 = cc in absurd (omega arith)), (λ h. (n, q, decides.fits)));
}

-- The same of a reading that is known.
pub refuses-one : {A : Type 0} (Line : ℕ → ℕ → Type 0) (reading : Reading A) (n q : ℕ) →
    reading ≡ refuse n q → Decides Line n q → RefusesBy Line reading
refuses-one Line reading n q e x = subst (RefusesBy Line) (sym e) (refuses_by Line (refuse n q) x)

pub refuses_none : {A : Type 0} (Line : ℕ → ℕ → Type 0) (reading : Reading A) (a : A) →
    reading ≡ accept a → ((n q : ℕ) → Line n q → ⊥) → RefusesBy Line reading
refuses_none Line reading a e x = subst (RefusesBy Line) (sym e) (refuses_by Line (accept a) x)
