-- Over: a term of the entry is copied, or there is none.
--
--   over_none                the entry is open
--   over-size, over-room      the term's size, and the copy has room for it
--   over-copied              it is copied
--   extent_inside            whatever the bytes are, the term ends inside them
--
use mathlib.Core.Path.{◌≡◌, refl, sym, ap, ap₂, ◌∙◌, subst}
use mathlib.Core.Bool.{Bool, true, false}
use mathlib.Core.List.{List, [], ◌++◌, append-nil}
use Prim.Native.Nat.{ℕ, ◌+◌, ◌≤◌}
use native.Mathlib.Omega.{arith}
use lib.ListN.{length, take, drop, length-drop, take-append-drop}
use lib.Seq.{length-take-le, take_at}
use Rattle.slices.specs.Copied.{copied}
use Rattle.slices.specs.Written.{Written}
use Rattle.slices.proofs.Writing.{part, back, written-copied}
use Rattle.extents.proofs.Extents.{term-inside}
use Rattle.cuts.specs.declared.own.Walk.{Walk}
use Rattle.cuts.specs.Cutting.{extent_at, OverAt, TakenOver}

pub extent_inside : (l : List ℕ) (i : ℕ) {n : ℕ} → i ≤ length l → n ≡ extent_at l i → i + n ≤ length l
unfolding extent_at
extent_inside l i k e = omega (arith, e, term-inside (drop i l), length-drop i l)

module _ {copy : List ℕ} {w : Walk} {blank : Bool} {entry : List ℕ} (h : OverAt copy w blank entry) where
  abbrev x : List ℕ
  x = h.term

  pub over_none : {q : ℕ} → blank ≡ true → TakenOver copy w x copy (record { at = w.at; entry = w.entry; pattern = q; written = w.written; todo = w.todo })
  over_none e =
      let none : x ≡ [] = h.none e in
      record {
        at = omega (arith, ap length none);
        stands = sym (ap (λ l. take w.at copy ++ l) none ∙ append-nil (take w.at copy));
        entry = omega (arith, ap length none);
      }

  -- The term is there.
  module _ (e : blank ≡ false) {n : ℕ} (read : n ≡ extent_at entry w.entry) where
    pub over-size : n ≡ length x
    over-size = read ∙ h.size e

    pub over-room : w.at + n ≤ length copy
    over-room = let r = h.room in omega (arith, over-size)

    taken : take n (drop w.entry entry) ≡ x
    taken = ap (take n) h.from.same ∙ take_at x h.tail n (sym over-size)

    at_front : Written (take w.at copy) copy w.at copy
    at_front =
        let s : length (take w.at copy) ≡ w.at = length-take-le w.at copy (omega (arith, over-room)) in
        record { count = sym s; same = sym (ap (λ i. take w.at copy ++ drop i copy) s ∙ take-append-drop w.at copy) }

    pub over-written : (from : List ℕ) {ys : List ℕ} → from ≡ take n (drop w.entry entry) → ys ≡ copied from (part w.at copy) →
        Written (take w.at copy ++ x) copy (w.at + n) (back w.at copy ys)
    over-written from {ys} f c =
        let same : from ≡ x = f ∙ taken in
        let s : length (take w.at copy) ≡ w.at = length-take-le w.at copy (omega (arith, over-room)) in
        subst (λ i. Written (take w.at copy ++ x) copy (w.at + i) (back w.at copy ys)) (sym over-size)
        (subst (λ l. Written (take w.at copy ++ l) copy (w.at + length l) (back w.at copy ys)) same
        (written-copied at_front (omega (arith, over-room)) from (omega (arith, over-room, over-size, ap length same)) c))

    pub over-copied : {q : ℕ} (from : List ℕ) {ys : List ℕ} → from ≡ take n (drop w.entry entry) → ys ≡ copied from (part w.at copy) →
        TakenOver copy w x (back w.at copy ys) (record { at = w.at + n; entry = w.entry + n; pattern = q; written = w.written; todo = w.todo })
    over-copied from {ys} f c =
        let out = over-written from f c in
        let bytes : List ℕ = take w.at copy ++ x in
        record {
          at = omega (arith, over-size);
          stands = ap₂ take out.count out.same ∙ take_at bytes (drop (length bytes) copy) (length bytes) refl;
          entry = omega (arith, over-size);
        }
