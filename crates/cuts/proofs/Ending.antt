-- Ending: entries are cut behind others.
--
--   none_of                  no entries
--   ends_on                  more entries are written behind those before
--   ends_early               no entries are due any more
--   ends-full                the first ones do not fit
--   from_on                  bytes are passed
--
use mathlib.Core.Path.{◌≡◌, refl, sym, ap, ◌∙◌, subst}
use mathlib.Core.List.{List, [], ◌∷◌, ◌++◌, append-nil}
use Prim.Native.Nat.{ℕ, ◌+◌}
use native.Mathlib.Omega.{arith}
use lib.ListN.{length, drop, length-append, length-drop}
use lib.Seq.{drop_at, drop-drop}
use Rattle.others.specs.Listed.{FitBehind, Listed}
use Rattle.others.proofs.Entries.{fits-first, fits_second, listed-both, listed-end, listed-length}
use Rattle.cuts.specs.declared.own.Walk.{Walk}
use Rattle.std.specs.Prelude.{Ok, Err}
use Rattle.cuts.specs.Walking.{Step}
use Rattle.cuts.specs.Cutting.{From, Finished, CutEnds}

pub none_of : (l : List (List ℕ)) → length l ≡ 0 → l ≡ []
none_of [] e = refl
none_of (x ∷ l) e = absurd (omega arith)

pub ends_on : (x y : List (List ℕ)) (later : ℕ) {bytes bytes' : List ℕ} → bytes' ≡ bytes → {i i' : ℕ} → i' ≡ i → {q q' : ℕ} → q' ≡ q →
    {n k : ℕ} {before mid : List ℕ} → Listed x n k before mid → (copied after : List ℕ) (r : Step) → CutEnds y bytes' i' q' later k mid copied after r →
    CutEnds (x ++ y) bytes i q later n before copied after r
ends_on x y later b i q l copied after (Ok w) f = record {
  listed = listed-both l f.listed;
  todo = f.todo;
  passed =
      λ p.
      let g = f.passed p in
      record { at = g.at ∙ ap length b; stands = g.stands ∙ b; entry = g.entry ∙ i; pattern = g.pattern ∙ q };
}
ends_on x y later b i q {before = before} l copied after (Err e) f =
    λ fits.
    f (subst (FitBehind y _) (sym (listed-length l)) (subst (λ m. FitBehind y m (length before)) (sym (listed-end l)) (fits_second x y fits)))

module _ (x y : List (List ℕ)) (bytes : List ℕ) (i q later : ℕ) {n : ℕ} {before mid : List ℕ} where
  pub ends_early : (w : Walk) → Listed x n w.written before mid → w.todo ≡ length y + later → w.todo ≡ 0 → (copied : List ℕ) →
      Finished (x ++ y) bytes i q later n before copied mid w
  ends_early w l t z copied =
      let none : y ≡ [] = none_of y (omega arith) in
      record {
        listed = subst (λ ls. Listed ls n w.written before mid) (sym (ap (λ ls. x ++ ls) none ∙ append-nil x)) l;
        todo = omega (arith, ap length none);
        passed = λ p. absurd (omega arith);
      }

pub ends-full : (x y : List (List ℕ)) {n size : ℕ} → (FitBehind x n size → ⊥) → FitBehind (x ++ y) n size → ⊥
ends-full x y f fits = f (fits-first x y fits)

-- The first of the bytes that stand there are passed.
pub from_on : (x rest : List ℕ) {bytes : List ℕ} {i : ℕ} → From bytes (x ++ rest) i → {j : ℕ} → j ≡ i + length x → From bytes rest j
from_on x rest {bytes} {i} f {j} e = record {
  inside = let k = f.inside in omega (arith, length-drop i bytes, ap length f.same, length-append x rest);
  same =
      ap (λ m. drop m bytes) e
      ∙ sym (drop-drop (length x) i bytes)
      ∙ ap (drop (length x)) f.same
      ∙ drop_at x rest (length x) refl;
}
