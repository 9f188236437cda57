-- Entries: which entries fit, and entries that are written behind others.
--
--   together-append                       the bytes of entries behind others
--   fits_none, -both, -first, -second   entries behind others fit where both do
--   written_on                          bytes are written behind others
--   listed_none, -both                  no entries, and entries behind others
--   listed-end, -inside, -length        where they end, and the length stays
--   full_is                             no room, as a caller hands it on
--
use mathlib.Core.Path.{◌≡◌, refl, sym, ap, ap₂, ◌∙◌, subst}
use mathlib.Core.List.{List, [], ◌∷◌, ◌++◌, append-nil, append_assoc}
use Prim.Native.Nat.{ℕ, ◌+◌, ◌≤◌}
use native.Mathlib.Omega.{arith}
use lib.ListN.{length, take, drop, length-append, take-append-drop}
use lib.Seq.{length-take-le, take_at, drop-drop, drop-append-add}
use Rattle.terms.proofs.All.{all_append, all_left, all_right}
use Rattle.wire.specs.TermBytes.{most_bytes}
use Rattle.slices.specs.Written.{Written}
use Rattle.slices.proofs.Writing.{written-length}
use Rattle.std.specs.Prelude.{Result, Ok, Err}
use Rattle.std.specs.Result.{IsErr}
use Rattle.others.specs.declared.Full.{Full}
use Rattle.others.specs.Listed.{together, FitBehind, Listed}

pub together-append : (x y : List (List ℕ)) → together (x ++ y) ≡ together x ++ together y
together-append [] y = refl
together-append (l ∷ x) y = ap (λ z. l ++ z) (together-append x y) ∙ sym (append_assoc l (together x) (together y))

together-length : (x y : List (List ℕ)) → length (together (x ++ y)) ≡ length (together x) + length (together y)
together-length x y = ap length (together-append x y) ∙ length-append (together x) (together y)

abbrev Short : List ℕ → Type 0
Short l = length l ≤ most_bytes

pub fits_none : {n size : ℕ} → n ≤ size → FitBehind [] n size
fits_none h = record { each = tt; all = omega arith }

module _ (x y : List (List ℕ)) {n size : ℕ} where
  pub fits_both : FitBehind x n size → FitBehind y (n + length (together x)) size → FitBehind (x ++ y) n size
  fits_both f g = record { each = all_append Short x y f.each g.each; all = let a = g.all in omega (arith, together-length x y) }

  pub fits-first : FitBehind (x ++ y) n size → FitBehind x n size
  fits-first f = record { each = all_left Short x y f.each; all = let a = f.all in omega (arith, together-length x y) }

  pub fits_second : FitBehind (x ++ y) n size → FitBehind y (n + length (together x)) size
  fits_second f = record { each = all_right Short x y f.each; all = let a = f.all in omega (arith, together-length x y) }

-- Bytes are written behind others.
pub written_on : {u before mid after : List ℕ} {m k : ℕ} (y : List ℕ) → length u ≤ length before → Written u before m mid →
    Written (take m mid ++ y) mid k after → Written (u ++ y) before k after
written_on {u} {before} {mid} {after} {m} {k} y room f g =
    let z : List ℕ = drop (length u) before in
    let front : take m mid ≡ u = ap₂ take f.count f.same ∙ take_at u z (length u) refl in
    let h : Written (u ++ y) mid k after = subst (λ l. Written (l ++ y) mid k after) front g in
    record {
      count = h.count;
      same =
          h.same
          ∙ ap (λ l. (u ++ y) ++ l)
          (ap₂ drop (length-append u y) f.same ∙ drop-append-add u z (length y) ∙ drop-drop (length y) (length u) before
          ∙ ap (λ i. drop i before) (sym (length-append u y)));
    }

pub listed_none : {n : ℕ} (before : List ℕ) → n ≤ length before → Listed [] n n before before
listed_none {n} before h = record {
  fits = fits_none h;
  written =
      record {
        count = sym (ap length (append-nil (take n before)) ∙ length-take-le n before h);
        same = sym (ap (λ l. l ++ drop (length l) before) (append-nil (take n before)) ∙ ap (λ i. take n before ++ drop i before) (length-take-le n before h) ∙ take-append-drop n before);
      };
}

module _ {x : List (List ℕ)} {n m : ℕ} {before mid : List ℕ} (f : Listed x n m before mid) where
  inside-first : n ≤ length before
  inside-first = let a = f.fits.all in omega arith

  bytes-length : length (take n before ++ together x) ≡ n + length (together x)
  bytes-length = length-append (take n before) (together x) ∙ omega (arith, length-take-le n before inside-first)

  pub listed-end : m ≡ n + length (together x)
  listed-end = f.written.count ∙ bytes-length

  pub listed-inside : m ≤ length before
  listed-inside = omega (arith, listed-end, f.fits.all)

  pub listed-length : length mid ≡ length before
  listed-length = written-length f.written (omega (arith, bytes-length, f.fits.all))

  pub listed-both : {y : List (List ℕ)} {k : ℕ} {after : List ℕ} → Listed y m k mid after → Listed (x ++ y) n k before after
  listed-both {y} {k} {after} g = record {
    fits = fits_both x y f.fits (subst (λ size. FitBehind y (n + length (together x)) size) listed-length (subst (λ i. FitBehind y i (length mid)) listed-end g.fits));
    written =
        subst (λ l. Written l before k after) (append_assoc (take n before) (together x) (together y) ∙ ap (λ l. take n before ++ l) (sym (together-append x y)))
        (written_on (together y) (omega (arith, bytes-length, f.fits.all)) f.written g.written);
  }

-- No room, as a caller hands it on.
pub full_is : {A : Type 0} (r : Result A Full) → IsErr r → Err (record {}) ≡ r
full_is (Ok x) h = cc
full_is (Err e) h = refl
