-- Putting: entries that are put behind others, and counted.
--
--   put_none             no entries
--   full_none            a slice that has not so many bytes as are said to be written has no room
--   full-one, put_one    an entry that has no room, and one that is copied behind the others
--   put_then, full-then  entries behind others that are put
--   entries-few          there are no more entries than bytes
--
use mathlib.Core.Path.{◌≡◌, refl, sym, ap, ap₂, ◌∙◌, subst}
use mathlib.Core.List.{List, [], ◌∷◌, ◌++◌, map, append-nil}
use Prim.Native.Nat.{ℕ, ◌+◌, ◌-◌, ◌<◌, ◌≤◌}
use native.Mathlib.Omega.{arith}
use lib.ListN.{length, take, drop, length-append, take-append-drop}
use lib.Seq.{length-take-le}
use Rattle.terms.specs.Term.{Term}
use Rattle.wire.specs.Vocabulary.{Vocabulary}
use Rattle.wire.specs.TermBytes.{encode_term, most_bytes}
use Rattle.slices.specs.Copied.{copied}
use Rattle.slices.specs.Written.{Written}
use Rattle.slices.proofs.Writing.{part, back, written-copied}
use Rattle.others.specs.Listed.{together, FitBehind}
use Rattle.strikes.specs.Calls.{leaving, full, Put, LeftOf}
use Rattle.others.proofs.Entries.{fits_second, listed_none, listed-end, listed-length, listed-both}

pub put_none : (n : ℕ) (l : List ℕ) → n ≤ length l → Put [] n l l n 0
put_none n l h = record { listed = listed_none l h; count = refl }

pub full_none : (ls : List (List ℕ)) (n : ℕ) (l : List ℕ) → length l < n → LeftOf ls n l l full
full_none ls n l less f = let a = f.all in omega arith

module _ (e : List ℕ) (n : ℕ) (l : List ℕ) (h : n ≤ length l) where
  one-length : length (together (e ∷ [])) ≡ length e
  one-length = ap length (append-nil e)

  pub full-one : length l - n < length e → LeftOf (e ∷ []) n l l full
  full-one less f = let a = f.all in omega (arith, one-length)

  pub put_one : length e ≤ length l - n → length e ≤ most_bytes → {ys : List ℕ} → ys ≡ copied e (part n l) →
      LeftOf (e ∷ []) n l (back n l ys) (leaving (n + length e) 1)
  put_one room short {ys} c = record {
    listed = record {
      fits = record { each = (short, tt); all = omega (arith, one-length) };
      written =
          subst (λ b. Written (take n l ++ b) l (n + length e) (back n l ys)) (sym (append-nil e))
          (written-copied whole (omega (arith, front)) e (omega (arith, front)) c);
    };
    count = refl;
  }
    where
      front : length (take n l) ≡ n
      front = length-take-le n l h

      whole : Written (take n l) l n l
      whole = record { count = sym front; same = sym (ap (λ i. take n l ++ drop i l) front ∙ take-append-drop n l) }

module _ {ls : List (List ℕ)} {n : ℕ} {before mid : List ℕ} {n₁ k : ℕ} (p : Put ls n before mid n₁ k) where
  -- How many bytes there are then, and that the slice is as long as before.
  pub put_count : n₁ ≡ n + length (together ls)
  put_count = listed-end p.listed

  pub put-length : length mid ≡ length before
  put-length = listed-length p.listed

  pub put_then : {ms : List (List ℕ)} {after : List ℕ} {m j : ℕ} → Put ms n₁ mid after m j → Put (ls ++ ms) n before after m (k + j)
  put_then {ms} q = record {
    listed = listed-both p.listed q.listed;
    count = ap₂ (λ i j. i + j) p.count q.count ∙ sym (length-append ls ms);
  }

  pub full-then : (ms : List (List ℕ)) → (FitBehind ms n₁ (length mid) → ⊥) → FitBehind (ls ++ ms) n (length before) → ⊥
  full-then ms full f = full (subst (FitBehind ms n₁) (sym put-length) (subst (λ i. FitBehind ms i (length before)) (sym put_count) (fits_second ls ms f)))

pub entries-few : (W : Vocabulary) (s : ℕ) (l : List Term) → length (map (encode_term W s) l) ≤ length (together (map (encode_term W s) l))
entries-few W s [] = omega arith
entries-few W s (t ∷ l) = let k = entries-few W s l in let a = length-append (encode_term W s t) (together (map (encode_term W s) l)) in omega arith
