-- KindBytes: reading kind bytes, from what stands at each of them.
use mathlib.Core.Path.{◌≡◌, refl, sym, ◌∙◌, ap}
use mathlib.Core.List.{List, []}
use Prim.Native.Nat.{ℕ, suc, ◌+◌, ◌-◌, ◌<◌, ◌≤◌}
use native.Mathlib.Omega.{arith}
use lib.ListN.{length, take, drop, length-drop, drop_of_length-le, take-append-drop}
use lib.Seq.{drop-drop, drop-cons, get_or-take, get_or-drop, length-take-le}
use borrow.Author.Tests.{le-ltb}
use Rattle.terms.proofs.All.{at_all}
use Rattle.wire.specs.Parser.{got, stop, read_kind, read_kinds}
use Rattle.wire.specs.VocabularyLines.{byte_at}
use Rattle.wire.proofs.Row.{row_stopped}
use Rattle.wire.proofs.WordsInverse.{kinds_inverse}
use Rattle.std.specs.Prelude.{Ok, Err}
use Rattle.signature.specs.declared.VocabularyRefusal.TheVariants.{Ends, NoSuchKind}
use Rattle.signature.specs.Loading.{KindsRead}

module _ (k : ℕ) where
  -- The first n bytes of l are kinds.
  abbrev pub Kinds : ℕ → List ℕ → Type 0
  Kinds n l = (j : ℕ) → j < n → byte_at l j < k

  kinds-whole : (n : ℕ) (l : List ℕ) → n ≤ length l → Kinds n l → read_kinds k n l ≡ got (take n l) (drop n l)
  kinds-whole n l h a =
      let long : length (take n l) ≡ n = length-take-le n l h in
      ap (read_kinds k n) (sym (take-append-drop n l))
      ∙ (kinds_inverse k n).written (take n l) (drop n l)
      (long, at_all (λ s. s < k) 0 (take n l) (λ j p. let q : j < n = omega arith in rw (get_or-take n l j 0 q) (a j q)))

  -- The first i kinds are read, and the next byte is missing or none.
  kinds_stopped : (n i m : ℕ) (l r : List ℕ) → i < n → i ≤ length l → Kinds i l → read_kind k (drop i l) ≡ stop m r → read_kinds k n l ≡ stop m r
  kinds_stopped n i m l r h s a e =
      let count : i + suc (n - (i + 1)) ≡ n = omega arith in
      ap (λ j. read_kinds k j l) (sym count)
      ∙ row_stopped (λ u. read_kind k) (λ u b. u) tt i l (take i l) (drop i l) (kinds-whole i l s a) (n - (i + 1)) m r e

-- The kinds of v from an offset on, by the bytes of v.
module _ (v : List ℕ) (at k : ℕ) where
  abbrev pub KindsAt : ℕ → Type 0
  KindsAt n = (j : ℕ) → j < n → byte_at v (at + j) < k

  kinds-drop : (n : ℕ) → KindsAt n → Kinds k n (drop at v)
  kinds-drop n a j h = rw get_or-drop (a j h)

  kinds_at_stopped : (n i m : ℕ) (r : List ℕ) → i < n → at + i ≤ length v → KindsAt i → read_kind k (drop (at + i) v) ≡ stop m r →
      stop m r ≡ read_kinds k n (drop at v)
  kinds_at_stopped n i m r h s a e =
      sym (kinds_stopped k n i m (drop at v) r h (rw length-drop (omega arith)) (kinds-drop i a) (rw drop-drop e))

  pub kinds-read_whole : (n : ℕ) → at + n ≤ length v → KindsAt n → KindsRead v at n k (Ok n)
  kinds-read_whole n h a = record {
    reads = sym (kinds-whole k n (drop at v) (rw length-drop (omega arith)) (kinds-drop n a) ∙ rw drop-drop);
    inside = (refl, h);
  }

  pub kinds_read_ends : (n i : ℕ) → i < n → length v ≤ at + i → at + i ≤ length v → KindsAt i → KindsRead v at n k (Err (Ends (length v)))
  kinds_read_ends n i h m s a = record {
    reads = kinds_at_stopped n i 3 [] h s a (rw (drop_of_length-le v m));
    inside = refl;
  }

  pub kinds_read_unknown : (n i : ℕ) → i < n → at + i < length v → KindsAt i → k ≤ byte_at v (at + i) → KindsRead v at n k (Err (NoSuchKind (at + i)))
  kinds_read_unknown n i h m a e = record {
    reads = kinds_at_stopped n i 4 (drop (at + i) v) h (omega arith) a (rw (drop-cons v (at + i) 0 m, le-ltb (byte_at v (at + i)) k e));
    inside = m;
  }
