-- FrontReading: a whole pattern is read off the front of some bytes exactly where these begin with the writing of a good one within the limits.
--
--   window b                  the bytes of a pattern behind its kind byte, cut off where it may not go on
--   Cut n l c x, window_cuts  they and the bytes behind the window, and how many they are
--   front_read                where there are two bytes, the pattern is read off the window
--   HoldsFront W k, front_bytes W k   a pattern of a kind within the limits, and its bytes
--   front_inverse             reading it is inverse to writing it
--
use mathlib.Core.Path.{◌≡◌, refl, sym, ap, ◌∙◌, subst}
use mathlib.Core.Bool.{Bool, true, false, not, ◌&&◌, cond}
use mathlib.Core.List.{List, [], ◌∷◌, ◌++◌, append_assoc}
use mathlib.Core.Logic.{◌⊎◌, inl, inr}
use Prim.Native.Nat.{ℕ, suc, ◌+◌, ◌-◌, ◌≤◌, ◌<◌}
use native.Mathlib.Omega.{arith}
use lib.Dec.{eqb, ltb}
use lib.ListN.{length, take, drop, length-append, length-take, take-append-drop, drop_of_length-le}
use lib.Seq.{take-append-add, drop-append-add}
use borrow.Author.Tests.{ltb-true, ltb-false, lt-ltb}
use Rattle.terms.proofs.All.{all_left}
use Rattle.wire.specs.Reply.{IsBytes, Kinded, kinded}
use Rattle.wire.specs.Vocabulary.{Vocabulary, InOrder}
use Rattle.wire.specs.TermBytes.{encode_root, encode_term, most_bytes, most_levels, HoldsTerm}
use Rattle.wire.specs.Parser.{Got, got, stop, Read, read_term}
use Rattle.wire.specs.BookComputed.{front_of, read_front}
use Rattle.wire.proofs.Cond.{cond_true, choice}
use Rattle.wire.proofs.Inverse.{ReadOff, Inverse}
use Rattle.wire.proofs.Levels.{deepest-bytes}
use Rattle.wire.proofs.WriteRead.{read-root}
use Rattle.wire.proofs.ReadWrite.{HasRead, Reads, term-reads, read-good}

abbrev pub window : List ℕ → List ℕ
window b = drop 1 (take most_bytes b)

-- Of the bytes l the first are c, with one more byte at most n, and x are behind them: none, unless c are as many as that.
pub record Cut (n : ℕ) (l c x : List ℕ) : Type 0 where
  pub whole : c ++ x ≡ l
  pub fits : suc (length c) ≤ n
  pub rest : (suc (length c) ≡ n) ⊎ (x ≡ [])

cut_at : (n : ℕ) (l : List ℕ) → Cut (suc n) l (take n l) (drop n l)
cut_at n l = record { whole = take-append-drop n l; fits = omega (arith, length-take n l); rest = go (ltb (length l) n) refl }
  where
    go : (t : Bool) → ltb (length l) n ≡ t → (suc (length (take n l)) ≡ suc n) ⊎ (drop n l ≡ [])
    go true e = inr (drop_of_length-le l {i = n} (omega (arith, ltb-true (length l) n e)))
    go false e = inl (omega (arith, length-take n l, ltb-false (length l) n e))

pub window_cuts : (s : ℕ) (l : List ℕ) → Cut most_bytes l (window (s ∷ l)) (drop most_bytes (s ∷ l))
window_cuts s l = cut_at (most_bytes - 1) l

module _ (W : Vocabulary) where
  -- What is read off the window.
  abbrev pub in_window : ℕ → List ℕ → Got Read
  in_window s l = read_term W most_levels true s [] (window (s ∷ l))

  pub front_read : (s : ℕ) (l : List ℕ) → 1 ≤ length l →
      read_front W (s ∷ l) ≡ cond (ltb s W.kinds) (front_of (s ∷ l) s (in_window s l)) (stop 8 (s ∷ l))
  front_read s [] h = absurd (omega arith)
  front_read s (x ∷ l) h = refl

  pub front_read_good : (s : ℕ) (l : List ℕ) → 1 ≤ length l → s < W.kinds → read_front W (s ∷ l) ≡ front_of (s ∷ l) s (in_window s l)
  front_read_good s l h below = front_read s l h ∙ cond_true (ltb s W.kinds) _ _ (lt-ltb s W.kinds below)

-- ---- inverse

abbrev pub front_bytes : Vocabulary → Kinded → List ℕ
front_bytes W k = encode_term W k.kind k.term

abbrev pub HoldsFront : Vocabulary → Kinded → Type 0
HoldsFront W k = HoldsTerm W (front_bytes W k) k.kind k.term

-- Bytes l that end in the window, and bytes r behind them, of which n are in it.
module _ (l r : List ℕ) (n : ℕ) (fits : length l + n ≡ most_bytes - 1) where
  window_holds : (s : ℕ) → window (s ∷ (l ++ r)) ≡ l ++ take n r
  window_holds s = ap (λ i. take i (l ++ r)) (sym fits) ∙ take-append-add l r n

  behind-holds : (s : ℕ) → take n r ++ drop most_bytes (s ∷ (l ++ r)) ≡ r
  behind-holds s =
      ap (λ z. take n r ++ z) (ap (λ i. drop i (l ++ r)) (sym fits) ∙ drop-append-add l r n) ∙ take-append-drop n r

module _ (W : Vocabulary) (in_order : InOrder W) where
  read-front : (k : Kinded) (r : List ℕ) → HoldsFront W k → read_front W (front_bytes W k ++ r) ≡ got k r
  read-front k r h =
      let s : ℕ = k.kind in
      let l : List ℕ = encode_root W k.term in
      let n : ℕ = most_bytes - 1 - length l in
      let limits = h.limits in
      let fits : length l + n ≡ most_bytes - 1 = omega arith in
      front_read_good W s (l ++ r) (omega (arith, length-append l r)) h.good.kind
      ∙ ap (λ z. front_of (s ∷ (l ++ r)) s (read_term W most_levels true s [] z)) (window_holds l r n fits s)
      ∙ ap (front_of (s ∷ (l ++ r)) s)
      (read-root W in_order k.term most_levels s (take n r) h.good.sorted.sorted h.good.named h.good.sorted.consistent limits.levels)
      ∙ ap (got k) (behind-holds l r n fits s)

  -- What is read of the bytes c is a pattern within the limits, and x are behind it too.
  held : (s : ℕ) (l c x : List ℕ) → Cut most_bytes l c x → s < W.kinds → (a : Read) (r : List ℕ) → HasRead W most_levels true s [] c a r →
      HoldsFront W (kinded s a.term) × (s ∷ l ≡ front_bytes W (kinded s a.term) ++ (r ++ x))
  held s l c x cut below a r h = (
    record {
      good = read-good W most_levels s c a r below h;
      written = refl;
      limits = record {
        least = omega (arith, deepest-bytes W a.term);
        most = omega (arith, cut.fits, ap length h.bytes, length-append (encode_root W a.term) r);
        levels = h.deep;
      };
    },
    ap {B = List ℕ} (λ z. s ∷ z) (sym cut.whole ∙ ap (λ z. z ++ x) h.bytes ∙ append_assoc (encode_root W a.term) r x),
  )

  front_off : (b : List ℕ) → IsBytes b → ReadOff (front_bytes W) (HoldsFront W) b (read_front W b)
  front_off [] bytes = tt
  front_off (s ∷ []) bytes = tt
  front_off (s ∷ x ∷ l) bytes =
      choice (Off s (x ∷ l)) (ltb s W.kinds) (front_of (s ∷ x ∷ l) s (in_window W s (x ∷ l))) (stop 8 (s ∷ x ∷ l))
      (λ e. split s (x ∷ l) (window (s ∷ x ∷ l)) (drop most_bytes (s ∷ x ∷ l)) (window_cuts s (x ∷ l)) refl (ltb-true s W.kinds e) bytes.1)
      (λ e. tt)
    where
      Off : ℕ → List ℕ → Got Kinded → Type 0
      Off s l = ReadOff (front_bytes W) (HoldsFront W) (s ∷ l)

      split : (s : ℕ) (l c x : List ℕ) → Cut most_bytes l c x → drop most_bytes (s ∷ l) ≡ x → s < W.kinds → IsBytes l →
          Off s l (front_of (s ∷ l) s (read_term W most_levels true s [] c))
      split s l c x cut behind below bytes =
          go (read_term W most_levels true s [] c)
          (term-reads W in_order most_levels true s [] c (all_left (λ b. b < 256) c x (subst IsBytes (sym cut.whole) bytes)))
        where
          go : (g : Got Read) → Reads W most_levels true s [] c g → Off s l (front_of (s ∷ l) s g)
          go (stop n r) h = choice (Off s l) (eqb n 9 && not (ltb (length (s ∷ l)) most_bytes)) _ _ (λ e. tt) (λ e. tt)
          go (got a r) h = subst (λ z. Off s l (got (kinded s a.term) (r ++ z))) (sym behind) (held s l c x cut below a r h)

  pub front_inverse : Inverse (read_front W) (front_bytes W) (HoldsFront W)
  front_inverse = record { written = read-front; read = front_off }
