-- ScanGap: a term's first gap counted from its end, node by node.
--
--   left_else, else_assoc     of two things that may be missing
--   gap_shift, gaps_shift     a gap and its bytes moved by the same number
--   gap_here_lem                  below the root a term's gap is the one that gap_from finds
--   word_gap                  a word's gap is its own, or the first of its places'
--   whole-gap                 the first gap counted behind the kind byte
--   Near, gap-near, whole-near    a gap stands among the bytes of its term
--   left-same                 a gap is known by the bytes from it on
--
use mathlib.Core.Path.{◌≡◌, refl, sym, ap, ap₂, ◌∙◌}
use mathlib.Core.Bool.{Bool, true, false, not, cond, true≢false}
use mathlib.Core.Option.{Option, some, none}
use Prim.Native.Nat.{ℕ, suc, ◌+◌, ◌-◌, ◌≤◌}
use native.Mathlib.Omega.{arith}
use lib.ListN.{length, length-append}
use Rattle.terms.specs.Lists.{or_else}
use Rattle.terms.specs.Term.{Term, any, var, app, Terms, nil, cons}
use Rattle.wire.specs.Map.{map_bytes, is_open}
use Rattle.wire.specs.Vocabulary.{Vocabulary}
use Rattle.wire.specs.TermBytes.{encode_at, encode_all, encode_root}
use Rattle.wire.specs.GapComputed.{some_open, gap_from, gap_all, first_gap}
use Rattle.wire.specs.Scan.{gap_here, left_from}

pub left_else : (n : ℕ) (a b : Option ℕ) → left_from n (or_else a b) ≡ or_else (left_from n a) (left_from n b)
left_else n none b = refl
left_else n (some q) b = refl

pub else_assoc : (a b c : Option ℕ) → or_else (or_else a b) c ≡ or_else a (or_else b c)
else_assoc none b c = refl
else_assoc (some q) b c = refl

mutual
  pub gap_shift : (W : Vocabulary) (t : Term) (n k at : ℕ) → left_from (n + k) (gap_from W t (at + k)) ≡ left_from n (gap_from W t at)
  gap_shift W any n k at = refl
  gap_shift W (var m) n k at = ap some (let e : n + k - (at + k) ≡ n - at = omega arith in e)
  gap_shift W (app f ts) n k at = go (some_open ts) (gaps_shift W ts n k (at + 1 + map_bytes))
    where
      go : (b : Bool) → left_from (n + k) (gap_all W ts (at + 1 + map_bytes + k)) ≡ left_from n (gap_all W ts (at + 1 + map_bytes)) →
          left_from (n + k) (cond b (some (at + k + 1)) (gap_all W ts (at + k + 1 + map_bytes))) ≡
          left_from n (cond b (some (at + 1)) (gap_all W ts (at + 1 + map_bytes)))
      go true below = ap some (let e : n + k - (at + k + 1) ≡ n - (at + 1) = omega arith in e)
      go false below =
          ap (λ q. left_from (n + k) (gap_all W ts q)) (let e : at + k + 1 + map_bytes ≡ at + 1 + map_bytes + k = omega arith in e)
          ∙ below

  pub gaps_shift : (W : Vocabulary) (ts : Terms) (n k at : ℕ) → left_from (n + k) (gap_all W ts (at + k)) ≡ left_from n (gap_all W ts at)
  gaps_shift W nil n k at = refl
  gaps_shift W (cons t ts) n k at =
      let next : at + k + length (encode_at W t) ≡ at + length (encode_at W t) + k = omega arith in
      left_else (n + k) (gap_from W t (at + k)) (gap_all W ts (at + k + length (encode_at W t)))
      ∙ ap₂ or_else (gap_shift W t n k at)
      (ap (λ q. left_from (n + k) (gap_all W ts q)) next ∙ gaps_shift W ts n k (at + length (encode_at W t)))
      ∙ sym (left_else n (gap_from W t at) (gap_all W ts (at + length (encode_at W t))))

pub gap_here_lem : (W : Vocabulary) (t : Term) → is_open t ≡ false → gap_here W t ≡ gap_from W t 0
gap_here_lem W any e = absurd (true≢false e)
gap_here_lem W (var n) e = refl
gap_here_lem W (app f ts) e = refl

-- A word that n bytes follow, b telling whether all its places are written.
pub word_gap : (W : Vocabulary) (f : ℕ) (ts : Terms) (n : ℕ) (b : Bool) → some_open ts ≡ not b →
    or_else (cond b none (some (map_bytes + n))) (left_from n (gap_all W ts 0)) ≡ left_from (suc (map_bytes + n)) (gap_here W (app f ts))
word_gap W f ts n true e =
    sym (gaps_shift W ts n (1 + map_bytes) 0)
    ∙ ap (λ m. left_from m (gap_all W ts (0 + 1 + map_bytes))) (let e : n + (1 + map_bytes) ≡ suc (map_bytes + n) = omega arith in e)
    ∙ ap (λ c. left_from (suc (map_bytes + n)) (cond c (some (0 + 1)) (gap_all W ts (0 + 1 + map_bytes)))) (sym e)
word_gap W f ts n false e =
    ap some (let e : map_bytes + n ≡ suc (map_bytes + n) - (0 + 1) = omega arith in e)
    ∙ ap (λ c. left_from (suc (map_bytes + n)) (cond c (some (0 + 1)) (gap_all W ts (0 + 1 + map_bytes)))) (sym e)

pub whole-gap : (W : Vocabulary) (t : Term) (n : ℕ) → left_from (n + 1) (first_gap W t) ≡ left_from n (gap_here W t)
whole-gap W any n = ap some (let e : n + 1 - 1 ≡ n - 0 = omega arith in e)
whole-gap W (var m) n = gap_shift W (var m) n 1 0
whole-gap W (app f ts) n = gap_shift W (app f ts) n 1 0

-- ---- a gap stands among the bytes of its term

abbrev pub Near : ℕ → Option ℕ → Type 0
Near n none = Unit {0}
Near n (some q) = q ≤ n

near_else : (n : ℕ) (a b : Option ℕ) → Near n a → Near n b → Near n (or_else a b)
near_else n none b h k = k
near_else n (some q) b h k = h

near-more : (n m : ℕ) (a : Option ℕ) → n ≤ m → Near n a → Near m a
near-more n m none e h = tt
near-more n m (some q) e h = omega arith

mutual
  gap-near : (W : Vocabulary) (t : Term) (at : ℕ) → Near (at + length (encode_at W t)) (gap_from W t at)
  gap-near W any at = tt
  gap-near W (var n) at = omega arith
  gap-near W (app f ts) at = go (some_open ts) (gaps-near W ts (at + 1 + map_bytes))
    where
      go : (b : Bool) → Near (at + 1 + map_bytes + length (encode_all W ts)) (gap_all W ts (at + 1 + map_bytes)) →
          Near (at + length (encode_at W (app f ts))) (cond b (some (at + 1)) (gap_all W ts (at + 1 + map_bytes)))
      go true h = omega arith
      go false h = near-more _ _ (gap_all W ts (at + 1 + map_bytes)) (omega arith) h

  gaps-near : (W : Vocabulary) (ts : Terms) (at : ℕ) → Near (at + length (encode_all W ts)) (gap_all W ts at)
  gaps-near W nil at = tt
  gaps-near W (cons t ts) at =
      let whole = length-append (encode_at W t) (encode_all W ts) in
      near_else _ (gap_from W t at) (gap_all W ts (at + length (encode_at W t)))
      (near-more _ _ (gap_from W t at) (omega arith) (gap-near W t at))
      (near-more _ _ (gap_all W ts (at + length (encode_at W t))) (omega arith) (gaps-near W ts (at + length (encode_at W t))))

pub whole-near : (W : Vocabulary) (t : Term) → Near (1 + length (encode_root W t)) (first_gap W t)
whole-near W any = omega arith
whole-near W (var n) = gap-near W (var n) 1
whole-near W (app f ts) = gap-near W (app f ts) 1

pub left-same : (n : ℕ) (a b : Option ℕ) → Near n a → Near n b → left_from n a ≡ left_from n b → a ≡ b
left-same n none none h k e = refl
left-same n none (some q) h k e = let z : ◌≡◌ {A = ℕ} 0 1 = cc in absurd (omega arith)
left-same n (some p) none h k e = let z : ◌≡◌ {A = ℕ} 0 1 = cc in absurd (omega arith)
left-same n (some p) (some q) h k e = let z : n - p ≡ n - q = cc in ap some (let w : p ≡ q = omega arith in w)
