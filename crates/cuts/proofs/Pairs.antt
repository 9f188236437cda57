-- Pairs: the terms of an entry and of a pattern at the places of a word, bit by bit.
--
--   both-short              what both allow has no more bytes than both have
--   placed, placed_below    the map of the written places, by the bits that are left, and that it is one
--   Split, split            the terms at the next bit, and those above; no place has open terms
--   NoneLeft, none_left     no bit is left: no term is written there, and there is no entry
--   pairs-from              the terms of two words stand at their places
--
use mathlib.Core.Path.{◌≡◌, refl, sym, ap, ap₂, ◌∙◌}
use mathlib.Core.Bool.{Bool, true, false, not}
use mathlib.Core.List.{List, [], ◌∷◌, ◌++◌, append-nil}
use Prim.Native.Nat.{ℕ, suc, ◌+◌, ◌*◌, ◌^◌, ◌≤◌, max}
use native.Mathlib.Nat.{pow-suc, pow-succ', zero-mul, one-mul, mul_assoc, add-mul}
use native.Mathlib.Omega.{arith}
use lib.ListN.{length, length-append}
use Rattle.terms.specs.Term.{Term, any, var, app, Terms, nil, cons, SortedAll, names, names_all}
use Rattle.terms.specs.Book.{nameless, nameless_all, disjoint, disjoint_all, both, both_all}
use Rattle.terms.proofs.Bools.{or_parts}
use Rattle.wire.specs.Map.{write_map, bit, number, ones, is_open, written_flags}
use Rattle.wire.specs.Vocabulary.{Vocabulary, signature}
use Rattle.wire.specs.TermBytes.{encode_at, encode_all, levels, levels_all}
use Rattle.wire.specs.EntryAgainst.{place_bits, bit_of, written_bits, cut_at, cut_all_at}
use Rattle.cuts.specs.Cutting.{Pair, Pairs}

-- ---- what both allow is not longer than both

mutual
  nameless-short : (W : Vocabulary) (p : Term) → length (encode_at W (nameless p)) ≤ length (encode_at W p)
  nameless-short W any = omega arith
  nameless-short W (var n) = omega arith
  nameless-short W (app f ps) = let h = nameless_all-short W ps in omega arith

  nameless_all-short : (W : Vocabulary) (ps : Terms) → length (encode_all W (nameless_all ps)) ≤ length (encode_all W ps)
  nameless_all-short W nil = omega arith
  nameless_all-short W (cons p ps) =
      let h = nameless-short W p in
      let k = nameless_all-short W ps in
      omega (arith, length-append (encode_at W (nameless p)) (encode_all W (nameless_all ps)), length-append (encode_at W p) (encode_all W ps))

mutual
  pub both-short : (W : Vocabulary) (e p : Term) → length (encode_at W (both e p)) ≤ length (encode_at W e) + length (encode_at W p)
  both-short W any p = let h = nameless-short W p in omega arith
  both-short W (var n) p = let h = nameless-short W p in omega arith
  both-short W (app f es) any = omega arith
  both-short W (app f es) (var n) = omega arith
  both-short W (app f es) (app g ps) = let h = both_all-short W es ps in omega arith

  both_all-short : (W : Vocabulary) (es ps : Terms) → length (encode_all W (both_all es ps)) ≤ length (encode_all W es) + length (encode_all W ps)
  both_all-short W nil ps = omega arith
  both_all-short W (cons e es) nil = omega arith
  both_all-short W (cons e es) (cons p ps) =
      let h = both-short W e p in
      let k = both_all-short W es ps in
      omega (arith, length-append (encode_at W (both e p)) (encode_all W (both_all es ps)), length-append (encode_at W e) (encode_all W es), length-append (encode_at W p) (encode_all W ps))

-- ---- the map of the written places, by the bits that are left

shifted : (b n : ℕ) → n * 2 ^ suc b ≡ (0 + 2 * n) * 2 ^ b
shifted b n = ap (λ k. n * k) (pow-succ' 2 b) ∙ sym (mul_assoc n 2 (2 ^ b)) ∙ ap (λ k. k * 2 ^ b) (let e : n * 2 ≡ 0 + 2 * n = omega arith in e)

shifted_here : (t : Term) (b w n : ℕ) → w ≡ n * 2 ^ suc b → bit_of t b + w ≡ (bit (not (is_open t)) + 2 * n) * 2 ^ b
shifted_here t b w n e = go t
  where
    here : 2 ^ b + w ≡ (1 + 2 * n) * 2 ^ b
    here =
        let above : w ≡ 2 * n * 2 ^ b = e ∙ shifted b n ∙ ap (λ k. k * 2 ^ b) (let z : 0 + 2 * n ≡ 2 * n = omega arith in z) in
        sym (add-mul 1 (2 * n) (2 ^ b) ∙ ap₂ ◌+◌ (one-mul (2 ^ b)) (sym above))

    go : (t : Term) → bit_of t b + w ≡ (bit (not (is_open t)) + 2 * n) * 2 ^ b
    go any = omega (arith, e, shifted b n)
    go (var m) = here
    go (app f us) = here

pub placed : (fs : List Bool) (b : ℕ) (ts : Terms) → written_bits (place_bits b fs) ts ≡ number (written_flags fs ts) * 2 ^ b
placed [] b nil = sym (zero-mul (2 ^ b))
placed [] b (cons t ts) = sym (zero-mul (2 ^ b))
placed (false ∷ fs) b ts = placed fs (suc b) ts ∙ shifted b (number (written_flags fs ts))
placed (true ∷ fs) b nil = placed fs (suc b) nil ∙ shifted b (number (written_flags fs nil))
placed (true ∷ fs) b (cons t ts) = shifted_here t b (written_bits (place_bits (suc b) fs) ts) (number (written_flags fs ts)) (placed fs (suc b) ts)

bit_below : (t : Term) (b w k : ℕ) → w + 2 ^ suc b ≤ k → bit_of t b + w + 2 ^ b ≤ k
bit_below any b w k h = omega (arith, pow-suc 2 b)
bit_below (var n) b w k h = omega (arith, pow-suc 2 b)
bit_below (app f us) b w k h = omega (arith, pow-suc 2 b)

-- It has no bit past the last place.
pub placed_below : (fs : List Bool) (b : ℕ) (ts : Terms) → written_bits (place_bits b fs) ts + 2 ^ b ≤ 2 ^ (b + length fs)
placed_below [] b nil = omega (arith, ap (λ k. 2 ^ k) (let e : b + 0 ≡ b = omega arith in e))
placed_below [] b (cons t ts) = omega (arith, ap (λ k. 2 ^ k) (let e : b + 0 ≡ b = omega arith in e))
placed_below (false ∷ fs) b ts =
    let h = placed_below fs (suc b) ts in
    omega (arith, pow-suc 2 b, ap (λ k. 2 ^ k) (let e : suc b + length fs ≡ b + suc (length fs) = omega arith in e))
placed_below (true ∷ fs) b nil =
    let h = placed_below fs (suc b) nil in
    omega (arith, pow-suc 2 b, ap (λ k. 2 ^ k) (let e : suc b + length fs ≡ b + suc (length fs) = omega arith in e))
placed_below (true ∷ fs) b (cons t ts) =
    let h = placed_below fs (suc b) ts in
    bit_below t b (written_bits (place_bits (suc b) fs) ts) (2 ^ (b + suc (length fs)))
    (omega (arith, ap (λ k. 2 ^ k) (let e : suc b + length fs ≡ b + suc (length fs) = omega arith in e)))

-- ---- the next bit

pub record Split (W : Vocabulary) (b : ℕ) (fs : List Bool) (es ps : Terms) : Type 0 where
  pub above : List Bool
  pub e : Term
  pub p : Term
  pub es' : Terms
  pub ps' : Terms
  pub size : length fs ≡ suc (length above)
  pub pair : Pair W e p
  pub pairs : Pairs W above es' ps'
  pub mine : encode_all W es ≡ encode_at W e ++ encode_all W es'
  pub other : encode_all W ps ≡ encode_at W p ++ encode_all W ps'
  pub mine_bits : number (written_flags fs es) ≡ bit (not (is_open e)) + 2 * number (written_flags above es')
  pub other_bits : number (written_flags fs ps) ≡ bit (not (is_open p)) + 2 * number (written_flags above ps')
  pub bytes : encode_all W (both_all es ps) ≡ encode_at W (both e p) ++ encode_all W (both_all es' ps')
  pub bits : written_bits (place_bits b fs) (both_all es ps) ≡ bit_of (both e p) b + written_bits (place_bits (suc b) above) (both_all es' ps')
  pub deep : max (levels p) (levels_all ps') ≤ levels_all ps
  pub cuts : (f low : ℕ) (body front tail : List ℕ) →
      cut_all_at W ps es f (place_bits b fs) low body front tail
      ≡ cut_at W p e (front ++ (f ∷ (write_map (low + (2 ^ b + written_bits (place_bits (suc b) above) es')) ++ body))) (encode_all W es' ++ tail)
      ++ cut_all_at W ps' es' f (place_bits (suc b) above) (low + bit_of (both e p) b) (body ++ encode_at W (both e p)) front tail

pub split : (W : Vocabulary) (b : ℕ) (fs : List Bool) (es ps : Terms) → Pairs W fs es ps →
    (number (written_flags fs es) + number (written_flags fs ps) ≡ 0 → ⊥) → Split W b fs es ps
split W b [] es ps h some-bit = absurd (some-bit refl)
split W b (false ∷ fs) es ps h some-bit = record {
  above = fs;
  e = any;
  p = any;
  es' = es;
  ps' = ps;
  size = refl;
  pair = record { kind = 0; entry = tt; pattern = tt; shares = refl; nameless = refl };
  pairs = h;
  mine = refl;
  other = refl;
  mine_bits = refl;
  other_bits = refl;
  bytes = refl;
  bits = omega arith;
  deep = omega arith;
  cuts =
      λ f low body front tail.
      ap₂ (λ n l. cut_all_at W ps es f (place_bits (suc b) fs) n l front tail) (let z : low ≡ low + 0 = omega arith in z) (sym (append-nil body));
}
split W b (true ∷ fs) nil ps h some-bit = absurd h
split W b (true ∷ fs) (cons e es) nil h some-bit = absurd h
split W b (true ∷ fs) (cons e es) (cons p ps) h some-bit = record {
  above = fs;
  e = e;
  p = p;
  es' = es;
  ps' = ps;
  size = refl;
  pair = h.0;
  pairs = h.1;
  mine = refl;
  other = refl;
  mine_bits = refl;
  other_bits = refl;
  bytes = refl;
  bits = refl;
  deep = omega arith;
  cuts = λ f low body front tail. refl;
}

-- ---- no bit is left

pub record NoneLeft (W : Vocabulary) (b : ℕ) (fs : List Bool) (es ps : Terms) : Type 0 where
  pub mine : encode_all W es ≡ []
  pub other : encode_all W ps ≡ []
  pub bytes : encode_all W (both_all es ps) ≡ []
  pub bits : written_bits (place_bits b fs) (both_all es ps) ≡ 0
  pub cuts : (f low : ℕ) (body front tail : List ℕ) → cut_all_at W ps es f (place_bits b fs) low body front tail ≡ []

pub none_left : (W : Vocabulary) (b : ℕ) (fs : List Bool) (es ps : Terms) → Pairs W fs es ps →
    number (written_flags fs es) + number (written_flags fs ps) ≡ 0 → NoneLeft W b fs es ps
none_left W b [] nil nil h z = record { mine = refl; other = refl; bytes = refl; bits = refl; cuts = λ f low body front tail. refl }
none_left W b [] nil (cons p ps) h z = absurd h
none_left W b [] (cons e es) ps h z = absurd h
none_left W b (false ∷ fs) es ps h z =
    let r = none_left W (suc b) fs es ps h (omega arith) in
    record { mine = r.mine; other = r.other; bytes = r.bytes; bits = r.bits; cuts = r.cuts }
none_left W b (true ∷ fs) nil ps h z = absurd h
none_left W b (true ∷ fs) (cons e es) nil h z = absurd h
none_left W b (true ∷ fs) (cons any es) (cons any ps) h z =
    let r = none_left W (suc b) fs es ps h.1 (omega arith) in
    record {
      mine = r.mine;
      other = r.other;
      bytes = r.bytes;
      bits = omega (arith, r.bits);
      cuts = λ f low body front tail. r.cuts f (low + 0) (body ++ []) front tail;
    }
none_left W b (true ∷ fs) (cons any es) (cons (var n) ps) h z = absurd (omega arith)
none_left W b (true ∷ fs) (cons any es) (cons (app f us) ps) h z = absurd (omega arith)
none_left W b (true ∷ fs) (cons (var n) es) (cons p ps) h z = absurd (omega arith)
none_left W b (true ∷ fs) (cons (app f us) es) (cons p ps) h z = absurd (omega arith)

-- ---- the terms of two words

pub empty-parts : (l m : List ℕ) → l ++ m ≡ [] → (l ≡ []) × (m ≡ [])
empty-parts [] m e = (refl, e)
empty-parts (x ∷ l) m e = absurd (omega (arith, ap length e))

pub pairs-from : (W : Vocabulary) (fs : List Bool) (es ps : Terms) (ks : List ℕ) → length ks ≡ ones fs → SortedAll (signature W) es ks →
    SortedAll (signature W) ps ks → disjoint_all es ps ≡ false → names_all es ≡ [] → Pairs W fs es ps
pairs-from W [] nil nil ks n h k d o = tt
pairs-from W [] nil (cons p ps) [] n h k d o = absurd k
pairs-from W [] nil (cons p ps) (s ∷ ks) n h k d o = absurd h
pairs-from W [] (cons e es) ps [] n h k d o = absurd h
pairs-from W [] (cons e es) ps (s ∷ ks) n h k d o = absurd (omega arith)
pairs-from W (false ∷ fs) es ps ks n h k d o = pairs-from W fs es ps ks (omega arith) h k d o
pairs-from W (true ∷ fs) nil ps [] n h k d o = absurd (omega arith)
pairs-from W (true ∷ fs) nil ps (s ∷ ks) n h k d o = absurd h
pairs-from W (true ∷ fs) (cons e es) nil [] n h k d o = absurd h
pairs-from W (true ∷ fs) (cons e es) nil (s ∷ ks) n h k d o = absurd k
pairs-from W (true ∷ fs) (cons e es) (cons p ps) [] n h k d o = absurd h
pairs-from W (true ∷ fs) (cons e es) (cons p ps) (s ∷ ks) n h k d o =
    let apart = or_parts (disjoint e p) (disjoint_all es ps) d in
    let none = empty-parts (names e) (names_all es) o in (
      record { kind = s; entry = h.0; pattern = k.0; shares = apart.0; nameless = none.0 },
      pairs-from W fs es ps ks (omega arith) h.1 k.1 apart.1 none.1,
    )
