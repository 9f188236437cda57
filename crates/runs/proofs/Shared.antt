-- Shared: words that two lists of bytes share, one by one and by blocks.
--
--   words-node, words_block               one more, and a block more
--   block_more                            two blocks compared: one more byte
--
use mathlib.Core.Path.{◌≡◌, refl, sym, ap, ◌∙◌, subst, subst₂}
use mathlib.Core.Bool.{Bool, true, false}
use mathlib.Core.List.{List}
use Prim.Native.Nat.{ℕ, zero, suc, ◌+◌, ◌-◌, ◌*◌, ◌/◌, ◌%◌, ◌<◌, ◌≤◌}
use native.Mathlib.Omega.{arith}
use lib.Bits.{bit_and, bit_or, bit_xor, xor_add_and, or_add_and, and_le_l, and_le_r, and_high}
use lib.Dec.{ltb}
use lib.ListN.{length, get_or}
use borrow.Author.Tests.{ltb-true, ltb-false}
use Rattle.wire.specs.Map.{map_bytes}
use Rattle.runs.specs.Shared.{SharedNode, SharedWords, SharedBlock}

-- ---- words

module _ (a b : List ℕ) (i j : ℕ) where
  module _ (n : ℕ) (c : SharedWords a b i j n) where
    more : (m : ℕ) → i + n + (1 + map_bytes) * m ≤ length a → j + n + (1 + map_bytes) * m ≤ length b →
        ((k : ℕ) → k < m → SharedNode a b (i + n + (1 + map_bytes) * k) (j + n + (1 + map_bytes) * k)) → SharedWords a b i j (n + (1 + map_bytes) * m)
    more m h k each = record {
      nodes = c.nodes + m;
      whole = omega (arith, c.whole);
      inside_first = λ l. omega arith;
      inside_second = λ l. omega arith;
      each = λ k l. go k l (ltb k c.nodes) refl;
    }
      where
        go : (k : ℕ) → k < c.nodes + m → (t : Bool) → ltb k c.nodes ≡ t → SharedNode a b (i + (1 + map_bytes) * k) (j + (1 + map_bytes) * k)
        go k l true e = c.each k (ltb-true k c.nodes e)
        go k l false e =
            let later = ltb-false k c.nodes e in
            subst₂ (SharedNode a b) (here i k later) (here j k later) (each (k - c.nodes) (omega arith))
          where
            here : (o k : ℕ) → c.nodes ≤ k → o + n + (1 + map_bytes) * (k - c.nodes) ≡ o + (1 + map_bytes) * k
            here o k l = omega (arith, c.whole)

    pub words-node : i + n + (1 + map_bytes) ≤ length a → j + n + (1 + map_bytes) ≤ length b → SharedNode a b (i + n) (j + n) →
        SharedWords a b i j (n + (1 + map_bytes))
    words-node h k node = more 1 h k (λ k l. subst₂ (SharedNode a b) (first i k l) (first j k l) node)
      where
        first : (o k : ℕ) → k < 1 → o + n ≡ o + n + (1 + map_bytes) * k
        first o k l = omega arith

    pub words_block : i + n + 64 ≤ length a → j + n + 64 ≤ length b → SharedBlock a b (i + n) (j + n) 64 → SharedWords a b i j (n + 64)
    words_block h k block = more 32 h k (λ k l. record {
      word = block.words ((1 + map_bytes) * k) (omega arith) (omega arith);
      same = block.same ((1 + map_bytes) * k) (omega arith);
      map = sym (next a (i + n) k) ∙ block.same ((1 + map_bytes) * k + 1) (omega arith) ∙ next b (j + n) k;
    })
      where
        next : (t : List ℕ) (o k : ℕ) → get_or t (o + ((1 + map_bytes) * k + 1)) 0 ≡ get_or t (o + (1 + map_bytes) * k + 1) 0
        next t o k = ap (λ i. get_or t i 0) (let e : o + ((1 + map_bytes) * k + 1) ≡ o + (1 + map_bytes) * k + 1 = omega arith in e)

-- ---- two blocks compared

xor_none : (x y : ℕ) → bit_xor x y ≡ 0 → x ≡ y
xor_none x y e = omega (arith, xor_add_and x y, and_le_l x y, and_le_r x y)

or_none : (d e : ℕ) → bit_or d e ≡ 0 → (d ≡ 0) × (e ≡ 0)
or_none d e h = omega (arith, or_add_and d e, and_le_l d e, and_le_r d e)

unmarked : (x : ℕ) → x < 256 → bit_and x 128 ≡ 0 → x < 128
unmarked x l e =
    let high : bit_and x 128 ≡ x / 128 % 2 * 128 = and_high x 1 7 in
    let few : x / 128 < 2 = omega arith in
    let none = no-bit (x / 128) few (omega arith) in
    omega arith
  where
    no-bit : (q : ℕ) → q < 2 → q % 2 ≡ 0 → q ≡ 0
    no-bit zero l e = refl
    no-bit (suc zero) l e = e
    no-bit (suc (suc q)) l e = absurd (omega arith)

module _ (a b : List ℕ) (i j n : ℕ) {d m : ℕ} (so_far : d ≡ 0 → SharedBlock a b i j n) (byte : get_or a (i + n) 0 < 256) (marks : n % 2 ≡ 0 → m ≡ 128) where
  abbrev x : ℕ
  x = get_or a (i + n) 0

  abbrev y : ℕ
  y = get_or b (j + n) 0

  pub block_more : bit_or d (bit_or (bit_xor x y) (bit_and x m)) ≡ 0 → SharedBlock a b i j (n + 1)
  block_more e =
      let outer = or_none d (bit_or (bit_xor x y) (bit_and x m)) e in
      let inner = or_none (bit_xor x y) (bit_and x m) outer.1 in
      let before = so_far outer.0 in
      record {
        same = last (λ k. get_or a (i + k) 0 ≡ get_or b (j + k) 0) before.same (xor_none x y inner.0);
        words = last (λ k. k % 2 ≡ 0 → get_or a (i + k) 0 < 128) before.words
            (λ even. unmarked x byte (subst (λ m. bit_and x m ≡ 0) (marks even) inner.1));
      }
    where
      last : (P : ℕ → Type 0) → ((k : ℕ) → k < n → P k) → P n → (k : ℕ) → k < n + 1 → P k
      last P before here k l = go (ltb k n) refl
        where
          go : (t : Bool) → ltb k n ≡ t → P k
          go true e = before k (ltb-true k n e)
          go false e = let later = ltb-false k n e in subst P (let q : n ≡ k = omega arith in q) here
