-- Same: nodes that two lists of bytes share, one by one and by blocks.
--
--   same-node       one more, whose word and map are the same
--   same_block      as many more as a part has that is the same
--
use mathlib.Core.Path.{◌≡◌, refl, sym, ap, ◌∙◌}
use mathlib.Core.Bool.{Bool, true, false}
use mathlib.Core.List.{List}
use Prim.Native.Nat.{ℕ, zero, suc, ◌+◌, ◌-◌, ◌*◌, ◌<◌, ◌≤◌}
use native.Mathlib.Omega.{arith}
use lib.Dec.{ltb}
use lib.ListN.{length, get_or, take, drop}
use lib.Seq.{get_or-take, get_or-drop}
use borrow.Author.Tests.{ltb-true, ltb-false}
use Rattle.wire.specs.Map.{map_bytes}
use Rattle.nodes.specs.Same.{SameNodes}

module _ {a b : List ℕ} {n : ℕ} (c : SameNodes a b n) where
  more : (m : ℕ) → n + (1 + map_bytes) * m ≤ length a → n + (1 + map_bytes) * m ≤ length b →
      ((k : ℕ) → k < (1 + map_bytes) * m → get_or a (n + k) 0 ≡ get_or b (n + k) 0) → SameNodes a b (n + (1 + map_bytes) * m)
  more m h k same = record {
    nodes = c.nodes + m;
    whole = omega (arith, c.whole);
    inside_first = h;
    inside_second = k;
    same = λ k l. go k l (ltb k n) refl;
  }
    where
      go : (k : ℕ) → k < n + (1 + map_bytes) * m → (t : Bool) → ltb k n ≡ t → get_or a k 0 ≡ get_or b k 0
      go k l true e = c.same k (ltb-true k n e)
      go k l false e =
          let later = ltb-false k n e in
          let here : n + (k - n) ≡ k = omega arith in
          ap (λ i. get_or a i 0) (sym here) ∙ same (k - n) (omega arith) ∙ ap (λ i. get_or b i 0) here

  pub same-node : n + (1 + map_bytes) ≤ length a → n + (1 + map_bytes) ≤ length b → get_or a n 0 ≡ get_or b n 0 → get_or a (n + 1) 0 ≡ get_or b (n + 1) 0 →
      SameNodes a b (n + (1 + map_bytes))
  same-node h k word map = more 1 h k go
    where
      start : n + 0 ≡ n
      start = omega arith

      go : (k : ℕ) → k < (1 + map_bytes) * 1 → get_or a (n + k) 0 ≡ get_or b (n + k) 0
      go zero l = ap (λ i. get_or a i 0) start ∙ word ∙ ap (λ i. get_or b i 0) (sym start)
      go (suc zero) l = map
      go (suc (suc k)) l = absurd (omega arith)

  pub same_block : (m : ℕ) → n + (1 + map_bytes) * m ≤ length a → n + (1 + map_bytes) * m ≤ length b →
      take (n + (1 + map_bytes) * m - n) (drop n a) ≡ take (n + (1 + map_bytes) * m - n) (drop n b) → SameNodes a b (n + (1 + map_bytes) * m)
  same_block m h k e = more m h k (λ k l. sym (part a k l) ∙ ap (λ l. get_or l k 0) e ∙ part b k l)
    where
      part : (t : List ℕ) (k : ℕ) → k < (1 + map_bytes) * m → get_or (take (n + (1 + map_bytes) * m - n) (drop n t)) k 0 ≡ get_or t (n + k) 0
      part t k l = get_or-take (n + (1 + map_bytes) * m - n) (drop n t) k 0 (omega arith) ∙ get_or-drop n t k 0
