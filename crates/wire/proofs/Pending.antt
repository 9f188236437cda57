-- Pending: where a ground term ends is found by counting the terms that are still due.
--
--   Pending W s end i k     k ground terms stand from place i to place end of the bytes s, one behind the other
--   pending_begins          one term is due at its first byte
--   pending_turn            a node takes its bytes, and its arguments are due instead
--   pending_ends            nothing is due at the end, and only there
--
use mathlib.Core.Path.{◌≡◌, refl, sym, ap, ap₂, ◌∙◌}
use mathlib.Core.List.{List, [], ◌∷◌, ◌++◌, append-nil}
use Prim.Native.Nat.{ℕ, suc, ◌+◌, ◌≤◌, ◌<◌}
use native.Mathlib.Omega.{arith}
use lib.ListN.{length, get_or, drop, length-append, length-drop}
use lib.Seq.{drop-drop, drop_at, get_or-drop}
use Rattle.terms.specs.Signature.{arguments}
use Rattle.terms.specs.Term.{Ground, gapp, Grounds, gnil, gcons, SortedG, SortedGs, as_term, as_terms}
use Rattle.wire.specs.Map.{map_bytes, write_map, flags, ones}
use Rattle.wire.specs.Vocabulary.{Vocabulary, signature, map_of, InOrder}
use Rattle.wire.specs.TermBytes.{encode_at, encode_all}
use Rattle.wire.specs.Matching.{size}
use Rattle.wire.proofs.GroundBytes.{joined, joined-sorted, known-word, count-arguments, first-node}

pub record Pending (W : Vocabulary) (s : List ℕ) (end i k : ℕ) : Type 0 where
  pub terms : Grounds
  pub sorts : List ℕ
  pub sorted : SortedGs (signature W) terms sorts
  pub many : k ≡ length sorts
  pub bytes : drop i s ≡ encode_all W (as_terms terms) ++ drop end s
  pub placed : i + length (encode_all W (as_terms terms)) ≡ end
  pub inside : end ≤ length s

-- The node at place i, and what is due behind it.
pub record Turn (W : Vocabulary) (s : List ℕ) (end i k : ℕ) : Type 0 where
  pub symbol : ℕ
  pub known : symbol < length W.words
  pub node : drop i s ≡ symbol ∷ (write_map (map_of W symbol) ++ drop (i + 1 + map_bytes) s)
  pub first : get_or s i 0 ≡ symbol
  pub map : get_or s (i + 1) 0 ≡ map_of W symbol
  pub below : i + 1 + map_bytes ≤ end
  pub next : Pending W s end (i + 1 + map_bytes) (ones (flags (map_of W symbol)) + k)

pub pending_begins : (W : Vocabulary) (s : List ℕ) (at : ℕ) (g : Ground) (k : ℕ) (r : List ℕ) → SortedG (signature W) g k →
    drop at s ≡ encode_at W (as_term g) ++ r → at ≤ length s → Pending W s (at + size W g) at 1
pending_begins W s at g k r h e l = record {
  terms = gcons g gnil;
  sorts = k ∷ [];
  sorted = (h, tt);
  many = refl;
  bytes = e ∙ ap₂ ◌++◌ (sym (append-nil (encode_at W (as_term g)))) behind;
  placed = ap (λ (b : List ℕ). at + length b) (append-nil (encode_at W (as_term g)));
  inside = omega (arith, ap length e, length-drop at s, length-append (encode_at W (as_term g)) r);
}
  where
    behind : r ≡ drop (at + size W g) s
    behind =
        sym (drop_at (encode_at W (as_term g)) r (size W g) refl)
        ∙ ap (drop (size W g)) (sym e) ∙ drop-drop (size W g) at s

pub pending_turn : (W : Vocabulary) → InOrder W → (s : List ℕ) (end i k : ℕ) → Pending W s end i (suc k) → Turn W s end i k
pending_turn W in_order s end i k p = go p.terms p.sorts p.sorted p.many p.bytes p.placed
  where
    go : (gs : Grounds) (ks : List ℕ) → SortedGs (signature W) gs ks → suc k ≡ length ks →
        drop i s ≡ encode_all W (as_terms gs) ++ drop end s → i + length (encode_all W (as_terms gs)) ≡ end → Turn W s end i k
    go gnil [] h m e q = absurd (omega arith)
    go gnil (x ∷ ks) h m e q = absurd h
    go (gcons (gapp f hs) gs) [] h m e q = absurd h
    go (gcons (gapp f hs) gs) (x ∷ ks) h m e q = record {
      symbol = f;
      known = known;
      node = node ∙ ap {B = List ℕ} (λ l. f ∷ (map_of W f ∷ l)) (sym rest);
      first = ap (λ (c : ℕ). get_or s c 0) (let c : i ≡ i + 0 = omega arith in c) ∙ sym (get_or-drop i s 0 0) ∙ ap (λ (l : List ℕ). get_or l 0 0) node;
      map = sym (get_or-drop i s 1 0) ∙ ap (λ (l : List ℕ). get_or l 1 0) node;
      below = omega (arith, long);
      next = record {
        terms = joined hs gs;
        sorts = arguments (signature W) f ++ ks;
        sorted = joined-sorted (signature W) hs gs (arguments (signature W) f) ks h.0.2 h.1;
        many = omega (arith, length-append (arguments (signature W) f) ks, count-arguments W in_order f known);
        bytes = rest;
        placed = omega (arith, long);
        inside = p.inside;
      };
    }
      where
        known : f < length W.words
        known = known-word W in_order f hs x h.0

        node : drop i s ≡ f ∷ (write_map (map_of W f) ++ (encode_all W (as_terms (joined hs gs)) ++ drop end s))
        node = e ∙ first-node W in_order f hs gs x (drop end s) h.0

        rest : drop (i + 1 + map_bytes) s ≡ encode_all W (as_terms (joined hs gs)) ++ drop end s
        rest = ap (λ (c : ℕ). drop c s) (let c : i + 1 + map_bytes ≡ i + 2 = omega arith in c) ∙ sym (drop-drop 2 i s) ∙ ap (drop 2) node

        long : length (encode_all W (as_terms (gcons (gapp f hs) gs))) ≡ 2 + length (encode_all W (as_terms (joined hs gs)))
        long =
            let l = ap length (first-node W in_order f hs gs x [] h.0) in
            omega (arith, length-append (encode_all W (as_terms (gcons (gapp f hs) gs))) [], length-append (encode_all W (as_terms (joined hs gs))) [])

pub pending_ends : (W : Vocabulary) (s : List ℕ) (end i : ℕ) → Pending W s end i 0 → i ≡ end
pending_ends W s end i p = go p.terms p.sorts p.sorted p.many p.placed
  where
    go : (gs : Grounds) (ks : List ℕ) → SortedGs (signature W) gs ks → 0 ≡ length ks → i + length (encode_all W (as_terms gs)) ≡ end → i ≡ end
    go gnil ks h m q = omega arith
    go (gcons g gs) [] h m q = absurd h
    go (gcons g gs) (x ∷ ks) h m q = absurd (omega arith)
