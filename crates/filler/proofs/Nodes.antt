-- Nodes: the bytes of a pattern passed node by node.
--
--   Node                               a word with its written map, a name, or another byte
--   nodes_in skip l                     the nodes of the bytes l behind its first `skip` bytes
--   nodes_of W t, nodes_all W ts, nodes_root W t   the nodes of a term, of the terms at a word's places, of a term at the root
--   pass_word, pass_name, pass_other   one step, at an offset of the pattern
--   nodes-pattern                      the pass meets the nodes of the pattern's term
--
use mathlib.Core.Path.{◌≡◌, refl, sym, ap, ◌∙◌}
use mathlib.Core.Bool.{cond}
use mathlib.Core.List.{List, [], ◌∷◌, ◌++◌, append_assoc, append-nil}
use Prim.Native.Nat.{ℕ, zero, suc, ◌+◌, ◌-◌, ◌<◌, ◌≤◌}
use native.Mathlib.Numerals.{add-one}
use native.Mathlib.Omega.{arith}
use lib.Dec.{ltb}
use lib.ListN.{length, get_or, drop}
use lib.Seq.{drop-cons, drop-drop}
use borrow.Author.Tests.{lt-ltb, le-ltb}
use Rattle.terms.specs.Lists.{All}
use Rattle.terms.specs.Signature.{arguments}
use Rattle.terms.specs.Term.{Term, any, var, app, Terms, nil, cons, names, names_all, Sorted, SortedAll}
use Rattle.terms.proofs.All.{all_left, all_right}
use Rattle.wire.specs.Map.{map_bytes}
use Rattle.wire.specs.Vocabulary.{Vocabulary, InOrder, signature}
use Rattle.wire.specs.TermBytes.{name_count, first_name_byte, name_byte, whole_byte, written_map, encode_at, encode_all, encode_root, GoodTerm}
use Rattle.wire.proofs.Cond.{cond_true, cond_false}
use Rattle.wire.proofs.Words.{length_symbols}
use Rattle.maps.specs.Reading.{map_at}

pub data Node : Type 0 where
  word_node : ℕ → ℕ → Node
  name_node : ℕ → Node
  byte_node : ℕ → Node

-- Where a byte of a word's map is missing the map is 0.
abbrev pub nodes_in : ℕ → List ℕ → List Node
nodes_in skip [] = []
nodes_in (suc skip) (b ∷ l) = nodes_in skip l
nodes_in zero (b ∷ l) =
    cond (ltb b first_name_byte) (word_node b (map_at l 0) ∷ nodes_in map_bytes l)
    (cond (ltb b (name_byte name_count)) (name_node (b - first_name_byte) ∷ nodes_in zero l) (byte_node b ∷ nodes_in zero l))

abbrev mutual
  pub nodes_of : Vocabulary → Term → List Node
  nodes_of W any = []
  nodes_of W (var n) = name_node n ∷ []
  nodes_of W (app f ts) = word_node f (written_map W f ts) ∷ nodes_all W ts

  pub nodes_all : Vocabulary → Terms → List Node
  nodes_all W nil = []
  nodes_all W (cons t ts) = nodes_of W t ++ nodes_all W ts

abbrev pub nodes_root : Vocabulary → Term → List Node
nodes_root W any = byte_node whole_byte ∷ []
nodes_root W (var n) = nodes_of W (var n)
nodes_root W (app f ts) = nodes_of W (app f ts)

-- ---- one step

at-word : (f : ℕ) (l : List ℕ) → f < 128 → nodes_in 0 (f ∷ l) ≡ word_node f (map_at l 0) ∷ nodes_in map_bytes l
at-word f l h = cond_true (ltb f 128) _ _ (lt-ltb f 128 h)

at_name : (b : ℕ) (l : List ℕ) → 128 ≤ b → b < 192 → nodes_in 0 (b ∷ l) ≡ name_node (b - 128) ∷ nodes_in 0 l
at_name b l h k = cond_false (ltb b 128) _ _ (le-ltb b 128 h) ∙ cond_true (ltb b 192) _ _ (lt-ltb b 192 k)

at_other : (b : ℕ) (l : List ℕ) → 192 ≤ b → nodes_in 0 (b ∷ l) ≡ byte_node b ∷ nodes_in 0 l
at_other b l h = cond_false (ltb b 128) _ _ (le-ltb b 128 (omega arith)) ∙ cond_false (ltb b 192) _ _ (le-ltb b 192 h)

skip_map : (l : List ℕ) → nodes_in map_bytes l ≡ nodes_in 0 (drop map_bytes l)
skip_map [] = refl
skip_map (b ∷ l) = refl

module _ (p : List ℕ) (at : ℕ) (inside : at < length p) where
  pub pass_word : get_or p at 0 < 128 → nodes_in 0 (drop at p) ≡ word_node (get_or p at 0) (map_at p (at + 1)) ∷ nodes_in 0 (drop (at + (1 + map_bytes)) p)
  pass_word h =
      ap (nodes_in 0) (drop-cons p at 0 inside)
      ∙ at-word (get_or p at 0) (drop (suc at) p) h
      ∙ ap (λ i. word_node (get_or p at 0) (map_at p i) ∷ nodes_in map_bytes (drop i p)) (sym (add-one at))
      ∙ ap (λ ns. word_node (get_or p at 0) (map_at p (at + 1)) ∷ ns)
      (skip_map (drop (at + 1) p)
      ∙ ap (nodes_in 0) (drop-drop map_bytes (at + 1) p ∙ ap (λ i. drop i p) (let e : at + 1 + map_bytes ≡ at + (1 + map_bytes) = omega arith in e)))

  pub pass_name : 128 ≤ get_or p at 0 → get_or p at 0 < 192 → nodes_in 0 (drop at p) ≡ name_node (get_or p at 0 - 128) ∷ nodes_in 0 (drop (at + 1) p)
  pass_name h k =
      ap (nodes_in 0) (drop-cons p at 0 inside)
      ∙ at_name (get_or p at 0) (drop (suc at) p) h k
      ∙ ap (λ i. name_node (get_or p at 0 - 128) ∷ nodes_in 0 (drop i p)) (sym (add-one at))

  pub pass_other : 192 ≤ get_or p at 0 → nodes_in 0 (drop at p) ≡ byte_node (get_or p at 0) ∷ nodes_in 0 (drop (at + 1) p)
  pass_other h =
      ap (nodes_in 0) (drop-cons p at 0 inside)
      ∙ at_other (get_or p at 0) (drop (suc at) p) h
      ∙ ap (λ i. byte_node (get_or p at 0) ∷ nodes_in 0 (drop i p)) (sym (add-one at))

-- ---- the nodes of a good pattern

module _ (W : Vocabulary) (in_order : InOrder W) where
  mutual
    nodes-at : (t : Term) (s : ℕ) → Sorted (signature W) t s → All (λ n. n < name_count) (names t) → (r : List ℕ) →
        nodes_in 0 (encode_at W t ++ r) ≡ nodes_of W t ++ nodes_in 0 r
    nodes-at any s h a r = refl
    nodes-at (var n) s h a r =
        at_name (name_byte n) r (omega arith) (omega (arith, a.0))
        ∙ ap (λ m. name_node m ∷ nodes_in 0 r) (let e : 128 + n - 128 ≡ n = omega arith in e)
    nodes-at (app f ts) s h a r =
        let few = in_order.few_words in
        let known : f < length W.words = rw (length_symbols W) at h.0 in
        at-word f (written_map W f ts ∷ (encode_all W ts ++ r)) (omega arith)
        ∙ ap (λ ns. word_node f (written_map W f ts) ∷ ns) (nodes-all ts (arguments (signature W) f) h.2 a r)

    nodes-all : (ts : Terms) (ks : List ℕ) → SortedAll (signature W) ts ks → All (λ n. n < name_count) (names_all ts) → (r : List ℕ) →
        nodes_in 0 (encode_all W ts ++ r) ≡ nodes_all W ts ++ nodes_in 0 r
    nodes-all nil ks h a r = refl
    nodes-all (cons t ts) [] h a r = absurd h
    nodes-all (cons t ts) (k ∷ ks) h a r =
        ap (nodes_in 0) (append_assoc (encode_at W t) (encode_all W ts) r)
        ∙ nodes-at t k h.0 (all_left (λ n. n < name_count) (names t) (names_all ts) a) (encode_all W ts ++ r)
        ∙ ap (λ ns. nodes_of W t ++ ns) (nodes-all ts ks h.1 (all_right (λ n. n < name_count) (names t) (names_all ts) a) r)
        ∙ sym (append_assoc (nodes_of W t) (nodes_all W ts) (nodes_in 0 r))

  nodes-alone : (t : Term) (s : ℕ) → Sorted (signature W) t s → All (λ n. n < name_count) (names t) → nodes_in 0 (encode_at W t) ≡ nodes_of W t
  nodes-alone t s h a = ap (nodes_in 0) (sym (append-nil (encode_at W t))) ∙ nodes-at t s h a [] ∙ append-nil (nodes_of W t)

  pub nodes-pattern : (s : ℕ) (t : Term) → GoodTerm W s t → nodes_in 0 (encode_root W t) ≡ nodes_root W t
  nodes-pattern s any good = at_other whole_byte [] (omega arith)
  nodes-pattern s (var n) good = nodes-alone (var n) s good.sorted.sorted good.named
  nodes-pattern s (app f ts) good = nodes-alone (app f ts) s good.sorted.sorted good.named
