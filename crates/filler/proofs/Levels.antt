-- Levels: how deep a pattern's nodes stand, by the places that are due.
--
--   levels_in h dues ns       the deepest level of the nodes ns, where a value that stands for the name n has h n levels; dues
--                            says for each place that is due how many levels are above it
--   levels_by h t, levels_all_by h ts   how many levels a term takes, or the terms ts, with values of so many levels
--   levels-own, levels-replaced      those of the term itself, and with its names replaced
--   levels-root              the nodes of a term reach as deep as the term
--
use mathlib.Core.Path.{◌≡◌, refl, ap, ap₂, ◌∙◌}
use mathlib.Core.Bool.{not}
use mathlib.Core.List.{List, [], ◌∷◌, ◌++◌, append_assoc, append-nil}
use Prim.Native.Nat.{ℕ, zero, suc, ◌+◌, max}
use native.Mathlib.Omega.{arith}
use lib.ListN.{replicate}
use Rattle.terms.specs.Lists.{All}
use Rattle.terms.specs.Signature.{arguments}
use Rattle.terms.specs.Term.{Term, any, var, app, Terms, nil, cons, as_term, names, names_all, Sorted, SortedAll}
use Rattle.terms.specs.Filling.{Binding, value_of}
use Rattle.terms.specs.Replacing.{replace, replace_all}
use Rattle.terms.proofs.All.{all_left, all_right}
use Rattle.wire.specs.Map.{flags, ones, bit, is_open}
use Rattle.wire.specs.Vocabulary.{Vocabulary, InOrder, signature}
use Rattle.wire.specs.TermBytes.{levels, levels_all, most_levels}
use Rattle.wire.proofs.EntryCut.{written, map-ones}
use Rattle.filler.proofs.Nodes.{Node, word_node, name_node, byte_node, nodes_of, nodes_all, nodes_root}

-- A node for which no place is due is too deep.
abbrev pub levels_in : (ℕ → ℕ) → List ℕ → List Node → ℕ
levels_in h dues [] = 0
levels_in h [] (x ∷ ns) = suc most_levels
levels_in h (d ∷ ds) (word_node f m ∷ ns) = max (suc d) (levels_in h (replicate (ones (flags m)) (suc d) ++ ds) ns)
levels_in h (d ∷ ds) (name_node n ∷ ns) = max (d + h n) (levels_in h ds ns)
levels_in h (d ∷ ds) (byte_node b ∷ ns) = max (suc d) (levels_in h ds ns)

-- ---- the levels of a term

abbrev mutual
  pub levels_by : (ℕ → ℕ) → Term → ℕ
  levels_by h any = 0
  levels_by h (var n) = h n
  levels_by h (app f ts) = suc (levels_all_by h ts)

  pub levels_all_by : (ℕ → ℕ) → Terms → ℕ
  levels_all_by h nil = 0
  levels_all_by h (cons t ts) = max (levels_by h t) (levels_all_by h ts)

mutual
  pub levels-own : (t : Term) → levels_by (λ n. 1) t ≡ levels t
  levels-own any = refl
  levels-own (var n) = refl
  levels-own (app f ts) = ap suc (levels_own_all ts)

  levels_own_all : (ts : Terms) → levels_all_by (λ n. 1) ts ≡ levels_all ts
  levels_own_all nil = refl
  levels_own_all (cons t ts) = ap₂ max (levels-own t) (levels_own_all ts)

module _ (bs : List Binding) (h : ℕ → ℕ) where
  -- What h says of the value of a name.
  abbrev pub Deep : ℕ → Type 0
  Deep n = h n ≡ levels (as_term (value_of bs n))

  mutual
    pub levels-replaced : (t : Term) → All Deep (names t) → levels_by h t ≡ levels (replace bs t)
    levels-replaced any a = refl
    levels-replaced (var n) a = a.0
    levels-replaced (app f ts) a = ap suc (levels_replaced_all ts a)

    levels_replaced_all : (ts : Terms) → All Deep (names_all ts) → levels_all_by h ts ≡ levels_all (replace_all bs ts)
    levels_replaced_all nil a = refl
    levels_replaced_all (cons t ts) a =
        ap₂ max (levels-replaced t (all_left Deep (names t) (names_all ts) a)) (levels_replaced_all ts (all_right Deep (names t) (names_all ts) a))

-- ---- the nodes of a term

replicate_add : (n m d : ℕ) → replicate (n + m) d ≡ replicate n d ++ replicate m d
replicate_add zero m d = ap (λ (k : ℕ). replicate k d) (let e : 0 + m ≡ m = omega arith in e)
replicate_add (suc n) m d =
    ap (λ (k : ℕ). replicate k d) (let e : suc n + m ≡ suc (n + m) = omega arith in e)
    ∙ ap {B = List ℕ} (λ l. d ∷ l) (replicate_add n m d)

max_join : (d l m x y z : ℕ) → max d x ≡ max (d + l) y → max d y ≡ max (d + m) z → max d x ≡ max (d + max l m) z
max_join d l m x y z e f = omega arith

module _ (W : Vocabulary) (in_order : InOrder W) (h : ℕ → ℕ) where
  mutual
    levels-at : (t : Term) (s : ℕ) → Sorted (signature W) t s → (d : ℕ) (ds : List ℕ) (ns : List Node) →
        max d (levels_in h (replicate (bit (not (is_open t))) d ++ ds) (nodes_of W t ++ ns)) ≡ max (d + levels_by h t) (levels_in h ds ns)
    levels-at any s k d ds ns = ap (λ (n : ℕ). max n (levels_in h ds ns)) (let e : d ≡ d + 0 = omega arith in e)
    levels-at (var n) s k d ds ns = omega arith
    levels-at (app f ts) s k d ds ns =
        let below = levels-all ts (arguments (signature W) f) k.2 (suc d) ds ns in
        let many = ap (λ (n : ℕ). levels_in h (replicate n (suc d) ++ ds) (nodes_all W ts ++ ns)) (map-ones W in_order f ts s k) in
        omega arith

    levels-all : (ts : Terms) (ks : List ℕ) → SortedAll (signature W) ts ks → (d : ℕ) (ds : List ℕ) (ns : List Node) →
        max d (levels_in h (replicate (written ts) d ++ ds) (nodes_all W ts ++ ns)) ≡ max (d + levels_all_by h ts) (levels_in h ds ns)
    levels-all nil ks k d ds ns = ap (λ (n : ℕ). max n (levels_in h ds ns)) (let e : d ≡ d + 0 = omega arith in e)
    levels-all (cons t ts) [] k d ds ns = absurd k
    levels-all (cons t ts) (j ∷ ks) k d ds ns =
        let b : ℕ = bit (not (is_open t)) in
        let dues : replicate (b + written ts) d ++ ds ≡ replicate b d ++ (replicate (written ts) d ++ ds) =
        ap (λ l. l ++ ds) (replicate_add b (written ts) d) ∙ append_assoc (replicate b d) (replicate (written ts) d) ds in
        let nodes = append_assoc (nodes_of W t) (nodes_all W ts) ns in
        ap₂ (λ l r. max d (levels_in h l r)) dues nodes
        ∙ max_join d (levels_by h t) (levels_all_by h ts) _ _ _
        (levels-at t j k.0 d (replicate (written ts) d ++ ds) (nodes_all W ts ++ ns)) (levels-all ts ks k.1 d ds ns)

  levels-alone : (t : Term) (s : ℕ) → Sorted (signature W) t s → levels_in h (replicate (bit (not (is_open t))) 0 ++ []) (nodes_of W t) ≡ levels_by h t
  levels-alone t s k =
      let e = levels-at t s k 0 [] [] in
      let nodes = ap (levels_in h (replicate (bit (not (is_open t))) 0 ++ [])) (append-nil (nodes_of W t)) in
      omega arith

  pub levels-root : (t : Term) (s : ℕ) → Sorted (signature W) t s → max 1 (levels_in h (0 ∷ []) (nodes_root W t)) ≡ max 1 (levels_by h t)
  levels-root any s k = refl
  levels-root (var n) s k = ap (max 1) (levels-alone (var n) s k)
  levels-root (app f ts) s k = ap (max 1) (levels-alone (app f ts) s k)
