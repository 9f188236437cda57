-- Filled: a pattern's nodes written, with its names' values in their places, are the bytes of the result.
--
--   node_bytes g x        the bytes of the node x, where g gives those of a name's value
--   filled-root          the nodes of a term, so written, are the bytes of the term with its names replaced
--
use mathlib.Core.Path.{◌≡◌, refl, sym, ap, ap₂, ◌∙◌}
use mathlib.Core.List.{List, [], ◌∷◌, ◌++◌, append_assoc, append-nil}
use Prim.Native.Nat.{ℕ}
use Rattle.terms.specs.Lists.{All}
use Rattle.terms.specs.Term.{Term, any, var, app, Terms, nil, cons, names, names_all, as_term}
use Rattle.terms.specs.Filling.{Binding, value_of}
use Rattle.terms.specs.Replacing.{replace, replace_all}
use Rattle.terms.proofs.All.{all_left, all_right}
use Rattle.wire.specs.Map.{write_map}
use Rattle.wire.specs.Row.{write_row}
use Rattle.wire.specs.Vocabulary.{Vocabulary}
use Rattle.wire.specs.TermBytes.{encode_at, encode_all, encode_root}
use Rattle.wire.proofs.GroundBytes.{root-ground}
use Rattle.wire.proofs.FilledTerms.{filled-map}
use Rattle.filler.proofs.Nodes.{Node, word_node, name_node, byte_node, nodes_of, nodes_all, nodes_root}

abbrev pub node_bytes : (ℕ → List ℕ) → Node → List ℕ
node_bytes g (word_node f m) = f ∷ write_map m
node_bytes g (name_node n) = g n
node_bytes g (byte_node b) = b ∷ []

-- ---- the nodes of a term

module _ (W : Vocabulary) (bs : List Binding) (g : ℕ → List ℕ) where
  -- What g gives a name.
  abbrev pub Given : ℕ → Type 0
  Given n = g n ≡ encode_at W (as_term (value_of bs n))

  mutual
    filled_at : (t : Term) → All Given (names t) → (ns : List Node) →
        write_row (node_bytes g) (nodes_of W t ++ ns) ≡ encode_at W (replace bs t) ++ write_row (node_bytes g) ns
    filled_at any a ns = refl
    filled_at (var n) a ns = ap (λ l. l ++ write_row (node_bytes g) ns) a.0
    filled_at (app f ts) a ns =
        ap₂ {C = List ℕ} (λ m l. f ∷ (m ∷ l)) (sym (filled-map W bs f ts)) (filled-all ts a ns)

    filled-all : (ts : Terms) → All Given (names_all ts) → (ns : List Node) →
        write_row (node_bytes g) (nodes_all W ts ++ ns) ≡ encode_all W (replace_all bs ts) ++ write_row (node_bytes g) ns
    filled-all nil a ns = refl
    filled-all (cons t ts) a ns =
        ap (write_row (node_bytes g)) (append_assoc (nodes_of W t) (nodes_all W ts) ns)
        ∙ filled_at t (all_left Given (names t) (names_all ts) a) (nodes_all W ts ++ ns)
        ∙ ap (λ l. encode_at W (replace bs t) ++ l) (filled-all ts (all_right Given (names t) (names_all ts) a) ns)
        ∙ sym (append_assoc (encode_at W (replace bs t)) (encode_all W (replace_all bs ts)) (write_row (node_bytes g) ns))

  filled-alone : (t : Term) → All Given (names t) → write_row (node_bytes g) (nodes_of W t) ≡ encode_at W (replace bs t)
  filled-alone t a =
      ap (write_row (node_bytes g)) (sym (append-nil (nodes_of W t))) ∙ filled_at t a [] ∙ append-nil (encode_at W (replace bs t))

  pub filled-root : (t : Term) → All Given (names t) → write_row (node_bytes g) (nodes_root W t) ≡ encode_root W (replace bs t)
  filled-root any a = refl
  filled-root (var n) a = filled-alone (var n) a ∙ sym (root-ground W (value_of bs n))
  filled-root (app f ts) a = filled-alone (app f ts) a
