-- TermBytes: what is written of a good term is bytes.
--
--   term-bytes     the bytes of a good term
--
use mathlib.Core.List.{List, [], ◌∷◌}
use Prim.Native.Nat.{ℕ, ◌<◌}
use native.Mathlib.Omega.{arith}
use lib.Dec.{lit<}
use lib.ListN.{length}
use Rattle.terms.specs.Lists.{All}
use Rattle.terms.specs.Signature.{arguments}
use Rattle.terms.specs.Term.{Term, any, var, app, Terms, nil, cons, Sorted, SortedAll, names, names_all}
use Rattle.terms.proofs.All.{all_append, all_left, all_right}
use Rattle.wire.specs.Reply.{IsBytes}
use Rattle.wire.specs.Map.{write_map}
use Rattle.wire.specs.Vocabulary.{Vocabulary, signature, map_of, InOrder}
use Rattle.wire.specs.TermBytes.{name_count, written_map, encode_at, encode_all, encode_root, encode_term, GoodTerm}
use Rattle.wire.proofs.Map.{write-map_bytes, written_lt}
use Rattle.wire.proofs.Words.{length_symbols}

abbrev Low : ℕ → Type 0
Low n = n < name_count

module _ (W : Vocabulary) (in_order : InOrder W) where
  mutual
    at-bytes : (t : Term) (s : ℕ) → Sorted (signature W) t s → All Low (names t) → IsBytes (encode_at W t)
    at-bytes any s h a = tt
    at-bytes (var n) s h a = let low = a.0 in (omega arith, tt)
    at-bytes (app f ts) s h a =
        let few = in_order.few_words in
        let known : f < length W.words = rw (length_symbols W) at h.0 in (
          omega arith,
          all_append (λ b. b < 256) (write_map (written_map W f ts)) (encode_all W ts) (write-map_bytes (written_map W f ts) (written_lt (map_of W f) ts))
              (all-bytes ts (arguments (signature W) f) h.2 a),
        )

    all-bytes : (ts : Terms) (ks : List ℕ) → SortedAll (signature W) ts ks → All Low (names_all ts) → IsBytes (encode_all W ts)
    all-bytes nil ks h a = tt
    all-bytes (cons t ts) [] h a = absurd h
    all-bytes (cons t ts) (k ∷ ks) h a =
        all_append (λ b. b < 256) (encode_at W t) (encode_all W ts) (at-bytes t k h.0 (all_left Low (names t) (names_all ts) a))
        (all-bytes ts ks h.1 (all_right Low (names t) (names_all ts) a))

  root-bytes : (t : Term) (s : ℕ) → Sorted (signature W) t s → All Low (names t) → IsBytes (encode_root W t)
  root-bytes any s h a = (lit< tt, tt)
  root-bytes (var n) s h a = at-bytes (var n) s h a
  root-bytes (app f ts) s h a = at-bytes (app f ts) s h a

  pub term-bytes : (s : ℕ) (t : Term) → GoodTerm W s t → IsBytes (encode_term W s t)
  term-bytes s t good =
      let few = in_order.few_kinds in
      let known = good.kind in
      (omega arith, root-bytes t s good.sorted.sorted good.named)
