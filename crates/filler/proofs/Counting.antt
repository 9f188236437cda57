-- Counting: how long what the pattern's nodes from an offset on give is; both loops that measure the result count so.
--
--   short                                    the pattern's bytes are few
--   Counted                                  the nodes before an offset are counted
--   counted_none                             the kind byte alone is
--   counted-word, counted-name, counted-byte the turns
--   counted-large                            a name whose value is too long
--   counted-all                              behind the last byte all is counted
--   too_long, too_deep_lem, fitting              what measuring gives, by the result's length and levels
--   counted-over, counted-whole              behind the last byte, by the length alone
--
use mathlib.Core.Path.{◌≡◌, sym, ap, ◌∙◌}
use mathlib.Core.List.{List, ◌∷◌}
use Prim.Native.Nat.{ℕ, ◌+◌, ◌-◌, ◌*◌, ◌<◌, ◌≤◌}
use native.Mathlib.Omega.{arith}
use lib.Dec.{ltb}
use lib.ListN.{length, get_or, drop, length-append, drop_of_length-le}
use borrow.Author.Tests.{lt-ltb, le-ltb}
use Rattle.std.specs.Prelude.{Some, None}
use Rattle.terms.proofs.Bools.{or_left, or_right, or_neither}
use Rattle.wire.specs.Map.{map_bytes}
use Rattle.wire.specs.TermBytes.{deepest}
use Rattle.wire.specs.Row.{write_row}
use Rattle.wire.specs.Filled.{FillInputs, filled_term, filled_bytes}
use Rattle.wire.specs.FillComputed.{large}
use Rattle.wire.proofs.Cond.{cond_true, cond_false}
use Rattle.filler.specs.Ready.{Ready, Measurable, measured}
use Rattle.filler.proofs.Nodes.{Node, nodes_in, pass_word, pass_name, pass_other}
use Rattle.filler.proofs.Filled.{node_bytes}
use Rattle.filler.proofs.Starts.{cut_value, cut-size}
use Rattle.filler.proofs.Begun.{bytes_from, bytes-all}

pub record Counted {p b starts depths : List ℕ} (a : Ready p b starts depths) (n i : ℕ) : Type 0 where
  pub few : n ≤ 4096 * i
  pub long : n + length (bytes_from p b starts i) ≡ length (filled_bytes a.inputs)

module _ {p b starts depths : List ℕ} (a : Ready p b starts depths) where
  abbrev g : ℕ → List ℕ
  g = cut_value b starts

  pub short : length p ≤ 4096
  short = a.held.pattern.limits.most

  pub counted_none : Counted a 1 1
  counted_none = record { few = omega arith; long = omega (arith, ap length (bytes-all a)) }

  module _ {n i : ℕ} (m : Counted a n i) where
    pub counted-all : length p ≤ i → n ≡ length (filled_bytes a.inputs)
    counted-all k =
        let e = ap (λ l. length (write_row (node_bytes g) (nodes_in 0 l))) (drop_of_length-le p {i = i} k) in
        omega (arith, m.long)

    -- A node y is passed.
    module _ (y : Node) (i' : ℕ) (e : nodes_in 0 (drop i p) ≡ y ∷ nodes_in 0 (drop i' p)) where
      length-node : length (bytes_from p b starts i) ≡ length (node_bytes g y) + length (bytes_from p b starts i')
      length-node = ap (λ r. length (write_row (node_bytes g) r)) e ∙ length-append (node_bytes g y) (bytes_from p b starts i')

      counted-more : {n' : ℕ} → n' ≡ n + length (node_bytes g y) → n' ≤ 4096 * i' → Counted a n' i'
      counted-more count few = record { few = few; long = omega (arith, m.long, length-node) }

    module _ (inside : i < length p) where
      abbrev c : ℕ
      c = get_or p i 0

      pub counted-word : c < 128 → Counted a (n + (1 + map_bytes)) (i + (1 + map_bytes))
      counted-word low = counted-more _ _ (pass_word p i inside low) (omega arith) (omega (arith, m.few))

      module _ (low : 128 ≤ c) (high : c < 192) where
        abbrev size : ℕ
        size = get_or starts (c - 128 + 1) 0 - get_or starts (c - 128) 0

        length-name : length (g (c - 128)) ≡ size
        length-name = cut-size a (c - 128) (omega arith)

        pub counted-large : 4096 < size → 4096 < length (filled_bytes a.inputs)
        counted-large h = omega (arith, m.long, length-node _ (i + 1) (pass_name p i inside low high), length-name)

        pub counted-name : size ≤ 4096 → Counted a (n + size) (i + 1)
        counted-name h = counted-more _ _ (pass_name p i inside low high) (omega (arith, length-name)) (omega (arith, m.few))

      pub counted-byte : 192 ≤ c → Counted a (n + 1) (i + 1)
      counted-byte high = counted-more _ _ (pass_other p i inside high) (omega arith) (omega (arith, m.few))

-- ---- what measuring gives

module _ {p starts depths : List ℕ} {reach : ℕ} (a : Measurable p starts depths reach) where
  abbrev x : FillInputs
  x = a.ready.inputs

  pub too_long : 4096 < length (filled_bytes x) → None ≡ measured a
  too_long h = sym (cond_true (large x) _ _ (or_left _ _ (lt-ltb 4096 (length (filled_bytes x)) h)))

  pub too_deep_lem : 32 < deepest (filled_term x) → None ≡ measured a
  too_deep_lem h = sym (cond_true (large x) _ _ (or_right (ltb 4096 (length (filled_bytes x))) _ (lt-ltb 32 (deepest (filled_term x)) h)))

  pub fitting : length (filled_bytes x) ≤ 4096 → deepest (filled_term x) ≤ 32 → Some (length (filled_bytes x)) ≡ measured a
  fitting h k =
      sym (cond_false (large x) _ _ (or_neither _ _ (le-ltb 4096 (length (filled_bytes x)) h) (le-ltb 32 (deepest (filled_term x)) k)))

  module _ {n i : ℕ} (m : Counted a.ready n i) (k : length p ≤ i) where
    pub counted-over : 4096 < n → None ≡ measured a
    counted-over h = too_long (omega (arith, counted-all a.ready m k))

    pub counted-whole : n ≤ 4096 → deepest (filled_term x) ≤ 32 → Some n ≡ measured a
    counted-whole h d = ap Some (counted-all a.ready m k) ∙ fitting (omega (arith, counted-all a.ready m k)) d
