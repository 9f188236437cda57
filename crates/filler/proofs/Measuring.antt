-- Measuring: the loop that measures the result and its levels: how deep what the pattern's nodes from an offset on give is.
--
--   below due depth, dues due depth left   the places that are due, by how many are left of each word above: each with the
--                                          number of levels above it
--   Measuring                              the invariant
--   measuring_none                         it holds before the first node
--   measuring_above, measuring_low         there is a word above where no place is left, and no more than 31 above a word
--   measuring_pop, measuring_leaf, measuring_word, measuring_name, measuring_byte   the turns
--   measuring_large, measuring_deep        a name whose value passes a limit
--   measuring_long, measuring_all          behind the last byte all is measured
--
use mathlib.Core.Path.{◌≡◌, refl, sym, ap, ap₂, ◌∙◌}
use mathlib.Core.Bool.{Bool, true, false}
use mathlib.Core.List.{List, [], ◌∷◌, ◌++◌}
use Prim.Native.Nat.{ℕ, zero, suc, ◌+◌, ◌-◌, ◌<◌, ◌≤◌, max}
use native.Mathlib.Numerals.{add-one}
use native.Mathlib.Omega.{arith}
use lib.Dec.{ltb}
use lib.ListN.{length, get_or, drop, set, replicate, length-set, drop_of_length-le}
use lib.Seq.{get_or-set_same, get_or-set_other}
use borrow.Author.Tests.{ltb-true, ltb-false}
use Rattle.std.specs.Prelude.{Some, None}
use Rattle.wire.specs.Map.{map_bytes, flags, ones}
use Rattle.wire.specs.TermBytes.{deepest}
use Rattle.wire.specs.Filled.{FillInputs, filled_term}
use Rattle.maps.specs.Reading.{map_at}
use Rattle.filler.specs.Ready.{Measurable, measured}
use Rattle.filler.proofs.Nodes.{Node, word_node, name_node, byte_node, nodes_in, pass_word, pass_name, pass_other, nodes-pattern}
use Rattle.filler.proofs.Levels.{levels_in, levels_by, levels-own, levels-replaced, levels-root}
use Rattle.filler.proofs.Starts.{depth_values}
use Rattle.filler.proofs.Counting.{Counted, counted_none, counted-word, counted-large, counted-name, counted-byte, counted-over, counted-whole, too_long, too_deep_lem}

-- ---- the places that are due

abbrev pub below : List ℕ → ℕ → List ℕ
below due zero = []
below due (suc e) = replicate (get_or due e 0) e ++ below due e

abbrev pub dues : List ℕ → ℕ → ℕ → List ℕ
dues due depth left = replicate left depth ++ below due depth

below_set : (due : List ℕ) (e k v : ℕ) → e ≤ k → below (set due k v) e ≡ below due e
below_set due zero k v h = refl
below_set due (suc e) k v h =
    ap₂ (λ n l. replicate n e ++ l) (get_or-set_other due k e v 0 (λ same. omega arith)) (below_set due e k v (omega arith))

-- The first of the places of a word.
dues_first : (due : List ℕ) (depth left : ℕ) → 0 < left → dues due depth left ≡ depth ∷ dues due depth (left - 1)
dues_first due depth left h = ap (dues due depth) (let e : left ≡ suc (left - 1) = omega arith in e)

-- Where a word's places are done, those of the word above are due.
dues_pop : (due : List ℕ) (depth : ℕ) → 0 < depth → dues due depth 0 ≡ dues due (depth - 1) (get_or due (depth - 1) 0)
dues_pop due depth h = ap (below due) (let e : depth ≡ suc (depth - 1) = omega arith in e)

dues_push : (due : List ℕ) (depth left many : ℕ) → depth < length due →
    replicate many (suc depth) ++ dues due depth left ≡ dues (set due depth left) (depth + 1) many
dues_push due depth left many h =
    ap (λ l. replicate many (suc depth) ++ l)
    (ap₂ (λ n l. replicate n depth ++ l) (sym (get_or-set_same due depth left 0 h)) (sym (below_set due depth depth left (omega arith))))
    ∙ ap (λ d. dues (set due depth left) d many) (sym (add-one depth))

-- ---- the loop

pub record Measuring {p starts depths : List ℕ} {reach : ℕ} (a : Measurable p starts depths reach) (due : List ℕ) (depth left n i : ℕ) : Type 0 where
  pub room : length due ≡ 32
  pub low : depth ≤ 32
  -- The pattern's own levels.
  pub shallow : levels_in (λ m. 1) (dues due depth left) (nodes_in 0 (drop i p)) ≤ 32
  pub deep : max 32 (deepest (filled_term a.ready.inputs)) ≡ max 32 (levels_in (λ m. get_or depths m 0) (dues due depth left) (nodes_in 0 (drop i p)))
  pub counted : Counted a.ready n i

module _ {p starts depths : List ℕ} {reach : ℕ} (a : Measurable p starts depths reach) where
  abbrev x : FillInputs
  x = a.ready.inputs

  abbrev own : ℕ → ℕ
  own n = 1

  abbrev given : ℕ → ℕ
  given n = get_or depths n 0

  reached : (h : ℕ → ℕ) → max 1 (levels_in h (0 ∷ []) (nodes_in 0 (drop 1 p))) ≡ max 1 (levels_by h x.pattern)
  reached h =
      let in_order = a.ready.held.vocabulary.in_order in
      let good = a.ready.held.pattern.good in
      ap (λ l. max 1 (levels_in h (0 ∷ []) (nodes_in 0 (drop 1 l)))) a.ready.held.pattern.written
      ∙ ap (λ ns. max 1 (levels_in h (0 ∷ []) ns)) (nodes-pattern x.vocabulary in_order x.kind x.pattern good)
      ∙ levels-root x.vocabulary in_order h x.pattern x.kind good.sorted.sorted

  pub measuring_none : Measuring a (replicate 32 0) 0 1 1 1
  measuring_none = record {
    room = refl;
    low = omega arith;
    shallow = let e = reached own in omega (arith, levels-own x.pattern, a.ready.held.pattern.limits.levels);
    deep = let e = reached given in omega (arith, levels-replaced x.values given x.pattern (depth_values a.ready));
    counted = counted_none a.ready;
  }

  module _ {due : List ℕ} {depth left n i : ℕ} (m : Measuring a due depth left n i) where
    -- Behind the last byte.
    pub measuring_long : length p ≤ i → 4096 < n → None ≡ measured a
    measuring_long k h = counted-over a m.counted k h

    pub measuring_all : length p ≤ i → n ≤ 4096 → Some n ≡ measured a
    measuring_all k h =
        let e = ap (λ l. levels_in given (dues due depth left) (nodes_in 0 l)) (drop_of_length-le p {i = i} k) in
        counted-whole a m.counted k h (omega (arith, m.deep))

    module _ (inside : i < length p) where
      abbrev c : ℕ
      c = get_or p i 0

      abbrev ns : List Node
      ns = nodes_in 0 (drop i p)

      some_node : (y : Node) × (l : List Node) × (ns ≡ y ∷ l)
      some_node = go (ltb c 128) (ltb c 192) refl refl
        where
          go : (s t : Bool) → ltb c 128 ≡ s → ltb c 192 ≡ t → (y : Node) × (l : List Node) × (ns ≡ y ∷ l)
          go true t e f = (_, _, pass_word p i inside (ltb-true c 128 e))
          go false true e f = (_, _, pass_name p i inside (ltb-false c 128 e) (ltb-true c 192 f))
          go false false e f = (_, _, pass_other p i inside (ltb-false c 192 f))

      pub measuring_above : left ≡ 0 → 0 < depth
      measuring_above e = go depth refl
        where
          go : (d : ℕ) → depth ≡ d → 0 < depth
          go zero f =
              let (y, l, q) = some_node in
              let none = ap₂ (λ ds ns. levels_in own ds ns) (ap₂ (dues due) f e) q in
              absurd (omega (arith, m.shallow))
          go (suc d) f = omega arith

      pub measuring_pop : left ≡ 0 → Measuring a due (depth - 1) (get_or due (depth - 1) 0) n i
      measuring_pop e =
          let same : dues due depth left ≡ dues due (depth - 1) (get_or due (depth - 1) 0) = ap (dues due depth) e ∙ dues_pop due depth (measuring_above e) in
          record {
            room = m.room;
            low = omega (arith, m.low);
            shallow = rw same at m.shallow;
            deep = m.deep ∙ ap (λ ds. max 32 (levels_in given ds ns)) same;
            counted = m.counted;
          }

      -- A node y is passed, and no level of its own is too deep.
      module _ (some : 0 < left) (y : Node) (i' : ℕ) (e : ns ≡ y ∷ nodes_in 0 (drop i' p)) where
        levels-node : (h : ℕ → ℕ) → levels_in h (dues due depth left) ns ≡ levels_in h (depth ∷ dues due depth (left - 1)) (y ∷ nodes_in 0 (drop i' p))
        levels-node h = ap₂ (levels_in h) (dues_first due depth left some) e

        measuring_more : {due' : List ℕ} {depth' left' n' : ℕ} (k : (ℕ → ℕ) → ℕ) →
            ((h : ℕ → ℕ) → levels_in h (depth ∷ dues due depth (left - 1)) (y ∷ nodes_in 0 (drop i' p))
            ≡ max (k h) (levels_in h (dues due' depth' left') (nodes_in 0 (drop i' p)))) →
            k given ≤ 32 → length due' ≡ 32 → depth' ≤ 32 → Counted a.ready n' i' → Measuring a due' depth' left' n' i'
        measuring_more {due'} {depth'} {left'} {n'} k turned small room low counted = record {
          room = room;
          low = low;
          shallow = let t = turned own in omega (arith, m.shallow, levels-node own);
          deep = let t = turned given in omega (arith, m.deep, levels-node given);
          counted = counted;
        }

      module _ (some : 0 < left) (low : c < 128) where
        abbrev next : ℕ
        next = i + (1 + map_bytes)

        word : ns ≡ word_node c (map_at p (i + 1)) ∷ nodes_in 0 (drop next p)
        word = pass_word p i inside low

        pub measuring_low : depth < 32
        measuring_low = omega (arith, m.shallow, levels-node some _ next word own)

        pub measuring_leaf : map_at p (i + 1) ≡ 0 → Measuring a due depth (left - 1) (n + (1 + map_bytes)) next
        measuring_leaf none =
            measuring_more some _ next word (λ h. suc depth)
            (λ h. ap (λ (f : ℕ). max (suc depth) (levels_in h (replicate (ones (flags f)) (suc depth) ++ dues due depth (left - 1)) (nodes_in 0 (drop next p)))) none)
            measuring_low m.room m.low (counted-word a.ready m.counted inside low)

        pub measuring_word : {many : ℕ} → many ≡ ones (flags (map_at p (i + 1))) →
            Measuring a (set due depth (left - 1)) (depth + 1) many (n + (1 + map_bytes)) next
        measuring_word {many} e =
            measuring_more some _ next word (λ h. suc depth)
            (λ h.
            ap (λ ds. max (suc depth) (levels_in h ds (nodes_in 0 (drop next p))))
            (ap (λ (k : ℕ). replicate k (suc depth) ++ dues due depth (left - 1)) (sym e)
            ∙ dues_push due depth (left - 1) many (omega (arith, m.room, measuring_low))))
            measuring_low (length-set due depth (left - 1) ∙ m.room) (omega (arith, measuring_low)) (counted-word a.ready m.counted inside low)

      module _ (some : 0 < left) (low : 128 ≤ c) (high : c < 192) where
        abbrev size : ℕ
        size = get_or starts (c - 128 + 1) 0 - get_or starts (c - 128) 0

        name : ns ≡ name_node (c - 128) ∷ nodes_in 0 (drop (i + 1) p)
        name = pass_name p i inside low high

        pub measuring_large : 4096 < size → None ≡ measured a
        measuring_large h = too_long a (counted-large a.ready m.counted inside low high h)

        pub measuring_deep : 32 < depth + get_or depths (c - 128) 0 → None ≡ measured a
        measuring_deep h = too_deep_lem a (omega (arith, m.deep, levels-node some _ (i + 1) name given))

        pub measuring_name : size ≤ 4096 → depth + get_or depths (c - 128) 0 ≤ 32 → Measuring a due depth (left - 1) (n + size) (i + 1)
        measuring_name h k =
            measuring_more some _ (i + 1) name (λ h. depth + h (c - 128)) (λ h. refl) k m.room m.low
            (counted-name a.ready m.counted inside low high h)

      module _ (some : 0 < left) (high : 192 ≤ c) where
        other : ns ≡ byte_node c ∷ nodes_in 0 (drop (i + 1) p)
        other = pass_other p i inside high

        pub measuring_byte : Measuring a due depth (left - 1) (n + 1) (i + 1)
        measuring_byte =
            measuring_more some _ (i + 1) other (λ h. suc depth) (λ h. refl)
            (omega (arith, m.shallow, levels-node some _ (i + 1) other own)) m.room m.low
            (counted-byte a.ready m.counted inside high)
