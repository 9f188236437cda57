-- Levels: where a term is due at a level, it does not matter to a run whether its tally has that level already.
use mathlib.Core.Path.{◌≡◌, refl, sym, ap, subst, ◌∙◌}
use mathlib.Core.Bool.{false}
use mathlib.Core.List.{List, [], ◌∷◌, ◌++◌}
use Prim.Native.Nat.{ℕ, zero, suc, ◌+◌, ◌-◌, ◌<◌, ◌≤◌, max}
use native.Mathlib.Decide.{dec_le, ℕ_discrete}
use native.Mathlib.Omega.{arith}
use lib.Bits.{bit_and}
use lib.ListN.{get_or}
use Rattle.terms.specs.Term.{Occurrence}
use Rattle.wire.specs.Vocabulary.{Vocabulary}
use Rattle.wire.specs.TermLines.{Due, due_at}
use Rattle.wire.specs.Parser.{Node, word_here, name_here, whole_here, fault, node}
use Rattle.wire.specs.TermBytes.{most_levels}
use Rattle.wire.specs.Scan.{Tally, with_word, with_leaf, scan_node, run}
use Rattle.wire.proofs.Scan.{run-node, run-limit}
use Rattle.frames.specs.Frames.{run_in, kinds_in, written_in, FrameIn, frame_due}
use Rattle.frames.proofs.Frames.{advanced_from, advanced_framed, passed_framed, due-behind, due_advanced, frame_advanced}

-- The tally with a level that is due.
abbrev pub with_level : ℕ → Tally → Tally
with_level level y = record { words = y.words; deepest = max y.deepest level; gap = y.gap; short = y.short }

-- A run from what is due on reaches a level.
abbrev pub Reaches : Vocabulary → ℕ → List Due → Type 0
Reaches W level due =
    (ds : List Due) (seen : List Occurrence) (y : Tally) (l : List ℕ) →
    run W (due ++ ds) seen (with_level level y) l ≡ run W (due ++ ds) seen y l

module _ (W : Vocabulary) where
  pub first_reaches : (d : Due) (due : List Due) → Reaches W d.level (d ∷ due)
  first_reaches d due ds seen y l = go (dec_le d.level most_levels)
    where
      twice : max (max y.deepest d.level) d.level ≡ max y.deepest d.level
      twice = omega arith

      behind : (x : Node) → scan_node (run W) d (due ++ ds) seen (with_level d.level y) x ≡ scan_node (run W) d (due ++ ds) seen y x
      behind (word_here f ks r) =
          ap (λ k. run W (due_at (suc d.level) ks ++ (due ++ ds)) seen (record { words = y.words + 1; deepest = k; gap = (with_word d.level ks r y).gap; short = (with_word d.level ks r y).short }) r) twice
      behind (name_here n r) =
          ap (λ k. run W (due ++ ds) (seen ++ (record { name = n; sort = d.sort } ∷ [])) (record { words = y.words; deepest = k; gap = (with_leaf d.level r y).gap; short = y.short }) r) twice
      behind (whole_here r) = ap (λ k. run W (due ++ ds) seen (record { words = y.words; deepest = k; gap = (with_leaf d.level r y).gap; short = y.short }) r) twice
      behind (fault n r) = refl

      go : Dec (d.level ≤ most_levels) → run W (d ∷ (due ++ ds)) seen (with_level d.level y) l ≡ run W (d ∷ (due ++ ds)) seen y l
      go (yes h) =
          run-node W d (due ++ ds) seen (with_level d.level y) l h
          ∙ behind (node W d.root d.sort seen l)
          ∙ sym (run-node W d (due ++ ds) seen y l h)
      go (no h) =
          let high : most_levels < d.level = omega arith in
          run-limit W d (due ++ ds) seen (with_level d.level y) l high ∙ sym (run-limit W d (due ++ ds) seen y l high)

  module _ (v : List ℕ) (level : ℕ) where
    -- The first place of a run is due.
    run_reaches : (x : ℕ) → 0 < run_in x → FrameIn v x → Reaches W level (frame_due v level x)
    run_reaches x some sound =
        let near = sound.near in
        subst (Reaches W level) (sym (due-behind v level x (bit_and x (x - 1) + 256) (passed_framed x some (omega arith)) some))
        (first_reaches (record { sort = get_or v (kinds_in x) 0; level = level; root = false }) (frame_due v level (bit_and x (x - 1) + 256)))

    frame_below : (n x : ℕ) → written_in x < n → FrameIn v x → 0 < run_in x + written_in x → Reaches W level (frame_due v level x)
    frame_below zero x few sound some = absurd (omega arith)
    frame_below (suc n) x few sound some = go (ℕ_discrete (run_in x) 0) (frame_below n (advanced_from x))
      where
        go : Dec (run_in x ≡ 0) → (written_in (advanced_from x) < n → FrameIn v (advanced_from x) → 0 < run_in (advanced_from x) + written_in (advanced_from x) → Reaches W level (frame_due v level (advanced_from x))) →
            Reaches W level (frame_due v level x)
        go (no other) ih = run_reaches x (omega arith) sound
        go (yes none) ih =
            let near = sound.near in
            let a = advanced_framed x (omega arith) in
            let run = a.run in
            let written = a.written in
            subst (Reaches W level) (sym (due_advanced v level x sound (advanced_from x) a none))
            (ih (omega arith) (frame_advanced v x (advanced_from x) sound a none) (omega arith))

    -- A frame with places that are due has one due at its level.
    pub frame_reaches : (x : ℕ) → FrameIn v x → 0 < run_in x + written_in x → Reaches W level (frame_due v level x)
    frame_reaches x = frame_below (suc (written_in x)) x (omega arith)
