-- Laws: what completeness and gap are behind each step.
--
--   tells_at, tells_as     a cursor with a gap, and the same named otherwise
--   leaf_tells, word_tells the two laws
--
use Rattle.std.proofs.Common.{◌≡◌, ℕ, ◌+◌, ◌*◌, ◌/◌, ◌%◌, ◌<◌, Bool, true, false, cond, eqb, sym, refl, ap, ◌∙◌, inl, inr, arith, eq-eqb, ne_eqb}
use mathlib.Core.Bool.{or-false, or-true}
use Rattle.cursors.specs.Cursors.{unbroken, complete_in, gap_in, short_in, gaps_after, gaps_short, past_leaf, past_word, Tells, LeafTells, WordTells}
use Rattle.cursors.specs.declared.Cursor.{Cursor}

tells_at : (c : Cursor) (g k : ℕ) (b : Bool) → c.gaps ≡ 2 * g + k → k < 2 → eqb k 1 ≡ b → g < c.at → 2 * g + k < unbroken → Tells c false g b
tells_at c g k b e low bit before small =
    let some : complete_in c ≡ false = ne_eqb c.gaps unbroken (λ h. omega arith) in
    let last : c.gaps % 2 ≡ k = omega arith in
    record {
      sound = inr (omega arith);
      complete = some;
      gap = λ h. omega arith;
      short = ap (λ b. cond b false (eqb (c.gaps % 2) 1)) some ∙ ap (λ n. eqb n 1) last ∙ bit;
    }

tells_as : {c : Cursor} {b : Bool} {g g' : ℕ} {k k' : Bool} → g ≡ g' → k ≡ k' → Tells c b g k → Tells c b g' k'
tells_as e h x = record { sound = x.sound; complete = x.complete; gap = λ f. x.gap f ∙ e; short = x.short ∙ h }

module _ (c : Cursor) where
  -- No gap so far.
  module _ (e : c.gaps ≡ unbroken) where
    whole : complete_in c ≡ true
    whole = eq-eqb c.gaps unbroken e

    new-gap : (q : ℕ) → q ≡ cond (complete_in c) q (gap_in c)
    new-gap q = ap (λ b. cond b q (gap_in c)) (sym whole)

    no_short : false ≡ short_in c
    no_short = ap (λ b. cond b false (eqb (c.gaps % 2) 1)) (sym whole)

  -- One already.
  module _ (h : c.gaps < 2 * c.at) (small : 2 * c.at < unbroken) where
    broken : complete_in c ≡ false
    broken = ne_eqb c.gaps unbroken (λ e. omega arith)

    old_gap : (q : ℕ) → gap_in c ≡ cond (complete_in c) q (gap_in c)
    old_gap q = ap (λ b. cond b q (gap_in c)) (sym broken)

    old_short : eqb (c.gaps % 2) 1 ≡ short_in c
    old_short = ap (λ b. cond b false (eqb (c.gaps % 2) 1)) (sym broken)

pub leaf_tells : LeafTells
leaf_tells c (inl e) small =
    tells_as (new-gap c e c.at) (no_short c e)
    (tells_at (past_leaf c) c.at 0 false (let first : gaps_after c.gaps c.at ≡ 2 * c.at + 0 = omega arith in first) (omega arith) refl (omega arith) (omega arith))
leaf_tells c (inr h) small =
    tells_as (old_gap c h small c.at) (old_short c h small)
    (tells_at (past_leaf c) (c.gaps / 2) (c.gaps % 2) (eqb (c.gaps % 2) 1)
    (let same : gaps_after c.gaps c.at ≡ 2 * (c.gaps / 2) + c.gaps % 2 = omega arith in same) (omega arith) refl (omega arith) (omega arith))

pub word_tells : WordTells
word_tells c true (inl e) small = record { sound = inl e; complete = refl; gap = λ f. refl; short = sym (or-false (short_in c)) }
word_tells c true (inr h) small = record { sound = inr (omega arith); complete = refl; gap = λ f. refl; short = sym (or-false (short_in c)) }
word_tells c false (inl e) far =
    let small = far refl in
    tells_as (new-gap c e (c.at + 1)) (sym (or-true (short_in c)))
    (tells_at (past_word false c) (c.at + 1) 1 true (let first : gaps_short c.gaps (c.at + 1) ≡ 2 * (c.at + 1) + 1 = omega arith in first) (omega arith) refl (omega arith) (omega arith))
word_tells c false (inr h) far =
    let small = far refl in
    tells_as (old_gap c h (omega arith) (c.at + 1)) (sym (or-true (short_in c)))
    (tells_at (past_word false c) (c.gaps / 2) 1 true (let same : gaps_short c.gaps (c.at + 1) ≡ 2 * (c.gaps / 2) + 1 = omega arith in same) (omega arith) refl (omega arith) (omega arith))
