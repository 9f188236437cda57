-- Repeating: one pass over a pattern's bytes finds the earliest byte at which a name stands for the second time.
use mathlib.Core.Path.{◌≡◌, refl, sym, ap, ◌∙◌}
use mathlib.Core.Bool.{Bool, true, false, cond, ◌||◌}
use mathlib.Core.List.{List, [], ◌∷◌}
use mathlib.Core.Option.{some, none}
use Prim.Native.Nat.{ℕ, ◌+◌, ◌-◌, ◌<◌, ◌≤◌}
use native.Mathlib.Decide.{ℕ_discrete}
use native.Mathlib.Omega.{arith}
use lib.Dec.{eqb}
use lib.ListN.{length, get_or, drop, set, replicate, get_or-replicate, length-set, drop_of_length-le}
use lib.Seq.{get_or-set_same, get_or-set_other}
use borrow.Author.Tests.{eq-eqb, ne_eqb}
use Rattle.terms.specs.Lists.{occurs}
use Rattle.terms.proofs.Bools.{or_left}
use Rattle.wire.specs.Parser.{is_name}
use Rattle.wire.specs.ListComputed.{repeated_in}
use Rattle.wire.proofs.Cond.{cond_true, cond_false}
use Rattle.repeats.specs.FirstRepeat.{sightings_in, first_repeat}
use Rattle.repeats.proofs.Passing.{name-byte, low_byte, high_byte, skip_one, pass_word, pass_other, pass_name}

-- ---- the table of names seen

pub record Marked (seen : List Bool) (names : List ℕ) : Type 0 where
  pub size : length seen ≡ 64
  pub each : (k : ℕ) → k < 64 → get_or seen k false ≡ occurs k names

marked_none : Marked (replicate 64 false) []
marked_none = record { size = refl; each = λ k b. get_or-replicate 64 k false false b }

marked_more : (seen : List Bool) (l : List ℕ) (n : ℕ) → n < 64 → Marked seen l → Marked (set seen n true) (n ∷ l)
marked_more seen l n h m = record {
  size = length-set seen n true ∙ m.size;
  each = λ k b. elim (ℕ_discrete k n) [ yes e ↦ here k b e | no e ↦ there k b e ];
}
  where
    here : (k : ℕ) → k < 64 → k ≡ n → get_or (set seen n true) k false ≡ occurs k (n ∷ l)
    here k b e =
        ap (λ i. get_or (set seen n true) i false) e
        ∙ get_or-set_same seen n true false (omega (arith, m.size))
        ∙ sym (or_left (eqb k n) (occurs k l) (eq-eqb k n e))

    there : (k : ℕ) → k < 64 → (k ≡ n → ⊥) → get_or (set seen n true) k false ≡ occurs k (n ∷ l)
    there k b e =
        get_or-set_other seen n k true false e
        ∙ m.each k b
        ∙ sym (ap (λ t. t || occurs k l) (ne_eqb k n e))

-- ---- the loop

-- The names before the offset `at` are marked, and none of them stood twice.
pub record Searched (p : List ℕ) (words : ℕ) (seen : List Bool) (at : ℕ) : Type 0 where
  pub before : List ℕ
  pub marked : Marked seen before
  pub same : first_repeat words p ≡ repeated_in before (sightings_in words 0 (drop at p) at)

module _ {p : List ℕ} {words : ℕ} where
  pub searched_none : Searched p words (replicate 64 false) 1
  searched_none = record { before = []; marked = marked_none; same = ap (repeated_in []) (skip_one words p 0) }

  pub searched_all : {seen : List Bool} {at : ℕ} → Searched p words seen at → length p ≤ at → none ≡ first_repeat words p
  searched_all {seen} {at} s k =
      sym (s.same ∙ ap (λ l. repeated_in s.before (sightings_in words 0 l at)) (drop_of_length-le p {i = at} k))

  module _ {seen : List Bool} {at : ℕ} (s : Searched p words seen at) (inside : at < length p) where
    abbrev b : ℕ
    b = get_or p at 0

    pub searched_word : b < words → Searched p words seen (at + 2)
    searched_word k = record {
      before = s.before;
      marked = s.marked;
      same = s.same ∙ ap (repeated_in s.before) (pass_word words p at inside k);
    }

    other : words ≤ b → is_name b ≡ false → Searched p words seen (at + 1)
    other k e = record {
      before = s.before;
      marked = s.marked;
      same = s.same
          ∙ ap (repeated_in s.before) (pass_other words p at inside k e);
    }

    pub searched_low : words ≤ b → b < 128 → Searched p words seen (at + 1)
    searched_low k l = other k (low_byte b l)

    pub searched_high : words ≤ b → 192 ≤ b → Searched p words seen (at + 1)
    searched_high k l = other k (high_byte b l)

    module _ (k : words ≤ b) (low : 128 ≤ b) (high : b < 192) where
      at_this : first_repeat words p
          ≡ cond (occurs (b - 128) s.before) (some at) (repeated_in ((b - 128) ∷ s.before) (sightings_in words 0 (drop (at + 1) p) (at + 1)))
      at_this =
          s.same
          ∙ ap (repeated_in s.before)
          (pass_name words p at inside k (name-byte b low high))

      mark-known : get_or seen (b - 128) false ≡ occurs (b - 128) s.before
      mark-known = s.marked.each (b - 128) (omega arith)

      -- It stood before.
      pub searched_found : get_or seen (b - 128) false ≡ true → some at ≡ first_repeat words p
      searched_found e = sym (at_this ∙ cond_true (occurs (b - 128) s.before) _ _ (sym mark-known ∙ e))

      -- It is seen for the first time.
      pub searched_name : get_or seen (b - 128) false ≡ false → Searched p words (set seen (b - 128) true) (at + 1)
      searched_name e = record {
        before = (b - 128) ∷ s.before;
        marked = marked_more seen s.before (b - 128) (omega arith) s.marked;
        same = at_this ∙ cond_false (occurs (b - 128) s.before) _ _ (sym mark-known ∙ e);
      }
