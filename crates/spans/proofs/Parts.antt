-- Parts: what a name covers.
--
--   even_slot, odd_slot                          the two numbers of a name are in the table
--   covered-new, covered_broken                  what covering a part does the first time
--   known-short, known_same, known-other    .. and later, by what stands there
--
use mathlib.Core.Path.{◌≡◌, refl, sym, ap, ap₂, ◌∙◌}
use mathlib.Core.List.{List}
use Rattle.std.specs.Prelude.{None}
use Prim.Native.Nat.{ℕ, ◌+◌, ◌-◌, ◌*◌, ◌<◌, ◌≤◌}
use native.Mathlib.Omega.{arith}
use lib.ListN.{length, get_or, take, drop}
use Rattle.spans.specs.Spans.{with_span, Standing, ends, Covered, Uncovered, KnownEnd}
use Rattle.spans.proofs.Ending.{ends-inside}

module _ {name : ℕ} (known : name < 64) where
  pub even_slot : 2 * name < 128
  even_slot = omega arith

  pub odd_slot : 2 * name + 1 < 128
  odd_slot = omega arith

-- ---- what covering a part does

module _ (s before : List ℕ) (name at : ℕ) where
  abbrev first : ℕ
  first = get_or before (2 * name) 0

  abbrev long : ℕ
  long = get_or before (2 * name + 1) 0

  pub covered-new : (after : List ℕ) (end : ℕ) → long ≡ 0 → at < end → end ≤ length s → ((a : Standing s at) → end ≡ ends a) →
      after ≡ with_span before name at (end - at) → Covered s before after name at end
  covered-new after end zero later inside e set = record {
    new = λ q a. e a;
    noting = λ q. (later, set);
    inside = inside;
    kept = λ d. absurd (d zero);
    yes = λ d. absurd (d zero);
  }

  -- The bytes end before the part does: no ground term stands here.
  pub covered_broken : (end : ℕ) → long ≡ 0 → length s < end → ((a : Standing s at) → end ≡ ends a) → Uncovered s before before name at
  covered_broken end zero behind e = record {
    kept = refl;
    new = λ q a. omega (arith, e a, ends-inside a);
    no = λ d l h. d zero;
  }

  -- ---- a part that is noted

  -- Other bytes stand here.
  unlike : (long ≡ 0 → ⊥) → (at + long ≤ length s → take long (drop first s) ≡ take long (drop at s) → ⊥) → Uncovered s before before name at
  unlike again d = record { kept = refl; new = λ q. absurd (again q); no = λ q. d }

  module _ (from n : ℕ) (start : from ≡ first) (bytes : n ≡ long) where
    part : (a k : ℕ) → k ≡ a → take (a + n - a) (drop a s) ≡ take long (drop k s)
    part a k e = ap₂ (λ m o. take m (drop o s)) (let z : a + n - a ≡ n = omega arith in z ∙ bytes) (sym e)

    pub known_same : (n ≡ 0 → ⊥) → at + n ≤ length s → take (from + n - from) (drop from s) ≡ take (at + n - at) (drop at s) → Covered s before before name at (at + n)
    known_same again inside e = record {
      new = λ q. absurd (again (bytes ∙ q));
      noting = λ q. absurd (again (bytes ∙ q));
      inside = inside;
      kept = λ q. refl;
      yes = λ q. (ap (λ l. at + l) bytes, sym (part from first (sym start)) ∙ e ∙ part at at refl);
    }

    pub known-other : (take (from + n - from) (drop from s) ≡ take (at + n - at) (drop at s) → ⊥) → KnownEnd s before name at None
    known-other d = λ again. unlike again (λ l h. d (part from first (sym start) ∙ h ∙ sym (part at at refl)))

  pub known-short : (n : ℕ) → n ≡ long → length s < at + n → KnownEnd s before name at None
  known-short n bytes short = λ again. unlike again (λ l h. omega arith)
