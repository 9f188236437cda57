-- Phrases: a whole pattern or entry in words.
--
--   phrase_open, phrase-variable     an open place, and a variable at the root
--
use mathlib.Core.Path.{◌≡◌, sym, ap, ◌∙◌}
use mathlib.Core.List.{List, [], ◌∷◌}
use Prim.Native.Nat.{ℕ, ◌≤◌}
use native.Mathlib.Omega.{arith}
use lib.ListN.{length, get_or, drop}
use borrow.Author.Tests.{le-ltb, eq-eqb, ne_eqb}
use Rattle.wire.specs.TermBytes.{most_levels}
use Rattle.wire.proofs.Cond.{cond_true, cond_false}
use Rattle.texts.specs.Names.{opened}
use Rattle.texts.specs.Saying.{Tables, say_term, with_kind, say_phrase}

module _ (T : Tables) where
  pub phrase_open : (entry : List ℕ) → 2 ≤ length entry → {s : ℕ} → s ≡ get_or entry 0 0 → get_or entry 1 0 ≡ 255 →
      with_kind T s opened ≡ say_phrase T entry
  phrase_open [] h e k = absurd (omega arith)
  phrase_open (s ∷ []) h e k = absurd (omega arith)
  phrase_open (s ∷ b ∷ l) h e k = ap (λ x. with_kind T x opened) e ∙ sym (cond_true _ _ _ (eq-eqb b 255 k))

  abbrev term : List ℕ → List ℕ
  term entry = (say_term T most_levels (drop 1 entry)).text

  pub phrase-variable : (entry : List ℕ) → 2 ≤ length entry → {s : ℕ} → s ≡ get_or entry 0 0 → (get_or entry 1 0 ≡ 255 → ⊥) → 128 ≤ get_or entry 1 0 →
      with_kind T s (term entry) ≡ say_phrase T entry
  phrase-variable [] h i e k = absurd (omega arith)
  phrase-variable (s ∷ []) h i e k = absurd (omega arith)
  phrase-variable (s ∷ b ∷ l) h i e k =
      ap (λ x. with_kind T x (term (s ∷ b ∷ l))) i ∙ sym (cond_false _ _ _ (ne_eqb b 255 e) ∙ cond_false _ _ _ (le-ltb b 128 k))
