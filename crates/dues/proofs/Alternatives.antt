-- Alternatives: the words of a kind, listed one after the other.
--
--   listing-all                  the beginning
--   listing-in, listing-out      the next word, that is listed or not
--   listing-end                  the end of the words
--
use mathlib.Core.Path.{◌≡◌, sym, ap, ap₂, ◌∙◌}
use mathlib.Core.Bool.{Bool, true, false, cond}
use mathlib.Core.List.{List, ◌++◌, append_assoc}
use Prim.Native.Nat.{ℕ, suc, ◌+◌, ◌-◌, ◌*◌, ◌<◌, ◌≤◌, min}
use native.Mathlib.Numerals.{add-one}
use native.Mathlib.Omega.{arith}
use lib.Dec.{eqb}
use lib.ListN.{length, get_or, take, length-map, length-take}
use borrow.Author.Tests.{eq-eqb, ne_eqb}
use Rattle.wire.proofs.Cond.{cond_true, cond_false}
use Rattle.texts.specs.Lexemes.{token_at}
use Rattle.texts.specs.Names.{name_at}
use Rattle.texts.specs.Complaints.{Known, between, unlisted, alternatives}
use Rattle.texts.specs.Tabled.{names_in, known_in}
use Rattle.dues.specs.Parts.{due_words}
use Rattle.dues.proofs.Tables.{counted-here}

module _ (text kinds : List ℕ) (k : ℕ) (table : List ℕ) (n : ℕ) (records : List ℕ) (s : ℕ) where
  abbrev known : Known
  known = known_in text kinds k table n records

  pub listing-all : alternatives known s (min n (length table) - 0) 0 false ≡ due_words known s
  listing-all =
      ap (λ m. alternatives known s m 0 false)
      (let e : min n (length table) - 0 ≡ length (names_in text (take n table)) = omega (arith, length-map (take n table) (token_at text), length-take n table) in e)

  module _ (i : ℕ) (c : Bool) where
    pub listing-end : min n (length table) ≤ i → alternatives known s (min n (length table) - i) i c ≡ unlisted c
    listing-end h = ap (λ m. alternatives known s m i c) (let e : min n (length table) - i ≡ 0 = omega arith in e)

    module _ (less : i < min n (length table)) where
      -- What is said from the next word on.
      abbrev pub next : Bool → List ℕ
      next d = alternatives known s (min n (length table) - (i + 1)) (i + 1) d

      here : alternatives known s (min n (length table) - i) i c ≡ cond (eqb (get_or records (10 * i) 0) s) (between c ++ (name_at known.words i ++ next true)) (next c)
      here =
          ap (λ m. alternatives known s m i c) (let e : min n (length table) - i ≡ suc (min n (length table) - (i + 1)) = omega arith in e)
          ∙ ap₂ (λ j b. cond b (between c ++ (name_at known.words i ++ alternatives known s (min n (length table) - (i + 1)) j true)) (alternatives known s (min n (length table) - (i + 1)) j c))
          (sym (add-one i))
          (ap (λ r. eqb r s) (counted-here (λ f. get_or records (10 * f) 0) n i (omega arith)))

      pub listing-in : get_or records (10 * i) 0 ≡ s → alternatives known s (min n (length table) - i) i c ≡ (between c ++ name_at known.words i) ++ next true
      listing-in e = here ∙ cond_true _ _ _ (eq-eqb _ s e) ∙ sym (append_assoc (between c) (name_at known.words i) (next true))

      pub listing-out : (get_or records (10 * i) 0 ≡ s → ⊥) → alternatives known s (min n (length table) - i) i c ≡ next c
      listing-out e = here ∙ cond_false _ _ _ (ne_eqb _ s e)
