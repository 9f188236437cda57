-- Passing: one pass over the bytes tells whether no word of a pattern has a kind.
--
--   skip_one                the byte behind a word is passed over
--   each                    the pass from some byte on
--   Left                    the bytes from an offset on decide
--   left-begun              .. from the byte behind the kind byte
--   left_word, left_other   .. behind a word of another kind, and behind a byte that is no word
--   left_barren, left-all   at a word of the kind, and at the end, it is decided
--
use mathlib.Core.Path.{◌≡◌, refl, sym, ap, ◌∙◌}
use mathlib.Core.Bool.{Bool, true, false, not, ◌&&◌}
use mathlib.Core.List.{List, [], ◌∷◌}
use Prim.Native.Nat.{ℕ, suc, ◌+◌, ◌<◌, ◌≤◌, min}
use native.Mathlib.Numerals.{add-one}
use native.Mathlib.Omega.{arith}
use lib.ListN.{length, get_or, take, drop, drop_of_length-le, length-take}
use lib.Seq.{drop-cons, drop-drop, get_or-take}
use borrow.Author.Tests.{lt-ltb, le-ltb, eq-eqb, ne_eqb}
use Rattle.wire.specs.Map.{map_bytes}
use Rattle.wire.specs.Vocabulary.{most_words}
use Rattle.wire.specs.TermBytes.{most_bytes}
use Rattle.wire.proofs.Cond.{cond_true, cond_false}
use Rattle.productive.specs.Tests.{bears, each_word, fruitful_in}

skip_one : (n : ℕ) (test : ℕ → Bool) (l : List ℕ) → each_word n test 1 l ≡ each_word n test 0 (drop 1 l)
skip_one n test [] = refl
skip_one n test (b ∷ l) = refl

abbrev each : ℕ → List ℕ → ℕ → List ℕ → Bool
each words table e l = each_word (min words most_words) (bears table e) 0 l

pub record Left (words : ℕ) (table : List ℕ) (e : ℕ) (p : List ℕ) (at : ℕ) : Type 0 where
  pub same : fruitful_in words table e p ≡ each words table e (drop at (take most_bytes p))

pub left-begun : (words : ℕ) (table : List ℕ) (e : ℕ) (p : List ℕ) → Left words table e p 1
left-begun words table e p = record { same = skip_one (min words most_words) (bears table e) (take most_bytes p) }

module _ {words : ℕ} {table : List ℕ} {e : ℕ} {p : List ℕ} {at : ℕ} (left : Left words table e p at) where
  pub left-all : min (length p) most_bytes ≤ at → true ≡ fruitful_in words table e p
  left-all h =
      sym (left.same ∙ ap (each words table e) (drop_of_length-le (take most_bytes p) {i = at} (omega (arith, length-take most_bytes p))))

  module _ (inside : at < min (length p) most_bytes) {f : ℕ} (here : f ≡ get_or p at 0) where
    -- The bytes behind the byte f.
    abbrev behind : List ℕ
    behind = drop (suc at) (take most_bytes p)

    begun : fruitful_in words table e p ≡ each words table e (f ∷ behind)
    begun =
        left.same
        ∙ ap (each words table e)
        (drop-cons (take most_bytes p) at 0 (omega (arith, length-take most_bytes p))
        ∙ ap (λ b. b ∷ behind) (get_or-take most_bytes p at 0 (omega arith) ∙ sym here))

    pub left_other : min words most_words ≤ f → Left words table e p (at + 1)
    left_other high = record {
      same =
          begun
          ∙ cond_false _ _ _ (le-ltb f (min words most_words) high)
          ∙ ap (λ i. each words table e (drop i (take most_bytes p))) (sym (add-one at));
    }

    -- A word f of the kind k.
    module _ (low : f < min words most_words) {k : ℕ} (kind : k ≡ get_or table f 0) where
      word : fruitful_in words table e p ≡ (bears table e f && each_word (min words most_words) (bears table e) map_bytes behind)
      word = begun ∙ cond_true _ _ _ (lt-ltb f (min words most_words) low)

      pub left_barren : k ≡ e → false ≡ fruitful_in words table e p
      left_barren same =
          sym (word ∙ ap (λ b. not b && each_word (min words most_words) (bears table e) map_bytes behind) (eq-eqb (get_or table f 0) e (sym kind ∙ same)))

      pub left_word : (k ≡ e → ⊥) → Left words table e p (at + 2)
      left_word other = record {
        same =
            word
            ∙ ap (λ b. not b && each_word (min words most_words) (bears table e) map_bytes behind) (ne_eqb (get_or table f 0) e (λ z. other (kind ∙ z)))
            ∙ skip_one (min words most_words) (bears table e) behind
            ∙ ap (each words table e)
            (drop-drop 1 (suc at) (take most_bytes p) ∙ ap (λ i. drop i (take most_bytes p)) (let z : suc at + 1 ≡ at + 2 = omega arith in z));
      }
