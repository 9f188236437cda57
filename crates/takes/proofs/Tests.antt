-- Tests: the tests tell which patterns and kinds have complete situations.
--
--   all-inhabited                where no kind is found that has none, all have some
--   words-counted                the table has as many words as the vocabulary
--   fruitful-told, whole-told    the two laws
--
use mathlib.Core.Path.{◌≡◌, refl, sym, ap, ◌∙◌}
use mathlib.Core.Bool.{Bool, true, false, cond}
use mathlib.Core.List.{List, [], ◌∷◌}
use Prim.Native.Nat.{ℕ}
use lib.ListN.{length}
use Rattle.terms.specs.Term.{any}
use Rattle.terms.specs.Inhabited.{Inhabited}
use Rattle.terms.specs.Emptiness.{inhabited}
use Rattle.terms.specs.Productive.{whole_of}
use Rattle.terms.proofs.Inhabited.{emptiness_is_exact}
use Rattle.terms.proofs.Fitted.{all-fruitful}
use Rattle.wire.specs.Vocabulary.{Vocabulary, InOrder, signature}
use Rattle.wire.proofs.Words.{in_order_well_formed}
use Rattle.wire.proofs.Settling.{settled-count}
use Rattle.signature.specs.Settled.{SettledOf}
use Rattle.std.specs.Prelude.{Option}
use Rattle.std.specs.Prelude.{Some, None}
use Rattle.productive.proofs.Tabled.{fruitful-test, inhabited-test}
use Rattle.takes.specs.Told.{whole_count, FruitfulTold, WholeTold}

module _ (W : Vocabulary) (in_order : InOrder W) (n : ℕ) (table : List ℕ) where
  all-inhabited : SettledOf W n table None → Inhabited (signature W)
  all-inhabited h = (emptiness_is_exact (signature W) (in_order_well_formed W in_order)).missed.0 (sym h.found)

  words-counted : (k : Option ℕ) → SettledOf W n table k → n ≡ length W.words
  words-counted k h = h.tabled.words ∙ settled-count W

pub fruitful-told : FruitfulTold
fruitful-told W in_order n table (Some e) h s t good most =
    fruitful-test W in_order e (sym h.found) s t good most n table (words-counted W in_order n table (Some e) h) h.tabled.result
fruitful-told W in_order n table None h s t good most =
    sym (all-fruitful (signature W) (in_order_well_formed W in_order) (all-inhabited W in_order n table h) t s good.sorted.sorted)

pub whole-told : WholeTold
whole-told W in_order n table k h s low = told k h
  where
    count : (b : Bool) → cond b 1 0 ≡ length (cond b (any ∷ []) [])
    count true = refl
    count false = refl

    told : (k : Option ℕ) → SettledOf W n table k → whole_count n table k s ≡ length (whole_of (signature W) s)
    told (Some e) h =
        ap (λ b. cond b 1 0) (inhabited-test W in_order e (sym h.found) n table (words-counted W in_order n table (Some e) h) h.tabled.result s)
        ∙ count (inhabited (signature W) s)
    told None h =
        sym
        (ap (λ b. length (cond b (any ∷ []) []))
        (((emptiness_is_exact (signature W) (in_order_well_formed W in_order)).ground s).1 (all-inhabited W in_order n table h s low)))
