-- Following: the others of a word's result kind are found by going from one word of the kind to the next.
--
--   least-from, -inside, -low, -outside   the lowest number of a range that passes a test
--   Following                 h is the next word of the kind of f, and the words hs are the others from there on
--   following_first, -sibling   the chain begins, by chains or by a table of siblings
--   following_none            it ends
--   following_inside          where h is below 96 it is a word
--   following_higher          the next word is a higher one
--   following_other, -self    a step from another word, and from f itself
--
use mathlib.Core.Path.{◌≡◌, refl, sym, ap, ap₂, ◌∙◌}
use mathlib.Core.Bool.{Bool, true, false, not, ◌&&◌, cond, and_comm}
use mathlib.Core.List.{List, [], ◌∷◌}
use Prim.Native.Nat.{ℕ, zero, suc, ◌+◌, ◌-◌, ◌<◌, ◌≤◌}
use native.Mathlib.Omega.{arith}
use lib.Dec.{eqb}
use lib.ListN.{get_or}
use borrow.Author.Tests.{eq-eqb, ne_eqb, eqb-true}
use Rattle.terms.specs.Lists.{range, keep}
use Rattle.terms.proofs.Keep.{keep-keep, keep_same}
use Rattle.wire.specs.Vocabulary.{most_words}
use Rattle.wire.proofs.Cond.{cond_true, cond_false}
use Rattle.kinds.specs.Kinds.{kind_in, has_kind, is_other, others_in, lowest, Chained, SiblingTable}

-- ---- the lowest number of a range that passes a test

module _ (t : ℕ → Bool) where
  abbrev least : ℕ → ℕ → ℕ
  least from c = get_or (keep t (range from c)) 0 255

  least-from : (c from : ℕ) → from + c ≤ 255 → from ≤ least from c
  least-from zero from k = omega arith
  least-from (suc c) from k = go (t from) (least-from c (suc from) (omega arith))
    where
      go : (b : Bool) → suc from ≤ least (suc from) c → from ≤ get_or (cond b (from ∷ keep t (range (suc from) c)) (keep t (range (suc from) c))) 0 255
      go true h = omega arith
      go false h = omega arith

  -- Where it is in the range, what passes is this number and what passes behind it.
  least-inside : (c from n h : ℕ) → n ≡ from + c → n ≤ 255 → h ≡ least from c → h < n →
      (t h ≡ true) × (keep t (range from c) ≡ h ∷ keep t (range (h + 1) (n - (h + 1))))
  least-inside zero from n h s k e l = absurd (omega arith)
  least-inside (suc c) from n h s k e l = go (t from) refl (least-inside c (suc from) n h (omega arith) k)
    where
      go : (b : Bool) → t from ≡ b →
          (h ≡ least (suc from) c → h < n → (t h ≡ true) × (keep t (range (suc from) c) ≡ h ∷ keep t (range (h + 1) (n - (h + 1))))) →
          (t h ≡ true) × (keep t (range from (suc c)) ≡ h ∷ keep t (range (h + 1) (n - (h + 1))))
      go true p rest =
          let here : h ≡ from = e ∙ ap (λ l. get_or l 0 255) (cond_true (t from) _ _ p) in (
            ap t here ∙ p,
            cond_true (t from) _ _ p
                ∙ ap₂ (λ x l. x ∷ keep t l) (sym here)
                (ap₂ range (let z : suc from ≡ h + 1 = omega arith in z) (let z : c ≡ n - (h + 1) = omega arith in z)),
          )
      go false p rest =
          let r = rest (e ∙ ap (λ l. get_or l 0 255) (cond_false (t from) _ _ p)) l in
          (r.0, cond_false (t from) _ _ p ∙ r.1)

  -- Where it is below 255, it is in the range.
  least-low : (c from n : ℕ) → n ≡ from + c → least from c < 255 → least from c < n
  least-low zero from n s k = absurd (omega arith)
  least-low (suc c) from n s k = go (t from) k (least-low c (suc from) n (omega arith))
    where
      go : (b : Bool) → get_or (cond b (from ∷ keep t (range (suc from) c)) (keep t (range (suc from) c))) 0 255 < 255 →
          (least (suc from) c < 255 → least (suc from) c < n) → get_or (cond b (from ∷ keep t (range (suc from) c)) (keep t (range (suc from) c))) 0 255 < n
      go true k rest = omega arith
      go false k rest = rest k

  -- Where it is not, nothing passes.
  least-outside : (c from : ℕ) → from + c ≤ least from c → keep t (range from c) ≡ []
  least-outside zero from k = refl
  least-outside (suc c) from k = go (t from) refl (least-outside c (suc from))
    where
      go : (b : Bool) → t from ≡ b → (suc from + c ≤ least (suc from) c → keep t (range (suc from) c) ≡ []) → keep t (range from (suc c)) ≡ []
      go true p rest = absurd (omega (arith, ap (λ l. get_or l 0 255) (cond_true (t from) (from ∷ keep t (range (suc from) c)) (keep t (range (suc from) c)) p)))
      go false p rest =
          cond_false (t from) _ _ p
          ∙ rest (omega (arith, ap (λ l. get_or l 0 255) (cond_false (t from) (from ∷ keep t (range (suc from) c)) (keep t (range (suc from) c)) p)))

-- ---- the chain is followed

abbrev is_not : ℕ → ℕ → Bool
is_not f g = not (eqb g f)

-- The words of the kind of f from a word on, and the others among them.
abbrev siblings : ℕ → List ℕ → ℕ → ℕ → List ℕ
siblings words results f from = keep (has_kind results (kind_in results f)) (range from (words - from))

abbrev left : ℕ → List ℕ → ℕ → ℕ → List ℕ
left words results f from = keep (is_not f) (siblings words results f from)

left-all : (words : ℕ) (results : List ℕ) (f : ℕ) → others_in words results f ≡ left words results f 0
left-all words results f =
    let kept : ℕ → Bool = has_kind results (kind_in results f) in
    keep_same (is_other results f) (λ g. kept g && is_not f g) (range 0 words) (λ g. and_comm (is_not f g) (kept g))
    ∙ sym (keep-keep (is_not f) kept (range 0 words))
    ∙ ap (λ c. keep (is_not f) (keep kept (range 0 c))) (let e : words ≡ words - 0 = omega arith in e)

-- h is the next word of the kind of f, and the words hs are the others from there on.
pub record Following (words : ℕ) (results chains : List ℕ) (f h : ℕ) (hs : List ℕ) : Type 0 where
  pub small : words ≤ most_words
  pub chained : (g : ℕ) → g < words → get_or chains g 0 ≡ lowest words results (kind_in results g) (g + 1)
  pub from : ℕ
  pub below : from ≤ words
  pub next : h ≡ lowest words results (kind_in results f) from
  pub same : hs ≡ left words results f from

-- The first of the words hs is h, and the chain goes on to m.
pub record Step (words : ℕ) (results chains : List ℕ) (f h m : ℕ) (hs : List ℕ) : Type 0 where
  pub rest : List ℕ
  pub split : hs ≡ h ∷ rest
  pub on : Following words results chains f m rest

module _ {words : ℕ} {results chains : List ℕ} {f h : ℕ} where
  pub following_first : words ≤ most_words → Chained words results chains → h ≡ lowest words results (kind_in results f) 0 →
      Following words results chains f h (others_in words results f)
  following_first small c s = record {
    small = small;
    chained = λ g k. c.next g (omega arith);
    from = 0;
    below = omega arith;
    next = s;
    same = left-all words results f;
  }

  pub following_sibling : words ≤ most_words → SiblingTable words results chains → f < words → h ≡ get_or chains (128 + f) 0 →
      Following words results chains f h (others_in words results f)
  following_sibling small t known s = record {
    small = small;
    chained = t.next;
    from = 0;
    below = omega arith;
    next = s ∙ t.first f known;
    same = left-all words results f;
  }

  module _ {hs : List ℕ} (w : Following words results chains f h hs) where
    pub following_inside : h < most_words → h < words
    following_inside k =
        let b = w.below in
        let s = w.next in
        omega (arith, least-low (has_kind results (kind_in results f)) (words - w.from) w.from words (omega arith) (omega arith))

    pub following_none : most_words ≤ h → hs ≡ []
    following_none k =
        let b = w.below in
        let s = w.next in
        let l = w.small in
        w.same ∙ ap (keep (is_not f)) (least-outside (has_kind results (kind_in results f)) (words - w.from) w.from (omega arith))

    module _ (inside : h < words) (m : ℕ) (step : m ≡ get_or chains h 0) where
      here : (has_kind results (kind_in results f) h ≡ true) × (siblings words results f w.from ≡ h ∷ siblings words results f (h + 1))
      here =
          let b = w.below in
          let s = w.small in
          least-inside (has_kind results (kind_in results f)) (words - w.from) w.from words h (omega arith) (omega arith) w.next inside

      next_word : m ≡ lowest words results (kind_in results f) (h + 1)
      next_word =
          step ∙ w.chained h inside
          ∙ ap (λ k. lowest words results k (h + 1)) (eqb-true (kind_in results h) (kind_in results f) here.0)

      pub following_higher : h < m
      following_higher =
          let s = w.small in
          omega (arith, next_word, least-from (has_kind results (kind_in results f)) (words - (h + 1)) (h + 1) (omega arith))

      on-from : {rest : List ℕ} → rest ≡ left words results f (h + 1) → Following words results chains f m rest
      on-from e = record { small = w.small; chained = w.chained; from = h + 1; below = omega arith; next = next_word; same = e }

      -- The word is another.
      pub following_other : (h ≡ f → ⊥) → Step words results chains f h m hs
      following_other apart = record {
        rest = left words results f (h + 1);
        split = w.same ∙ ap (keep (is_not f)) here.1 ∙ cond_true (is_not f h) _ _ (ap not (ne_eqb h f apart));
        on = on-from refl;
      }

      -- The word is f itself.
      pub following_self : h ≡ f → Following words results chains f m hs
      following_self e = on-from (w.same ∙ ap (keep (is_not f)) here.1 ∙ cond_false (is_not f h) _ _ (ap not (eq-eqb h f e)))
