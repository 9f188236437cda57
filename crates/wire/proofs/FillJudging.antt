-- FillJudging: the inputs of fill are in order exactly where they are the writings of good ones within the limits, and the
-- refusal list decides where they are not.
--
--   Comes, comes                      what comes of judging them
--   held-fillable, fillable-held      they are in order exactly where they are held
--   refused-vocabulary, refused-pattern, refused-filling    what the list decides on is the refusal
--
use mathlib.Core.Path.{◌≡◌, refl, ap, ◌∙◌, subst}
use mathlib.Core.List.{List}
use Prim.Native.Nat.{ℕ}
use Rattle.terms.specs.Term.{Term}
use Rattle.terms.specs.Filling.{Binding}
use Rattle.wire.specs.Reply.{IsBytes, Kinded, kinded}
use Rattle.wire.specs.Vocabulary.{Vocabulary, HoldsVocabulary}
use Rattle.wire.specs.TermBytes.{HoldsTerm}
use Rattle.wire.specs.Refusals.{Decides}
use Rattle.wire.specs.TermLines.{TermLine}
use Rattle.wire.specs.FillingLines.{FillingLine}
use Rattle.wire.specs.Filled.{FillInputs, HoldsFillInputs, FillRefusal, of_pattern, of_filling}
use Rattle.wire.specs.VocabularyLines.{VocabularyLine, of_vocabulary, under}
use Rattle.wire.specs.Parser.{Reading, accept, refuse, read_vocabulary}
use Rattle.wire.specs.CheckComputed.{checked_term}
use Rattle.wire.specs.FillComputed.{read_filling, FillJudged, fillable, refusal, judged_filling, fill_pattern, fill_vocabulary, fill_judged}
use Rattle.wire.proofs.VocabulariesInverse.{vocabularies_inverse}
use Rattle.wire.proofs.VocabularyRefusals.{vocabulary_refusals}
use Rattle.wire.proofs.TermRefusals.{term_refusals}
use Rattle.wire.proofs.Inputs.{checked_in, in_checked}
use Rattle.wire.proofs.FillingsInverse.{fillings_inverse}
use Rattle.wire.proofs.FillingRefusals.{filling_refusals}

-- What comes of judging: inputs that are held, or what the list decides on.
abbrev pub Comes : List ℕ → List ℕ → List ℕ → List ℕ → FillJudged → Type 0
Comes v p b out (fillable x) = HoldsFillInputs v p b x
Comes v p b out (refusal n i q) = FillRefusal v p b out n i q

module _ (v p b out : List ℕ) (bv : IsBytes v) (bp : IsBytes p) (bb : IsBytes b) where
  pub comes : Comes v p b out (fill_judged v p b)
  comes = vocabulary (read_vocabulary v) refl
    where
      filling : (W : Vocabulary) → HoldsVocabulary v W → (k : Kinded) → HoldsTerm W p k.kind k.term →
          (r : Reading (List Binding)) → read_filling W k.kind k.term b ≡ r → Comes v p b out (judged_filling W k r)
      filling W held k h (refuse n q) e =
          under W n 4 q held
          (of_filling k.kind k.term n q h (((filling_refusals W k.kind k.term b held.in_order).given n q).0 e))
      filling W held k h (accept bs) e =
          record { vocabulary = held; pattern = h; filling = (fillings_inverse W k.kind k.term b bs held.in_order h.good bb).0 e }

      pattern : (W : Vocabulary) → HoldsVocabulary v W → (r : Reading Kinded) → checked_term W p ≡ r → Comes v p b out (fill_pattern W b r)
      pattern W held (refuse n q) e = under W n 1 q held (of_pattern n q (((term_refusals W p held.in_order).given n q).0 e))
      pattern W held (accept k) e =
          filling W held k (checked_in W p k held.in_order bp e) (read_filling W k.kind k.term b) refl

      vocabulary : (r : Reading Vocabulary) → read_vocabulary v ≡ r → Comes v p b out (fill_vocabulary p b r)
      vocabulary (refuse n q) e = of_vocabulary n q (((vocabulary_refusals v bv).given n q).0 e)
      vocabulary (accept W) e = pattern W ((vocabularies_inverse v W bv).0 e) (checked_term W p) refl

  module _ (W : Vocabulary) (held : HoldsVocabulary v W) where
    under-vocabulary : fill_judged v p b ≡ fill_pattern W b (checked_term W p)
    under-vocabulary = ap (fill_vocabulary p b) ((vocabularies_inverse v W bv).1 held)

    pub refused-pattern : {n q : ℕ} → Decides (TermLine W p) n q → fill_judged v p b ≡ refusal n 1 q
    refused-pattern {n} {q} d = under-vocabulary ∙ ap (fill_pattern W b) (((term_refusals W p held.in_order).given n q).1 d)

    module _ (s : ℕ) (t : Term) (h : HoldsTerm W p s t) where
      under-pattern : fill_judged v p b ≡ judged_filling W (kinded s t) (read_filling W s t b)
      under-pattern = under-vocabulary ∙ ap (fill_pattern W b) (in_checked W p (kinded s t) held.in_order bp h)

      pub refused-filling : {n q : ℕ} → Decides (FillingLine W s t b) n q → fill_judged v p b ≡ refusal n 4 q
      refused-filling {n} {q} d =
          under-pattern ∙ ap (judged_filling W (kinded s t)) (((filling_refusals W s t b held.in_order).given n q).1 d)

  pub refused-vocabulary : {n q : ℕ} → Decides (VocabularyLine v) n q → fill_judged v p b ≡ refusal n 0 q
  refused-vocabulary {n} {q} d = ap (fill_vocabulary p b) (((vocabulary_refusals v bv).given n q).1 d)

  pub held-fillable : (x : FillInputs) → HoldsFillInputs v p b x → fill_judged v p b ≡ fillable x
  held-fillable x h =
      let W : Vocabulary = x.vocabulary in
      let in_order = h.vocabulary.in_order in
      under-pattern W h.vocabulary x.kind x.pattern h.pattern
      ∙ ap (judged_filling W (kinded x.kind x.pattern))
      ((fillings_inverse W x.kind x.pattern b x.values in_order h.pattern.good bb).1 h.filling)

  pub fillable-held : (x : FillInputs) → fill_judged v p b ≡ fillable x → HoldsFillInputs v p b x
  fillable-held x e = subst (Comes v p b out) e comes
