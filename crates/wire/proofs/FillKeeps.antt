-- FillKeeps: what is computed of fill keeps its promise.
--
--   inputs, is_large, large_is, is_within, within_is    the limits, and the test of them
--   with_large, with_short, with_room    what is computed of inputs in order
--   Fillable, Decided, decided, refused_by, answered_by    what a reply comes of
--   fill_inputs_are_one, fill-keeps      the laws
--
use mathlib.Core.Path.{◌≡◌, refl, sym, ap, ◌∙◌, subst}
use mathlib.Core.Bool.{Bool, true, false, cond, ◌||◌}
use mathlib.Core.List.{List, [], ◌∷◌, ◌++◌}
use mathlib.Core.Logic.{◌⊎◌, inl, inr}
use Prim.Native.Nat.{ℕ, ◌<◌, ◌≤◌}
use native.Mathlib.Omega.{arith}
use lib.Dec.{ltb}
use lib.ListN.{length, take, drop, length-append}
use lib.Seq.{take_at, drop_at}
use borrow.Author.Tests.{lt-ltb, le-ltb, ltb-true, ltb-false}
use Rattle.terms.specs.Term.{Term}
use Rattle.terms.specs.Filling.{Binding}
use Rattle.terms.specs.Replacing.{replace}
use Rattle.terms.proofs.Replacing.{replacing_is_substitution}
use Rattle.terms.proofs.Bools.{or_left, or_right, or_neither, or_parts}
use Rattle.wire.specs.Reply.{Reply, accepted, refused, IsBytes}
use Rattle.wire.specs.Vocabulary.{Vocabulary, signature, HoldsVocabulary}
use Rattle.wire.specs.TermBytes.{encode_term, deepest, most_bytes, most_levels, Limits, HoldsTerm}
use Rattle.wire.specs.Filled.{FillInputs, HoldsFillInputs, filled_term, filled_bytes, FillUnder, FillRefusal, of_pattern, of_filling, too_large, no_room, MatchesBack, Result}
use Rattle.wire.specs.VocabularyLines.{of_vocabulary, under}
use Rattle.wire.specs.Effect.{Effect}
use Rattle.wire.specs.FillComputed.{FillJudged, fillable, refusal, fill_judged, large, filled_into, filled_with, filled}
use Rattle.wire.specs.Laws.{FillInputsAreOne, FillKeeps}
use Rattle.wire.proofs.Cond.{cond_true, cond_false, choice}
use Rattle.wire.proofs.Levels.{deepest-bytes}
use Rattle.wire.proofs.Matching.{not_accepted}
use Rattle.wire.proofs.FilledTerms.{filled_is_good}
use Rattle.wire.proofs.FilledMatches.{matches_back}
use Rattle.wire.proofs.FillJudging.{Comes, comes, refused-vocabulary, refused-pattern, refused-filling, held-fillable}

-- ---- the limits

module _ (W : Vocabulary) (s : ℕ) (t : Term) (bs : List Binding) where
  abbrev inputs : FillInputs
  inputs = record { vocabulary = W; kind = s; pattern = t; values = bs }

  pub is_large : (most_bytes < length (encode_term W s (replace bs t))) ⊎ (most_levels < deepest (replace bs t)) → large inputs ≡ true
  is_large (inl h) = or_left (ltb most_bytes (length (filled_bytes inputs))) (ltb most_levels (deepest (filled_term inputs))) (lt-ltb _ _ h)
  is_large (inr h) = or_right (ltb most_bytes (length (filled_bytes inputs))) (ltb most_levels (deepest (filled_term inputs))) (lt-ltb _ _ h)

  pub large_is : large inputs ≡ true → (most_bytes < length (encode_term W s (replace bs t))) ⊎ (most_levels < deepest (replace bs t))
  large_is e = bytes (ltb most_bytes (length (filled_bytes inputs))) refl
    where
      bytes : (c : Bool) → ltb most_bytes (length (filled_bytes inputs)) ≡ c →
          (most_bytes < length (encode_term W s (replace bs t))) ⊎ (most_levels < deepest (replace bs t))
      bytes true h = inl (ltb-true _ _ h)
      bytes false h = inr (ltb-true _ _ (sym (ap (λ c. c || ltb most_levels (deepest (filled_term inputs))) h) ∙ e))

  pub is_within : Limits (encode_term W s (replace bs t)) (replace bs t) → large inputs ≡ false
  is_within h =
      or_neither (ltb most_bytes (length (filled_bytes inputs))) (ltb most_levels (deepest (filled_term inputs)))
      (le-ltb _ _ h.most) (le-ltb _ _ h.levels)

  pub within_is : large inputs ≡ false → Limits (encode_term W s (replace bs t)) (replace bs t)
  within_is e =
      let parts = or_parts (ltb most_bytes (length (filled_bytes inputs))) (ltb most_levels (deepest (filled_term inputs))) e in
      record {
        least = omega (arith, deepest-bytes W (replace bs t));
        most = ltb-false _ _ parts.0;
        levels = ltb-false _ _ parts.1;
      }

-- ---- what is computed

module _ (out : List ℕ) (x : FillInputs) where
  pub with_large : large x ≡ true → filled_with out (fillable x) ≡ record { reply = refused 23 4 0; after = out }
  with_large e = cond_true (large x) _ _ e

  pub with_short : large x ≡ false → length out < length (filled_bytes x) →
      filled_with out (fillable x) ≡ record { reply = refused 20 3 (length (filled_bytes x)); after = out }
  with_short e h = cond_false (large x) _ _ e ∙ cond_true (ltb (length out) (length (filled_bytes x))) _ _ (lt-ltb _ _ h)

  pub with_room : large x ≡ false → length (filled_bytes x) ≤ length out →
      filled_with out (fillable x)
      ≡ record { reply = accepted (length (filled_bytes x) ∷ []); after = filled_bytes x ++ drop (length (filled_bytes x)) out }
  with_room e h = cond_false (large x) _ _ e ∙ cond_false (ltb (length out) (length (filled_bytes x))) _ _ (le-ltb _ _ h)

module _ (v p b out : List ℕ) (bv : IsBytes v) (bp : IsBytes p) (bb : IsBytes b) where
  -- What an accepted reply comes of.
  abbrev pub Fillable : List ℕ → Type 0
  Fillable values =
      (x : FillInputs) × HoldsFillInputs v p b x × Limits (filled_bytes x) (filled_term x) × (length (filled_bytes x) ≤ length out) ×
      (values ≡ length (filled_bytes x) ∷ [])

  abbrev pub Decided : Reply → Type 0
  Decided (accepted values) = Fillable values
  Decided (refused n i q) = FillRefusal v p b out n i q

  pub decided : Decided (filled v p b out).reply
  decided = go (fill_judged v p b) (comes v p b out bv bp bb)
    where
      room : (x : FillInputs) → HoldsFillInputs v p b x → Limits (filled_bytes x) (filled_term x) →
          (c : Bool) → ltb (length out) (length (filled_bytes x)) ≡ c →
          Decided (cond {A = Effect} c (record { reply = refused 20 3 (length (filled_bytes x)); after = out })
          (record { reply = accepted (length (filled_bytes x) ∷ []); after = filled_bytes x ++ drop (length (filled_bytes x)) out })).reply
      room x h l true e =
          under x.vocabulary 20 3 _ h.vocabulary
          (no_room x.kind x.pattern x.values h.pattern h.filling l (ltb-true _ _ e))
      room x h l false e = (x, h, l, ltb-false _ _ e, refl)

      size : (x : FillInputs) → HoldsFillInputs v p b x → (c : Bool) → large x ≡ c →
          Decided (cond {A = Effect} c (record { reply = refused 23 4 0; after = out }) (filled_into out (filled_bytes x))).reply
      size x h true e =
          under x.vocabulary 23 4 0 h.vocabulary
          (too_large x.kind x.pattern x.values h.pattern h.filling (large_is x.vocabulary x.kind x.pattern x.values e))
      size x h false e =
          room x h (within_is x.vocabulary x.kind x.pattern x.values e) (ltb (length out) (length (filled_bytes x))) refl

      go : (j : FillJudged) → Comes v p b out j → Decided (filled_with out j).reply
      go (refusal n i q) h = h
      go (fillable x) h = size x h (large x) refl

  abbrev judged-held : (x : FillInputs) → HoldsFillInputs v p b x → filled v p b out ≡ filled_with out (fillable x)
  judged-held x h = ap (filled_with out) (held-fillable v p b out bv bp bb x h)

  refused-under : (W : Vocabulary) → HoldsVocabulary v W → {n i q : ℕ} → FillUnder p b out W n i q → (filled v p b out).reply ≡ refused n i q
  refused-under W held (of_pattern n q d) =
      ap (λ j. (filled_with out j).reply) (refused-pattern v p b out bv bp bb W held d)
  refused-under W held (of_filling s t n q h d) =
      ap (λ j. (filled_with out j).reply) (refused-filling v p b out bv bp bb W held s t h d)
  refused-under W held (too_large s t bs h g l) =
      let x : FillInputs = inputs W s t bs in
      ap (λ (e : Effect). e.reply) (judged-held x (record { vocabulary = held; pattern = h; filling = g }) ∙ with_large out x (is_large W s t bs l))
  refused-under W held (no_room s t bs h g l short) =
      let x : FillInputs = inputs W s t bs in
      ap (λ (e : Effect). e.reply)
      (judged-held x (record { vocabulary = held; pattern = h; filling = g }) ∙ with_short out x (is_within W s t bs l) short)

  pub refused_by : {n i q : ℕ} → FillRefusal v p b out n i q → (filled v p b out).reply ≡ refused n i q
  refused_by (of_vocabulary n q d) =
      ap (λ j. (filled_with out j).reply) (refused-vocabulary v p b out bv bp bb d)
  refused_by (under W n i q held d) = refused-under W held d

  -- Inputs that are held and whose result fits.
  module _ (x : FillInputs) (h : HoldsFillInputs v p b x) (l : Limits (filled_bytes x) (filled_term x)) (fits : length (filled_bytes x) ≤ length out) where
    pub written : filled v p b out ≡ record { reply = accepted (length (filled_bytes x) ∷ []); after = filled_bytes x ++ drop (length (filled_bytes x)) out }
    written = judged-held x h ∙ with_room out x (is_within x.vocabulary x.kind x.pattern x.values l) fits

  pub answered_by : (values : List ℕ) → Fillable values → (filled v p b out).reply ≡ accepted values
  answered_by values (x, h, l, fits, e) = ap (λ (r : Effect). r.reply) (written x h l fits) ∙ ap accepted (sym e)

-- A refusal leaves the lent slice as it was.
refused-kept : (v p b out : List ℕ) (n i q : ℕ) → (filled v p b out).reply ≡ refused n i q → (filled v p b out).after ≡ out
refused-kept v p b out n i q e = go (fill_judged v p b) e
  where
    Kept : Effect → Type 0
    Kept r = r.reply ≡ refused n i q → r.after ≡ out

    go : (j : FillJudged) → (filled_with out j).reply ≡ refused n i q → (filled_with out j).after ≡ out
    go (refusal m k r) e = refl
    go (fillable x) e =
        choice Kept (large x) _ _ (λ c e. refl)
        (λ c. choice Kept (ltb (length out) (length (filled_bytes x))) _ _ (λ c e. refl) (λ c e. absurd (not_accepted n i q _ (sym e)))) e

-- ---- the promise

pub fill_inputs_are_one : FillInputsAreOne
fill_inputs_are_one v p b x y bv bp bb h k =
    let e = held-fillable v p b [] bv bp bb x h in
    let f = held-fillable v p b [] bv bp bb y k in
    cc (e, f)

module _ (v p b out : List ℕ) (bv : IsBytes v) (bp : IsBytes p) (bb : IsBytes b) (m : ℕ) (e : (filled v p b out).reply ≡ accepted (m ∷ []))
    (x : FillInputs) (h : HoldsFillInputs v p b x) where
  accepts : Fillable v p b out bv bp bb (m ∷ [])
  accepts = subst (Decided v p b out bv bp bb) e (decided v p b out bv bp bb)

  same : accepts.0 ≡ x
  same = fill_inputs_are_one v p b accepts.0 x bv bp bb accepts.1 h

  within : Limits (filled_bytes x) (filled_term x)
  within = subst (λ x. Limits (filled_bytes x) (filled_term x)) same accepts.2

  fits : length (filled_bytes x) ≤ length out
  fits = subst (λ x. length (filled_bytes x) ≤ length out) same accepts.3

  long : m ≡ length (filled_bytes x)
  long = let first : m ≡ length (filled_bytes accepts.0) = cc accepts.4 in first ∙ ap (λ x. length (filled_bytes x)) same

  pub after-written : (filled v p b out).after ≡ filled_bytes x ++ drop (length (filled_bytes x)) out
  after-written = ap (λ (r : Effect). r.after) (written v p b out bv bp bb x h within fits)

  front : take m (filled v p b out).after ≡ filled_bytes x
  front = ap (take m) after-written ∙ take_at (filled_bytes x) (drop (length (filled_bytes x)) out) m (sym long)

  pub result-kept : Result v p b x m (filled v p b out).after
  result-kept = record {
    inside = omega (arith, long, ap length after-written, length-append (filled_bytes x) (drop (length (filled_bytes x)) out));
    written =
        subst (λ l. HoldsTerm x.vocabulary l x.kind (filled_term x)) (sym front)
        (record {
          good = filled_is_good x.vocabulary x.kind x.pattern x.values h.pattern.good h.filling.good;
          written = refl;
          limits = within;
        });
    applied =
        (replacing_is_substitution (signature x.vocabulary) x.pattern x.kind x.values h.pattern.good.sorted
        h.filling.good.sorted).1;
    matches = λ c. subst (MatchesBack v p b x) (sym front) (matches_back v p b x bv bp bb h within c);
  }

  pub behind-kept : drop m (filled v p b out).after ≡ drop m out
  behind-kept =
      ap (drop m) after-written ∙ drop_at (filled_bytes x) (drop (length (filled_bytes x)) out) m (sym long) ∙ ap (λ k. drop k out) (sym long)

pub fill-keeps : FillKeeps
fill-keeps v p b out bv bp bb = record {
  refuses = λ n i q. (
    (λ e. subst (Decided v p b out bv bp bb) e (decided v p b out bv bp bb)),
    refused_by v p b out bv bp bb,
  );
  answered = λ values. (
    (λ e. subst (Decided v p b out bv bp bb) e (decided v p b out bv bp bb)),
    answered_by v p b out bv bp bb values,
  );
  result = result-kept v p b out bv bp bb;
  behind = λ m e.
      let x : Fillable v p b out bv bp bb (m ∷ []) =
      subst (Decided v p b out bv bp bb) e (decided v p b out bv bp bb) in
      behind-kept v p b out bv bp bb m e x.0 x.1;
  kept = refused-kept v p b out;
}
