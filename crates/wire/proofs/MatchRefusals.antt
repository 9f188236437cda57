-- MatchRefusals: match refuses exactly where and as the refusal list decides, over its inputs in their order.
use mathlib.Core.Path.{◌≡◌, refl, ap, ◌∙◌, subst}
use mathlib.Core.Bool.{Bool, true, false, cond}
use mathlib.Core.List.{List}
use mathlib.Core.Option.{Option, some, none}
use Prim.Native.Nat.{ℕ}
use lib.Dec.{eqb}
use lib.ListN.{length}
use borrow.Author.Tests.{eqb-false, ne_eqb}
use Rattle.terms.specs.Term.{Ground}
use Rattle.terms.specs.Filling.{Filling}
use Rattle.terms.specs.Matcher.{matcher}
use Rattle.wire.specs.Reply.{Reply, accepted, refused, IsBytes, Kinded, kinded}
use Rattle.wire.specs.Parser.{Reading, accept, refuse, read_vocabulary}
use Rattle.wire.specs.Vocabulary.{Vocabulary, HoldsVocabulary}
use Rattle.wire.specs.TermBytes.{HoldsTerm}
use Rattle.wire.specs.CheckComputed.{checked_term}
use Rattle.wire.specs.SituationComputed.{checked_situation}
use Rattle.wire.specs.Matching.{Inputs, table_length, HoldsInputs, MatchUnder, MatchRefusal, of_pattern, of_situation, of_table}
use Rattle.wire.specs.MatchComputed.{Judged, clear, refusal, judged_situation, judged_pattern, judged_vocabulary, judged, verdict, matched_with, matched}
use Rattle.wire.specs.VocabularyLines.{of_vocabulary, under}
use Rattle.wire.specs.Effect.{Effect}
use Rattle.wire.proofs.Cond.{cond_false}
use Rattle.wire.proofs.VocabulariesInverse.{vocabularies_inverse}
use Rattle.wire.proofs.VocabularyRefusals.{vocabulary_refusals}
use Rattle.wire.proofs.TermRefusals.{term_refusals}
use Rattle.wire.proofs.SituationRefusals.{situation_refusals}
use Rattle.wire.proofs.Inputs.{checked_in, in_checked, clear_is_held}

module _ (v p s table : List ℕ) (bv : IsBytes v) (bp : IsBytes p) (bs : IsBytes s) where
  -- What the list is to decide on, where the reply is a refusal.
  abbrev Decided : Reply → Type 0
  Decided (accepted l) = Unit {0}
  Decided (refused n i q) = MatchRefusal v p s table n i q

  -- Inputs that are judged and refused.
  abbrev Given : Judged → Type 0
  Given (clear x) = Unit {0}
  Given (refusal n i q) = MatchRefusal v p s table n i q

  given : Given (judged v p s)
  given = vocabulary (read_vocabulary v) refl
    where
      situation : (W : Vocabulary) → HoldsVocabulary v W → (k : Kinded) → HoldsTerm W p k.kind k.term →
          (r : Reading Ground) → checked_situation W k.kind s ≡ r → Given (judged_situation W k r)
      situation W held k h (accept g) e = tt
      situation W held k h (refuse n q) e =
          under W n 2 q held
          (of_situation k.kind k.term n q h (((situation_refusals W k.kind s held.in_order bs).given n q).0 e))

      pattern : (W : Vocabulary) → HoldsVocabulary v W → (r : Reading Kinded) → checked_term W p ≡ r → Given (judged_pattern W s r)
      pattern W held (refuse n q) e = under W n 1 q held (of_pattern n q (((term_refusals W p held.in_order).given n q).0 e))
      pattern W held (accept k) e =
          situation W held k (checked_in W p k held.in_order bp e) (checked_situation W k.kind s) refl

      vocabulary : (r : Reading Vocabulary) → read_vocabulary v ≡ r → Given (judged_vocabulary p s r)
      vocabulary (refuse n q) e = of_vocabulary n q (((vocabulary_refusals v bv).given n q).0 e)
      vocabulary (accept W) e = pattern W ((vocabularies_inverse v W bv).0 e) (checked_term W p) refl

  decided : Decided (matched v p s table).reply
  decided = go (judged v p s) refl given
    where
      answer : (x : Inputs) (o : Option Filling) → Decided (verdict table x o).reply
      answer x (some f) = tt
      answer x none = tt

      room : (x : Inputs) → HoldsInputs v p s x → (c : Bool) → eqb (length table) table_length ≡ c →
          Decided (cond {A = Effect} c (verdict table x (matcher x.pattern x.situation)) (record { reply = refused 19 3 0; after = table })).reply
      room x held true e = answer x (matcher x.pattern x.situation)
      room x held false e =
          under x.vocabulary 19 3 0 held.vocabulary
          (of_table x.kind x.pattern x.situation held.pattern held.situation (eqb-false (length table) table_length e))

      go : (j : Judged) → judged v p s ≡ j → Given j → Decided (matched_with table j).reply
      go (refusal n i q) e h = h
      go (clear x) e h = room x ((clear_is_held v p s x bv bp bs).0 e) (eqb (length table) table_length) refl

  pub match_refuses : (n i q : ℕ) → (matched v p s table).reply ≡ refused n i q → MatchRefusal v p s table n i q
  match_refuses n i q e = subst Decided e decided

  refused-under : (W : Vocabulary) → HoldsVocabulary v W → {n i q : ℕ} → MatchUnder p s table W n i q → (matched v p s table).reply ≡ refused n i q
  refused-under W held (of_pattern n q d) =
      ap (λ r. (matched_with table (judged_vocabulary p s r)).reply) ((vocabularies_inverse v W bv).1 held)
      ∙ ap (λ r. (matched_with table (judged_pattern W s r)).reply) (((term_refusals W p held.in_order).given n q).1 d)
  refused-under W held (of_situation k t n q h d) =
      ap (λ r. (matched_with table (judged_vocabulary p s r)).reply) ((vocabularies_inverse v W bv).1 held)
      ∙ ap (λ r. (matched_with table (judged_pattern W s r)).reply) (in_checked W p (kinded k t) held.in_order bp h)
      ∙ ap (λ r. (matched_with table (judged_situation W (kinded k t) r)).reply) (((situation_refusals W k s held.in_order bs).given n q).1 d)
  refused-under W held (of_table k t g h h' long) =
      let x : Inputs = record { vocabulary = W; kind = k; pattern = t; situation = g } in
      ap (λ j. (matched_with table j).reply)
      ((clear_is_held v p s x bv bp bs).1 (record { vocabulary = held; pattern = h; situation = h' }))
      ∙ ap (λ (m : Effect). m.reply) (cond_false (eqb (length table) table_length) _ _ (ne_eqb (length table) table_length long))

  pub match_refused : {n i q : ℕ} → MatchRefusal v p s table n i q → (matched v p s table).reply ≡ refused n i q
  match_refused (of_vocabulary n q d) =
      ap (λ r. (matched_with table (judged_vocabulary p s r)).reply) (((vocabulary_refusals v bv).given n q).1 d)
  match_refused (under W n i q held d) = refused-under W held d
