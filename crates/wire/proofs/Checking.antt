-- Checking: what is computed of the two checks' replies keeps what the checks promise.
use mathlib.Core.Path.{◌≡◌, refl, sym, ap, ◌∙◌, subst}
use mathlib.Core.List.{List, [], ◌∷◌}
use mathlib.Core.Logic.{inl, inr}
use mathlib.Core.Option.{Option, some, none}
use Prim.Native.Nat.{ℕ, ◌<◌}
use lib.ListN.{length}
use Rattle.terms.specs.Term.{Term}
use Rattle.wire.specs.Reply.{Reply, accepted, refused, IsBytes, Kinded, kinded}
use Rattle.wire.specs.Map.{bit}
use Rattle.wire.specs.Vocabulary.{Vocabulary, InOrder, HoldsVocabulary}
use Rattle.wire.specs.TermBytes.{word_count, deepest, GoodTerm, HoldsTerm, complete}
use Rattle.wire.specs.VocabularyLines.{byte_at, VocabularyFirst, of_vocabulary, under}
use Rattle.wire.specs.Checking.{VocabularyPromise, CheckRefusal, GapShown, TermPromise}
use Rattle.wire.specs.Parser.{Reading, accept, refuse, read_vocabulary}
use Rattle.wire.specs.GapComputed.{first_gap, gap_or}
use Rattle.wire.specs.CheckComputed.{reply_of, checked_term, vocabulary_reply, term_values, term_reply_under, term_reply}
use Rattle.wire.specs.Laws.{VocabularyKeeps, TermKeeps}
use Rattle.wire.proofs.Bytes.{bytes_of}
use Rattle.wire.proofs.VocabulariesInverse.{vocabularies_inverse}
use Rattle.wire.proofs.VocabularyRefusals.{vocabulary_refusals}
use Rattle.wire.proofs.TermRefusals.{term_refusals}
use Rattle.wire.proofs.Complete.{no_gap_is_complete}
use Rattle.wire.proofs.Gaps.{first_gap_is_exact}
use Rattle.wire.proofs.Inputs.{checked_in, in_checked}

-- ---- a vocabulary

module _ (v : List ℕ) (bv : IsBytes v) where
  abbrev Nothing : Vocabulary → ℕ → ℕ → ℕ → Type 0
  Nothing W n i q = ⊥

  abbrev VocabularyHeld : Reply → Type 0
  VocabularyHeld (refused n i q) = VocabularyFirst v Nothing n i q
  VocabularyHeld (accepted values) = (W : Vocabulary) × HoldsVocabulary v W × (values ≡ [])

  vocabulary-held : VocabularyHeld (vocabulary_reply v)
  vocabulary-held = go (read_vocabulary v) refl
    where
      go : (r : Reading Vocabulary) → read_vocabulary v ≡ r → VocabularyHeld (reply_of 0 (λ W. []) r)
      go (refuse n q) e = of_vocabulary n q (((vocabulary_refusals v bv).given n q).0 e)
      go (accept W) e = (W, (vocabularies_inverse v W bv).0 e, refl)

  vocabulary-refused : {n i q : ℕ} → VocabularyFirst v Nothing n i q → vocabulary_reply v ≡ refused n i q
  vocabulary-refused (of_vocabulary n q d) = ap (reply_of 0 (λ W. [])) (((vocabulary_refusals v bv).given n q).1 d)
  vocabulary-refused (under W n i q held h) = absurd h

pub vocabulary-keeps : VocabularyKeeps
vocabulary-keeps v bv = record {
  refuses = λ n i q. ((λ e. subst (VocabularyHeld v bv) e (vocabulary-held v bv)), vocabulary-refused v bv);
  accepts = λ values. (
    (λ e. subst (VocabularyHeld v bv) e (vocabulary-held v bv)),
    (λ h. ap (reply_of 0 (λ W. [])) ((vocabularies_inverse v h.0 bv).1 h.1) ∙ ap accepted (sym h.2)),
  );
}

pub vocabulary_promised : (v : List ℕ) (r : Reply) → ((i : ℕ) → byte_at v i < 256) → r ≡ vocabulary_reply v → VocabularyPromise v r
vocabulary_promised v r bytes e = subst (VocabularyPromise v) (sym e) (vocabulary-keeps v (bytes_of v bytes))

-- ---- a term

-- What is computed of a good term's gap is what is shown, and nothing else is.
module _ (W : Vocabulary) (b : List ℕ) (s : ℕ) (t : Term) (in_order : InOrder W) (good : GoodTerm W s t) where
  gap-shown : GapShown W b t (gap_or (length b) (first_gap W t))
  gap-shown = go (first_gap W t) refl
    where
      go : (o : Option ℕ) → first_gap W t ≡ o → GapShown W b t (gap_or (length b) o)
      go none e = inl ((no_gap_is_complete W t).0 e, refl)
      go (some q) e = inr ((first_gap_is_exact W s t in_order good q).0 e)

  shown-gap : {q : ℕ} → GapShown W b t q → gap_or (length b) (first_gap W t) ≡ q
  shown-gap (inl (full, e)) = ap (gap_or (length b)) ((no_gap_is_complete W t).1 full) ∙ sym e
  shown-gap {q} (inr gap) = ap (gap_or (length b)) ((first_gap_is_exact W s t in_order good q).1 gap)

module _ (v b : List ℕ) (bv : IsBytes v) (bb : IsBytes b) where
  abbrev Accepted : List ℕ → Type 0
  Accepted values =
      (W : Vocabulary) × (s : ℕ) × (t : Term) × (q : ℕ) × HoldsVocabulary v W × HoldsTerm W b s t × GapShown W b t q ×
      (values ≡ word_count t ∷ deepest t ∷ bit (complete t) ∷ q ∷ [])

  abbrev TermHeld : Reply → Type 0
  TermHeld (refused n i q) = CheckRefusal v b n i q
  TermHeld (accepted values) = Accepted values

  term-held : TermHeld (term_reply v b)
  term-held = vocabulary (read_vocabulary v) refl
    where
      term : (W : Vocabulary) → HoldsVocabulary v W → (r : Reading Kinded) → checked_term W b ≡ r → TermHeld (reply_of 1 (term_values W (length b)) r)
      term W held (refuse n q) e = under W n 1 q held (refl, ((term_refusals W b held.in_order).given n q).0 e)
      term W held (accept k) e =
          let h = checked_in W b k held.in_order bb e in (
            W,
            k.kind,
            k.term,
            gap_or (length b) (first_gap W k.term),
            held,
            h,
            gap-shown W b k.kind k.term held.in_order h.good,
            refl,
          )

      vocabulary : (r : Reading Vocabulary) → read_vocabulary v ≡ r → TermHeld (term_reply_under b r)
      vocabulary (refuse n q) e = of_vocabulary n q (((vocabulary_refusals v bv).given n q).0 e)
      vocabulary (accept W) e = term W ((vocabularies_inverse v W bv).0 e) (checked_term W b) refl

  -- The reply under a good vocabulary.
  reply-under : (W : Vocabulary) → HoldsVocabulary v W → term_reply v b ≡ reply_of 1 (term_values W (length b)) (checked_term W b)
  reply-under W held = ap (term_reply_under b) ((vocabularies_inverse v W bv).1 held)

  term-refused : {n i q : ℕ} → CheckRefusal v b n i q → term_reply v b ≡ refused n i q
  term-refused (of_vocabulary n q d) = ap (term_reply_under b) (((vocabulary_refusals v bv).given n q).1 d)
  term-refused (under W n i q held (one, d)) =
      reply-under W held
      ∙ ap (reply_of 1 (term_values W (length b))) (((term_refusals W b held.in_order).given n q).1 d)
      ∙ ap (λ i. refused n i q) (sym one)

  term-accepted : (values : List ℕ) → Accepted values → term_reply v b ≡ accepted values
  term-accepted values (W, s, t, q, held, h, shown, e) =
      reply-under W held
      ∙ ap (reply_of 1 (term_values W (length b))) (in_checked W b (kinded s t) held.in_order bb h)
      ∙ ap (λ q. accepted (word_count t ∷ deepest t ∷ bit (complete t) ∷ q ∷ [])) (shown-gap W b s t held.in_order h.good shown)
      ∙ ap accepted (sym e)

pub term-keeps : TermKeeps
term-keeps v b bv bb = record {
  refuses = λ n i q. ((λ e. subst (TermHeld v b bv bb) e (term-held v b bv bb)), term-refused v b bv bb);
  accepts = λ values. ((λ e. subst (TermHeld v b bv bb) e (term-held v b bv bb)), term-accepted v b bv bb values);
}

pub term_promised : (v b : List ℕ) (r : Reply) → ((i : ℕ) → byte_at v i < 256) → ((i : ℕ) → byte_at b i < 256) → r ≡ term_reply v b →
    TermPromise v b r
term_promised v b r vocabularyBytes termBytes e =
    subst (TermPromise v b) (sym e) (term-keeps v b (bytes_of v vocabularyBytes) (bytes_of b termBytes))
