-- Checking: what document 01's calls "check" promise of their replies, with what document 02 (iii) adds.
--
--   VocabularyPromise v r    what checking a vocabulary promises of its reply
--   CheckRefusal v b         the number, input and place that the refusal list decides on: lines 1 to 5 and 7 to 15
--   GapShown W b t q         checking the bytes b of the term t shows q as the gap
--   TermPromise v b r        what checking a term promises of its reply
--
-- Each promise says of every number, input and place, and of all values, whether they are the reply. So it fixes the reply
-- (VocabularyFixed, TermFixed in Laws, and the like for the other calls).
--
use Rattle.std.specs.Prelude.{◌≡◌, true, List, [], ◌∷◌, ◌↔◌, ◌⊎◌, ℕ, length}
use Rattle.terms.specs.Term.{Term}
use Rattle.wire.specs.Reply.{Reply, accepted, refused}
use Rattle.wire.specs.Map.{bit}
use Rattle.wire.specs.Vocabulary.{Vocabulary, HoldsVocabulary}
use Rattle.wire.specs.TermBytes.{word_count, deepest, HoldsTerm, complete}
use Rattle.wire.specs.Refusals.{Decides}
use Rattle.wire.specs.VocabularyLines.{VocabularyFirst}
use Rattle.wire.specs.TermLines.{TermLine}
use Rattle.wire.specs.SituationLines.{FirstGap}

pub record VocabularyPromise (v : List ℕ) (r : Reply) : Type 0 where
  -- Demand 1: "a faulty one gets the number that its refusal list decides, with the input and place". Nothing else is
  -- judged.
  pub refuses : (n i q : ℕ) → (r ≡ refused n i q) ↔ VocabularyFirst v (λ W n i q. ⊥) n i q
  -- Demand 1: "no sound one is refused". "An accepted vocabulary's answer says that alone."
  pub accepts : (values : List ℕ) → (r ≡ accepted values) ↔ ((W : Vocabulary) × HoldsVocabulary v W × (values ≡ []))

-- "A term check alone counts its term as input 1."
abbrev pub CheckRefusal : List ℕ → List ℕ → ℕ → ℕ → ℕ → Type 0
CheckRefusal v b = VocabularyFirst v (λ W n i q. (i ≡ 1) × Decides (TermLine W b) n q)

-- Document 02 (iii): "where its first gap is, placed as in 16. .. A complete term shows its length as the gap."
abbrev pub GapShown : Vocabulary → List ℕ → Term → ℕ → Type 0
GapShown W b t q = ((complete t ≡ true) × (q ≡ length b)) ⊎ FirstGap W t q

pub record TermPromise (v b : List ℕ) (r : Reply) : Type 0 where
  -- Demand 1: "a faulty one gets the number that its refusal list decides, with the input and place".
  pub refuses : (n i q : ℕ) → (r ≡ refused n i q) ↔ CheckRefusal v b n i q
  -- Demand 1: "no sound one is refused". "An accepted term's answer holds its number of words .. and its deepest level."
  -- Document 02 (iii): "The reading of a term is to say itself whether the term is complete and where its first gap is ..,
  -- and the check answer shows both."
  pub accepts : (values : List ℕ) →
      (r ≡ accepted values) ↔
      ((W : Vocabulary) × (s : ℕ) × (t : Term) × (q : ℕ) × HoldsVocabulary v W × HoldsTerm W b s t × GapShown W b t q ×
      (values ≡ word_count t ∷ deepest t ∷ bit (complete t) ∷ q ∷ []))
