-- VocabulariesInverse: a vocabulary is accepted exactly where it is the writing of a good one, and bytes write one only.
use mathlib.Core.Path.{◌≡◌, sym, ◌∙◌, ap}
use mathlib.Core.List.{List}
use Prim.Native.Nat.{ℕ}
use native.Mathlib.Omega.{arith}
use Rattle.wire.specs.Reply.{IsBytes}
use Rattle.wire.specs.Parser.{Reading, accept, refuse, read_vocabulary}
use Rattle.wire.specs.Vocabulary.{Vocabulary, HoldsVocabulary}
use Rattle.wire.specs.Laws.{VocabulariesInverse}
use Rattle.wire.proofs.VocabularyWritten.{read-written}
use Rattle.wire.proofs.VocabularyRead.{Accepted, VocabularyRead, vocabulary-read}

accepted : (b : List ℕ) (W : Vocabulary) (r : Reading Vocabulary) → VocabularyRead b r → r ≡ accept W → Accepted b W
accepted b W (accept X) read e = let same : X ≡ W = cc in rw same at read
accepted b W (refuse n q) read e = let z : ◌≡◌ {A = ℕ} 0 1 = cc in absurd (omega arith)

pub vocabularies_inverse : VocabulariesInverse
vocabularies_inverse b W bytes = (
  (λ e. let read = accepted b W (read_vocabulary b) (vocabulary-read b bytes) e in record { in_order = read.in_order; written = read.bytes }),
  (λ h. ap read_vocabulary h.written ∙ read-written W h.in_order),
)

pub accept-same : {A : Type 0} (x y : A) → accept x ≡ accept y → x ≡ y
accept-same x y e = ap (accepted_or x) e
  where
    accepted_or : {A : Type 0} → A → Reading A → A
    accepted_or x (accept y) = y
    accepted_or x (refuse n q) = x

-- The bytes of a vocabulary write no other.
pub vocabulary_is_one : (v : List ℕ) (W W' : Vocabulary) → IsBytes v → HoldsVocabulary v W → HoldsVocabulary v W' → W ≡ W'
vocabulary_is_one v W W' bv h h' = accept-same W W' (sym ((vocabularies_inverse v W bv).1 h) ∙ (vocabularies_inverse v W' bv).1 h')
