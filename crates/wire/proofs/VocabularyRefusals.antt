-- VocabularyRefusals: a vocabulary is refused exactly by the lines of the refusal list.
use mathlib.Core.List.{List}
use Prim.Native.Nat.{ℕ}
use Rattle.wire.specs.Parser.{Reading, accept, refuse, read_vocabulary}
use Rattle.wire.specs.Vocabulary.{Vocabulary}
use Rattle.wire.specs.VocabularyLines.{VocabularyLine}
use Rattle.wire.specs.Laws.{VocabularyRefusals}
use Rattle.wire.proofs.Refusals.{Judged, refuses_by}
use Rattle.wire.proofs.VocabularyRead.{VocabularyRead, vocabulary-read}

judged : (b : List ℕ) (r : Reading Vocabulary) → VocabularyRead b r → Judged (VocabularyLine b) r
judged b (accept W) read = read.no_line
judged b (refuse n q) read = read

pub vocabulary_refusals : VocabularyRefusals
vocabulary_refusals b bytes =
    refuses_by (VocabularyLine b) (read_vocabulary b) (judged b (read_vocabulary b) (vocabulary-read b bytes))
